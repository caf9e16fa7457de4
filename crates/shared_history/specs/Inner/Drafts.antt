-- The line that a draft asks for.
use Rattle.std.specs.Prelude.{◌≡◌, ℕ, List, [], ◌∷◌, ◌++◌, length}
use Rattle.logbook.specs.Pages.{Nib}
use Rattle.shared_history.specs.Inner.Kept.{IsWritten}
use Rattle.shared_history.specs.Inner.Lines.{line, IsLegal, IsUnused}
use Rattle.shared_history.specs.declared.entry.Deed.{Deed}
use Rattle.shared_history.specs.declared.entry.Deed.TheVariants as deed
use Rattle.shared_history.specs.declared.line.Ask.{Ask}
use Rattle.shared_history.specs.declared.line.Ask.TheVariants.{Opened, Called, Silent}
use Rattle.shared_history.specs.declared.line.Draft.{Draft}
use Rattle.shared_history.specs.declared.line.Line.{Line}
use Rattle.shared_history.specs.declared.line.Silent as silent
use Rattle.shared_history.specs.declared.line.Silent.TheVariants.{Looked, Split, Left}

module _ {O E : Type 0} where
  abbrev pub silent_deed : silent.Silent → Deed O E
  silent_deed Looked = deed.Looked
  silent_deed Split = deed.Split
  silent_deed Left = deed.Left

  abbrev pub deed_of : Ask O E → Deed O E
  deed_of (Opened origin) = deed.Opened origin.now
  deed_of (Called event) = deed.Called event.now
  deed_of (Silent kind) = silent_deed kind

  -- by the pens whose cells the turns are
  abbrev pub drafted : ℕ → Ask O E → Nib → Nib → Nib → Line O E
  drafted seat ask turn next child = line seat (deed_of ask) turn.key next.key child.key

  abbrev pub line_of : Draft O E → Line O E
  line_of draft = drafted draft.seat draft.ask draft.turn.now.nib draft.next.now.nib draft.child.now.nib

  -- what a step asks for that adds nothing
  abbrev pub no_line : Line O E
  no_line = line 0 deed.Left 0 0 0

module _ {O E : Type 0} (may : O → List E → E → Type 0) where
  -- where these are all lines, and none uses up the turn of this one, it may come next
  abbrev pub MayAdd : List (Line O E) → ℕ → Line O E → Type 0
  MayAdd lines count l = length lines ≡ count → IsUnused l.turn lines → IsLegal may (lines ++ l ∷ [])

  abbrev pub Writes : List (Line O E) → List (Line O E) → List (Line O E) → ℕ → Ask O E → Nib → Nib → Type 0
  Writes seen old new number ask next child = IsWritten may seen old new number next.key child.key (deed_of ask)
