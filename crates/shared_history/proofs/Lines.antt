-- Lists of lines and of their entries.
use Rattle.std.proofs.Common.{◌≡◌, suc, List, [], ◌∷◌, ◌++◌, length, All, refl, ap, sym, ◌∙◌}
use Rattle.std.proofs.lemmas.List.Elements.{All-nil, All-cons, All-head, All-tail}
use mathlib.Core.List.{IsPrefix}
use Rattle.shared_history.specs.Inner.Lines.{entries_of}
use Rattle.shared_history.specs.declared.line.Line.{Line}

pub all_rest : {X : Type 0} (P : X → Type 0) (xs ys : List X) → All P (xs ++ ys) → All P ys
all_rest P [] ys h = h
all_rest P (x ∷ xs) ys h = all_rest P xs ys (All-tail P x (xs ++ ys) h)

pub all_front : {X : Type 0} (P : X → Type 0) (xs ys : List X) → All P (xs ++ ys) → All P xs
all_front P [] ys h = All-nil P
all_front P (x ∷ xs) ys h = All-cons P x xs (All-head P x (xs ++ ys) h) (all_front P xs ys (All-tail P x (xs ++ ys) h))

module _ {O E : Type 0} where
  pub entries_append : (xs ys : List (Line O E)) → entries_of (xs ++ ys) ≡ entries_of xs ++ entries_of ys
  entries_append [] ys = refl
  entries_append (x ∷ xs) ys = ap (λ w. x.entry ∷ w) (entries_append xs ys)

  pub prefix_entries : (xs ys : List (Line O E)) → IsPrefix xs ys → IsPrefix (entries_of xs) (entries_of ys)
  prefix_entries xs ys p = (entries_of p.0, sym (entries_append xs p.0) ∙ ap entries_of p.1)

  pub entries_length : (xs : List (Line O E)) → length (entries_of xs) ≡ length xs
  entries_length [] = refl
  entries_length (x ∷ xs) = ap suc (entries_length xs)
