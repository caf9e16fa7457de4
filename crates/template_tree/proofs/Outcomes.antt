-- A short text spells a tree, or has an error.
use Rattle.std.proofs.Common.{◌≡◌, ℕ, zero, suc, ◌+◌, ◌-◌, ◌≤◌, ◌⊎◌, inl, inr, List, []}
use Rattle.std.proofs.Common.{◌∷◌, ◌<◌, nat_le, length, Result, Ok, Err, refl, ap, subst, arith}
use Rattle.std.proofs.lemmas.Bool.{cases_Bool, leb-true, leb-false}
use Rattle.template_tree.specs.declared.error.TemplateError.{TemplateError}
use Rattle.template_words.specs.declared.error.TagError.{TagError}
use Rattle.template_words.specs.declared.error.TagError.TheVariants.{UnclosedTag}
use Rattle.template_tree.specs.declared.error.TemplateErrorKind.TheVariants.{Tag, TooLong}
use Rattle.template_tree.specs.declared.parser.TheConstants.{TEXT_LIMIT}
use Rattle.template_tags.specs.declared.level.Level.{Level}
use Rattle.template_tree.specs.Grammar.{Spells, IsTemplateError}
use Rattle.template_tree.specs.Shown.Laws.{IsReadAs}
use Rattle.template_tree.specs.Inner.Frames.{Nest, with_token, BeginWithin, Read}
use Rattle.template_tree.specs.Source.{Source}
use Rattle.template_tree.specs.Tokens.{token, tag_error, ended, next_of}
use Rattle.template_tree.specs.Tree.{Nodes}
use Rattle.template_tree.proofs.Progress.{nothing_read, read_none, read_more, read_all, read_open, read_error_at}
use Rattle.template_tree.proofs.Unique.{one_tree, never_both, one_error}
use Rattle.template_tree.proofs.Rows.{token_shorter, mark_fits, ended_empty, leads_shorter}

-- where reading ends
data Outcome (source : Source) : Type 0 where
  reached : (nest : Nest) → Read source nest [] → Outcome source
  stopped : (nest : Nest) (rest mark : List ℕ) (f : TagError) → Read source nest rest
      → next_of nest.levels rest ≡ tag_error f mark → Outcome source

outcome : (source : Source) (n : ℕ) (nest : Nest) (rest : List ℕ) → length source.text ≤ TEXT_LIMIT
    → length rest ≤ n → Read source nest rest → Outcome source
outcome source zero nest [] short le r = reached nest r
outcome source zero nest (b ∷ bs) short le r = absurd (omega arith)
outcome source (suc n) nest rest short le r =
    elim (next_of nest.levels rest) as (λ x. next_of nest.levels rest ≡ x → Outcome source) [
      | token t more ↦ λ e.
          outcome source n (with_token source.escape (length rest) t nest) more short
          (omega (arith, token_shorter nest.levels rest more t e)) (read_more source nest rest more t short r e)
      | tag_error f mark ↦ λ e. stopped nest rest mark f r e
      | ended ↦ λ e. reached nest (subst (Read source nest) (ended_empty nest.levels rest e) r)
    ] refl

-- an error at that byte
found : TagError → ℕ → TemplateError
found f at = record { kind = Tag f; at = at }

all_read : (source : Source) (nest : Nest) (levels : List Level) → nest.levels ≡ levels
    → length source.text ≤ TEXT_LIMIT → Read source nest []
    → ((tree : Nodes) × Spells source tree) ⊎ ((e : TemplateError) × IsTemplateError source.text e)
unfolding found
all_read source nest [] e short r = inl (nest.here, read_all source nest short r e)
all_read source nest (level ∷ levels) e short r =
    let within = subst (BeginWithin (length source.text)) e r.within in
    let at = length source.text - level.left in
    inr (found UnclosedTag at, read_open source nest level levels at short r e (omega (arith, within.0)))

decided : (source : Source) → length source.text ≤ TEXT_LIMIT → Outcome source
    → ((tree : Nodes) × Spells source tree) ⊎ ((e : TemplateError) × IsTemplateError source.text e)
unfolding found
decided source short (reached nest r) = all_read source nest nest.levels refl short r
decided source short (stopped nest rest mark f r w) =
    let at = length source.text - length mark in
    let offset : at + length mark ≡ length source.text =
    omega (
      arith,
      mark_fits nest.levels rest mark f w,
      leads_shorter r.tokens [] nest.levels source.text rest r.leads,
    ) in
    inr (found f at, read_error_at source nest rest (Tag f) at short r (mark, w, offset))

tree_or_error : (source : Source) → length source.text ≤ TEXT_LIMIT
    → ((tree : Nodes) × Spells source tree) ⊎ ((e : TemplateError) × IsTemplateError source.text e)
tree_or_error source short =
    decided source short
    (outcome source (length source.text) nothing_read source.text short (omega arith) (read_none source))

same_outcome : (source : Source) (a b : Result Nodes TemplateError) → IsReadAs source a → IsReadAs source b → a ≡ b
same_outcome source (Ok t) (Ok u) p q = ap Ok (one_tree source t u p q)
same_outcome source (Ok t) (Err e) p q = absurd (never_both source t e p q)
same_outcome source (Err e) (Ok t) p q = absurd (never_both source t e q p)
same_outcome source (Err d) (Err e) p q = ap Err (one_error source.text d e p q)

-- a source is read so, and as nothing else
abbrev IsOutcome : Source → Result Nodes TemplateError → Type 0
IsOutcome source outcome =
    IsReadAs source outcome × ((other : Result Nodes TemplateError) → IsReadAs source other → outcome ≡ other)

is_outcome : (source : Source) (outcome : Result Nodes TemplateError) → IsReadAs source outcome
    → IsOutcome source outcome
is_outcome source outcome is = (is, λ other h. same_outcome source outcome other is h)

too_long : TemplateError
too_long = record { kind = TooLong; at = TEXT_LIMIT }

is_too_long : (source : Source) → TEXT_LIMIT < length source.text → IsReadAs source (Err too_long)
unfolding too_long
is_too_long source long = (long, refl)

pub one_outcome : (source : Source) → (outcome : Result Nodes TemplateError) × IsOutcome source outcome
one_outcome source = elim (cases_Bool (nat_le (length source.text) TEXT_LIMIT)) [
  | inl t ↦ elim (tree_or_error source (leb-true (length source.text) TEXT_LIMIT t)) [
    | inl tree ↦ (Ok tree.0, is_outcome source (Ok tree.0) tree.1)
    | inr error ↦ (Err error.0, is_outcome source (Err error.0) error.1)
  ]
  | inr f ↦ (
    Err too_long,
    is_outcome source (Err too_long) (is_too_long source
        (leb-false (length source.text) TEXT_LIMIT f)),
  )
]
