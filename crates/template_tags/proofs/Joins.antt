-- Errors of the parts of a tag, joined.
use Rattle.std.proofs.Common.{◌≡◌, ◌≤◌, nat_le, true, false, Option, Some, None, inl, inr, refl, sym, ap}
use Rattle.std.proofs.Common.{◌∙◌, arith, ◌-◌, List, length, map, take, drop, get_or, Result}
use Rattle.std.proofs.lemmas.Bool.{cases_Bool, leb-true, leb-false, le-leb}
use Rattle.template_tags.proofs.Fronts.{first_split}
use Rattle.template_tags.specs.Inner.CallReads.{error_in, errors_in}
use Rattle.template_tags.specs.Inner.Views.{read_view}
use Rattle.template_tags.specs.declared.expression.Expression.{Expression}
use Rattle.template_words.specs.Errors.{rank, earlier, joined}
use Rattle.template_words.specs.declared.error.TagError.{TagError}

-- ---- which of two comes first

first_is : (d e : TagError) → nat_le (rank d) (rank e) ≡ true → earlier d e ≡ d
first_is d e h = rw h refl

second_is : (d e : TagError) → nat_le (rank d) (rank e) ≡ false → earlier d e ≡ e
second_is d e h = rw h refl

pub earlier_same : (e : TagError) → earlier e e ≡ e
earlier_same e = first_is e e (le-leb (rank e) (rank e) (omega arith))

pub earlier_back : (d e : TagError) → earlier (earlier d e) d ≡ earlier d e
earlier_back d e = elim (cases_Bool (nat_le (rank d) (rank e))) [
  | inl t ↦ ap (λ x. earlier x d) (first_is d e t) ∙ earlier_same d ∙ sym (first_is d e t)
  | inr f ↦
      let le : rank e ≤ rank d = omega (arith, leb-false (rank d) (rank e) f) in
      ap (λ x. earlier x d) (second_is d e f) ∙ first_is e d (le-leb (rank e) (rank d) le) ∙ sym (second_is d e f)
]

pub earlier_assoc : (d e f : TagError) → earlier (earlier d e) f ≡ earlier d (earlier e f)
earlier_assoc d e f = elim (cases_Bool (nat_le (rank d) (rank e))) [
  | inl t ↦ elim (cases_Bool (nat_le (rank e) (rank f))) [
    | inl u ↦
        let le : rank d ≤ rank f =
        omega (arith, leb-true (rank d) (rank e) t, leb-true (rank e) (rank f) u) in
        ap (λ x. earlier x f) (first_is d e t) ∙ first_is d f (le-leb (rank d) (rank f) le)
        ∙ sym (ap (earlier d) (first_is e f u) ∙ first_is d e t)
    | inr u ↦ ap (λ x. earlier x f) (first_is d e t) ∙ sym (ap (earlier d) (second_is e f u))
  ]
  | inr t ↦ elim (cases_Bool (nat_le (rank e) (rank f))) [
    | inl u ↦
        ap (λ x. earlier x f) (second_is d e t) ∙ first_is e f u
        ∙ sym (ap (earlier d) (first_is e f u) ∙ second_is d e t)
    | inr u ↦ elim (cases_Bool (nat_le (rank d) (rank f))) [
      | inl v ↦ absurd (omega (
        arith,
        leb-false (rank d) (rank e) t,
        leb-false (rank e) (rank f) u,
        leb-true (rank d) (rank f) v,
      ))
      | inr v ↦ ap (λ x. earlier x f) (second_is d e t) ∙ second_is e f u
          ∙ sym (ap (earlier d) (second_is e f u) ∙ second_is d f v)
    ]
  ]
]

pub joined_assoc : (a b c : Option TagError) → joined (joined a b) c ≡ joined a (joined b c)
joined_assoc None b c = refl
joined_assoc (Some d) None c = refl
joined_assoc (Some d) (Some e) None = refl
joined_assoc (Some d) (Some e) (Some f) = ap Some (earlier_assoc d e f)

pub joined_none : (a : Option TagError) → joined a None ≡ a
joined_none None = refl
joined_none (Some d) = refl

-- ---- errors of arguments in order

pub errors_more : (e : Option TagError) (reads : List (Result Expression TagError)) (read : Result Expression TagError)
    → 1 ≤ length reads → read ≡ get_or reads 0 read
    → joined e (errors_in (map read_view reads))
    ≡ joined (joined e (error_in (read_view read)))
    (errors_in (map read_view (take (length reads - 1) (drop 1 reads))))
errors_more e reads read some is =
    ap (λ rs. joined e (errors_in (map read_view rs))) (first_split reads read some is)
    ∙ sym (joined_assoc e (error_in (read_view read))
    (errors_in (map read_view (take (length reads - 1) (drop 1 reads)))))
