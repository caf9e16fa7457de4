-- Budgets that are added up, as they are printed.
use Rattle.std.proofs.Common.{◌≡◌, ℕ, zero, suc, ◌+◌, ◌^◌, ◌<◌, ◌≤◌, List, [], ◌∷◌}
use Rattle.std.proofs.Common.{◌++◌, get_or, map, refl, sym, ap, ap₂, subst, ◌∙◌, arith, codes}
use Rattle.std.specs.Prelude.{decimal}
use Rattle.std.proofs.lemmas.List.{append-nil, map-append}
use Rattle.mapping_json.proofs.Zips.{zip_push}
use Rattle.mapping_commands.specs.Checking.{IsBudgetLine, IsProgramOf, budget_line, sum_of}
use Rattle.mapping_commands.specs.Inner.Totals.{AreTotals, IsWithin}
use Rattle.command_output.specs.Lines.{numbers_text}
use Rattle.code_rules.specs.Polynomial.{Polynomial, as_printed, plus}
use Rattle.code_rules.specs.Regions.{budget}
use Rattle.code_rules.proofs.PolynomialFacts.{plus-assoc, plus-empty}
use Rattle.template_machine.specs.Program.{ProgramParts, IsProgram}
use Rattle.template_tree.specs.Source.{Source}

-- ---- sums

plus-printed : (ps qs : Polynomial) → plus (as_printed ps) (as_printed qs) ≡ as_printed (plus ps qs)
plus-printed [] [] = refl
plus-printed [] (q ∷ qs) = let e : 0 + q ≡ q = omega arith in ap (λ x. x ∷ qs) e
plus-printed (p ∷ ps) [] =
    let e : p + 0 ≡ p = omega arith in ap₂ (λ x xs. x ∷ xs) e (plus-empty ps)
plus-printed (p ∷ ps) (q ∷ qs) = refl

sum_of-push : (bs : List Polynomial) (b : Polynomial) → sum_of (bs ++ b ∷ []) ≡ plus (sum_of bs) b
sum_of-push [] b = plus-empty b
sum_of-push (c ∷ cs) b = ap (plus c) (sum_of-push cs b) ∙ sym (plus-assoc c (sum_of cs) b)

-- the total with one program more
printed_more : {A : Type 0} (f : A → Polynomial) (xs : List A) (x : A)
    → as_printed (sum_of (map f (xs ++ x ∷ []))) ≡ plus (as_printed (sum_of (map f xs))) (as_printed (f x))
printed_more f xs x =
    ap (λ bs. as_printed (sum_of bs)) (map-append f xs (x ∷ []))
    ∙ ap as_printed (sum_of-push (map f xs) (f x)) ∙ sym (plus-printed (sum_of (map f xs)) (f x))

pub none : AreTotals [] (0 ∷ []) (0 ∷ [])
none = record { programs = []; each = tt; steps_are = refl; bytes_are = refl }

pub one_more : (templates : List Source) (template : Source) (steps bytes more_steps more_bytes : List ℕ)
    (p : ProgramParts)
    → AreTotals templates steps bytes → p.source ≡ template → IsProgram p
    → more_steps ≡ plus steps (as_printed (budget p.code).steps)
    → more_bytes ≡ plus bytes (as_printed (budget p.code).bytes)
    → AreTotals (templates ++ template ∷ []) more_steps more_bytes
one_more templates template steps bytes more_steps more_bytes p totals source program steps_are bytes_are = record {
  programs = totals.programs ++ p ∷ [];
  each = zip_push IsProgramOf templates totals.programs template p totals.each (source, program);
  steps_are = steps_are ∙ ap (λ s. plus s (as_printed (budget p.code).steps)) totals.steps_are
      ∙ sym (printed_more (λ (q : ProgramParts). (budget q.code).steps) totals.programs p);
  bytes_are = bytes_are ∙ ap (λ s. plus s (as_printed (budget p.code).bytes)) totals.bytes_are
      ∙ sym (printed_more (λ (q : ProgramParts). (budget q.code).bytes) totals.programs p);
}

pub no_more : (templates : List Source) (steps bytes : List ℕ) → AreTotals templates steps bytes
    → AreTotals (templates ++ []) steps bytes
no_more templates steps bytes totals = subst (λ ts. AreTotals ts steps bytes) (sym (append-nil templates)) totals

-- the line with the totals
pub line_of : (number : ℕ) (templates : List Source) (steps bytes s b line : List ℕ)
    → AreTotals templates steps bytes → s ≡ numbers_text steps → b ≡ numbers_text bytes
    → line ≡ decimal number ++ (codes " steps " ++ (s ++ (codes " bytes " ++ (b ++ codes "\n"))))
    → IsBudgetLine number templates line
line_of number templates steps bytes s b line totals s_is b_is line_is = (
  totals.programs,
  totals.each,
  line_is
      ∙ ap₂ (λ x y. decimal number ++ (codes " steps " ++ (x ++ (codes " bytes " ++ (y ++ codes "\n"))))) s_is b_is
      ∙ ap₂ (budget_line number) totals.steps_are totals.bytes_are,
)

-- ---- coefficients

pub zero_within : IsWithin 0 (0 ∷ [])
zero_within zero = omega arith
zero_within (suc k) = omega arith

pub within_more : (few many : ℕ) (xs : List ℕ) → few ≤ many → IsWithin few xs → IsWithin many xs
within_more few many xs le h k = omega (arith, le, h k)

plus-at : (xs ys : List ℕ) (k : ℕ) → get_or (plus xs ys) k 0 ≡ get_or xs k 0 + get_or ys k 0
plus-at [] ys k = omega arith
plus-at (x ∷ xs) [] k = omega arith
plus-at (x ∷ xs) (y ∷ ys) zero = refl
plus-at (x ∷ xs) (y ∷ ys) (suc k) = plus-at xs ys k

-- each is a sum of one number more
pub plus-within : (count : ℕ) (xs ys : List ℕ) → IsWithin count xs → ((k : ℕ) → get_or ys k 0 < 2 ^ 64)
    → IsWithin (count + 1) (plus xs ys)
plus-within count xs ys h fits k = omega (arith, plus-at xs ys k, h k, fits k)
