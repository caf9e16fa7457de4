-- At each size the budget is at most the one that takes each item for as large as all of the data.
use Rattle.std.proofs.Common.{◌≡◌, ℕ, zero, suc, ◌+◌, ◌*◌, ◌≤◌, Bool, true, false, List, []}
use Rattle.std.proofs.Common.{◌∷◌, length, refl, ap, ◌∙◌, arith}
use Rattle.template_code.specs.Code.{StackCode}
use Rattle.code_rules.specs.Polynomial.{Polynomial, plus, times_size, value}
use Rattle.code_rules.specs.Bounds.{Bound, plus_bound, of_turns}
use Rattle.code_rules.specs.Costs.{goes_over_part, Cost, no_cost, plus_cost, cost_of_turns, cost_at}
use Rattle.code_rules.specs.Table.{entry_at}
use Rattle.code_rules.specs.Regions.{share, region, budget}
use Rattle.code_rules.specs.Shown.Laws.{coarse, times_size_often, coarse_total, coarse_budget}
use Rattle.code_rules.proofs.PolynomialFacts.{value-plus, value-times_size}

times-le : (p q m : ℕ) → p ≤ q → m * p ≤ m * q
times-le p q zero h = grind arith
times-le p q (suc m) h = let i = times-le p q m h in grind (arith, h, i)

value-coarse : (b : Bound) (n : ℕ) → value (coarse b) n ≡ value b.alone n + n * value b.per n
value-coarse b n =
    value-plus b.alone (times_size b.per) n ∙ ap (λ x. value b.alone n + x) (value-times_size b.per n)

once-more : (a p n : ℕ) → n * (a + p) ≤ n * (a + n * p)
once-more a p zero = grind arith
once-more a p (suc n) =
    let h : a + p ≤ a + suc n * p = grind arith in
    times-le (a + p) (a + suc n * p) (suc n) h

-- the turns of a loop cost at most as often as much as there is data
coarse-turns : (is_part : Bool) (b : Bound) (n : ℕ)
    → value (coarse (of_turns is_part b)) n ≤ n * value (coarse b) n
coarse-turns true b n =
    let a = value b.alone n in
    let p = value b.per n in
    let here : value (coarse (of_turns true b)) n ≡ n * (a + p) =
    value-coarse (of_turns true b) n ∙ (ap (λ x. 0 + n * x) (value-plus b.alone b.per n) ∙ omega arith) in
    let there : n * value (coarse b) n ≡ n * (a + n * p) = ap (λ x. n * x) (value-coarse b n) in
    omega (here, there, once-more a p n, arith)
coarse-turns false b n =
    let a = value b.alone n in
    let p = value b.per n in
    let here : value (coarse (of_turns false b)) n ≡ n * (a + p) + n * 0 =
    value-coarse (of_turns false b) n
    ∙ ap (λ x. x + n * 0) (value-times_size (plus b.alone b.per) n
    ∙ ap (λ x. n * x) (value-plus b.alone b.per n)) in
    let none : n * 0 ≡ 0 = grind arith in
    let there : n * value (coarse b) n ≡ n * (a + n * p) = ap (λ x. n * x) (value-coarse b n) in
    omega (here, none, there, once-more a p n, arith)

-- what is at most n times as much stays so however often it is taken n times
often-more : (ps qs : Polynomial) (n k : ℕ) → value ps n ≤ n * value qs n →
    value (times_size_often k ps) n ≤ value (times_size_often (suc k) qs) n
often-more ps qs n zero h = omega (h, value-times_size qs n, arith)
often-more ps qs n (suc k) h =
    let less = often-more ps qs n k h in
    let more = times-le (value (times_size_often k ps) n) (value (times_size_often (suc k) qs) n) n less in
    omega (more, value-times_size (times_size_often k ps) n, value-times_size (times_size_often (suc k) qs) n, arith)

-- a part of a cost, its steps or its bytes
record IsPart (part : Cost → Bound) : Type 0 where
  none : part no_cost ≡ record { alone = []; per = [] }
  sum : (c d : Cost) → part (plus_cost c d) ≡ plus_bound (part c) (part d)
  turns : (b : Bool) (c : Cost) → part (cost_of_turns b c) ≡ of_turns b (part c)

module _ (code : StackCode) (part : Cost → Bound) (is : IsPart part) (n : ℕ) where
  coarse-share : (ns : List ℕ) (c : Cost) →
      value (coarse (part (share code [] ns c))) n ≤ value (times_size_often (length ns) (coarse (part c))) n
  coarse-share [] c = omega arith
  coarse-share (o ∷ ns) c =
      let turned = cost_of_turns (goes_over_part code o) c in
      let rest = coarse-share ns turned in
      let once : value (coarse (part turned)) n ≤ n * value (coarse (part c)) n =
      let e : value (coarse (part turned)) n ≡ value (coarse (of_turns (goes_over_part code o) (part c))) n =
      ap (λ b. value (coarse b) n) (is.turns (goes_over_part code o) c) in
      omega (e, coarse-turns (goes_over_part code o) (part c) n, arith) in
      let more = often-more (coarse (part turned)) (coarse (part c)) n (length ns) once in
      omega (rest, more, arith)

  coarse-region : (index : ℕ) →
      value (part (region code (entry_at code) [] index)).alone n ≤ value (coarse_total part code index) n
  coarse-region zero =
      let e : value (part no_cost).alone n ≡ 0 = ap (λ (b : Bound). value b.alone n) is.none in
      omega (e, arith)
  coarse-region (suc index) =
      let earlier = coarse-region index in
      let before = region code (entry_at code) [] index in
      let own = share code [] (entry_at code index).nest (cost_at code index) in
      let here = coarse-share (entry_at code index).nest (cost_at code index) in
      let alone = value-coarse (part own) n in
      let e : value (part (plus_cost before own)).alone n ≡ value (part before).alone n + value (part own).alone n =
      ap (λ (b : Bound). value b.alone n) (is.sum before own) ∙ value-plus (part before).alone (part own).alone n in
      let f = value-plus (coarse_total part code index)
      (times_size_often (length (entry_at code index).nest) (coarse (part (cost_at code index)))) n in
      omega (earlier, here, alone, e, f, arith)

is-steps : IsPart (λ c. c.steps)
is-steps = record { none = refl; sum = λ c d. refl; turns = λ b c. refl }

is-bytes : IsPart (λ c. c.bytes)
is-bytes = record { none = refl; sum = λ c d. refl; turns = λ b c. refl }

pub sharper : (code : StackCode) (n : ℕ) →
    (value (budget code).steps n ≤ value (coarse_budget code).steps n)
    × (value (budget code).bytes n ≤ value (coarse_budget code).bytes n)
sharper code n = (
  coarse-region code (λ c. c.steps) is-steps n (length code.instrs),
  coarse-region code (λ c. c.bytes) is-bytes n (length code.instrs),
)
