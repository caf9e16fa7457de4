-- Sums of costs, and the cost of turns.
use Rattle.std.proofs.Common.{◌≡◌, Bool, true, false, refl}
use Rattle.code_rules.specs.Polynomial.{plus}
use Rattle.code_rules.specs.Bounds.{Bound, plus_bound, of_turns}
use Rattle.code_rules.specs.Costs.{Cost, no_cost, plus_cost, cost_of_turns}
use Rattle.code_rules.proofs.PolynomialFacts.{plus-empty, plus-assoc, plus-crossed, times_size-plus}

pub plus_cost-no_cost : (c : Cost) → plus_cost c no_cost ≡ c
plus_cost-no_cost c =
    rw (plus-empty c.steps.alone, plus-empty c.steps.per, plus-empty c.bytes.alone, plus-empty c.bytes.per) refl

bound-assoc : (b c d : Bound) → plus_bound (plus_bound b c) d ≡ plus_bound b (plus_bound c d)
bound-assoc b c d = rw (plus-assoc b.alone c.alone d.alone, plus-assoc b.per c.per d.per) refl

pub plus_cost-assoc : (c d e : Cost) → plus_cost (plus_cost c d) e ≡ plus_cost c (plus_cost d e)
plus_cost-assoc c d e = rw (bound-assoc c.steps d.steps e.steps, bound-assoc c.bytes d.bytes e.bytes) refl

pub turns-no_cost : (is_part : Bool) → cost_of_turns is_part no_cost ≡ no_cost
turns-no_cost true = refl
turns-no_cost false = refl

bound-turns : (is_part : Bool) (b c : Bound) →
    of_turns is_part (plus_bound b c) ≡ plus_bound (of_turns is_part b) (of_turns is_part c)
bound-turns true b c = rw (plus-crossed b.alone c.alone b.per c.per) refl
bound-turns false b c =
    rw (plus-crossed b.alone c.alone b.per c.per, times_size-plus (plus b.alone b.per) (plus c.alone c.per)) refl

pub turns-plus : (is_part : Bool) (c d : Cost) →
    cost_of_turns is_part (plus_cost c d) ≡ plus_cost (cost_of_turns is_part c) (cost_of_turns is_part d)
turns-plus is_part c d = rw (bound-turns is_part c.steps d.steps, bound-turns is_part c.bytes d.bytes) refl
