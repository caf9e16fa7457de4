-- Polynomials, bounds and costs, unless a coefficient is too large.
use Rattle.std.specs.Prelude.{if◌then◌else◌, Option, Some, None}
use Rattle.code_rules.specs.Polynomial.{Polynomial, fits}
use Rattle.code_rules.specs.Bounds.{Bound, bound_fits}
use Rattle.code_rules.specs.Costs.{Cost, cost_fits}

abbrev pub within : Polynomial → Option Polynomial
within ps = if fits ps then Some ps else None

abbrev pub bound_within : Bound → Option Bound
bound_within b = if bound_fits b then Some b else None

abbrev pub cost_within : Cost → Option Cost
cost_within c = if cost_fits c then Some c else None
