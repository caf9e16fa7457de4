-- What is always so of the values that a tag names, where no text in the tag is longer than a limit.
use Rattle.std.specs.Prelude.{ℕ, suc, max, ◌<◌, ◌≤◌, not, ◌&&◌, Bool, is_some, IsTrue, FitsSigned, length}
use Rattle.std.specs.Int.{w64}
use Rattle.helper_set.specs.Helpers.{signature_of, is_looked_up}
use Rattle.helper_set.specs.declared.helper.Helper.{Helper}
use Rattle.json_bridge.specs.PathFound.{path_of}
use Rattle.template_tags.specs.Expression.{Expression, datum, index, key, first, last, text_literal, number, truth}
use Rattle.template_tags.specs.Expression.{call, call_two}
use Rattle.template_tags.specs.declared.expression.TheConstants.{CALL_LIMIT}
use Rattle.template_tags.specs.declared.expression.Datum.{Datum}
use Rattle.template_tags.specs.declared.expression.Datum.TheVariants.{Nothing, Root, Item, BodyPath}

-- an item is that of an open loop, and a path in the body is a JSON path
abbrev pub IsSoundDatum : ℕ → ℕ → Datum → Type 0
IsSoundDatum limit loops Nothing = Unit {0}
IsSoundDatum limit loops (Root steps) = Unit {0}
IsSoundDatum limit loops (Item up steps) = up < loops
IsSoundDatum limit loops (BodyPath text) = (length text ≤ limit) × IsTrue (is_some (path_of text))

-- the helper takes one argument, or two, and isn't `jsonPath`, whose calls are data
abbrev pub takes_one : Helper → Bool
takes_one h = not (is_some (signature_of h).second) && not (is_looked_up h)

abbrev pub takes_two : Helper → Bool
takes_two h = is_some (signature_of h).second && not (is_looked_up h)

-- words of loops are in loops, numbers have 64 bits, and helpers have as many arguments as they take
abbrev pub IsSoundExpression : ℕ → ℕ → Expression → Type 0
IsSoundExpression limit loops (datum d) = IsSoundDatum limit loops d
IsSoundExpression limit loops index = 0 < loops
IsSoundExpression limit loops key = 0 < loops
IsSoundExpression limit loops first = 0 < loops
IsSoundExpression limit loops last = 0 < loops
IsSoundExpression limit loops (text_literal text) = length text ≤ limit
IsSoundExpression limit loops (number n) = FitsSigned w64 n
IsSoundExpression limit loops (truth b) = Unit {0}
IsSoundExpression limit loops (call h x) = IsTrue (takes_one h) × IsSoundExpression limit loops x
IsSoundExpression limit loops (call_two h x y) =
    IsTrue (takes_two h) × IsSoundExpression limit loops x × IsSoundExpression limit loops y

-- how deep calls nest
abbrev pub depth_of : Expression → ℕ
depth_of (datum d) = 0
depth_of index = 0
depth_of key = 0
depth_of first = 0
depth_of last = 0
depth_of (text_literal text) = 0
depth_of (number n) = 0
depth_of (truth b) = 0
depth_of (call h x) = suc (depth_of x)
depth_of (call_two h x y) = suc (max (depth_of x) (depth_of y))

-- the calls in parentheses, and the tag's own
abbrev pub IsSoundValue : ℕ → ℕ → Expression → Type 0
IsSoundValue limit loops x = IsSoundExpression limit loops x × (depth_of x ≤ suc CALL_LIMIT)
