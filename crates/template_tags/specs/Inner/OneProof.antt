-- That a value is sound has at most one proof, which a ghost field asks of its fact.
use Rattle.std.specs.Prelude.{ℕ}
use Rattle.std.specs.Coded.{×_prop, Unit-prop}
use Rattle.std.proofs.Props.{props}
use Rattle.template_tags.specs.Expression.{Expression, datum, index, key, first, last, text_literal, number, truth}
use Rattle.template_tags.specs.Expression.{call, call_two}
use Rattle.template_tags.specs.Sound.{IsSoundDatum, IsSoundExpression, IsSoundValue}
use Rattle.template_tags.specs.declared.expression.Datum.{Datum}
use Rattle.template_tags.specs.declared.expression.Datum.TheVariants.{Nothing, Root, Item, BodyPath}

pub IsSoundDatum-prop : (limit loops : ℕ) (d : Datum) → IsProp (IsSoundDatum limit loops d)
IsSoundDatum-prop limit loops Nothing = Unit-prop
IsSoundDatum-prop limit loops (Root path) = Unit-prop
IsSoundDatum-prop limit loops (Item up steps) = Prim.hlevel props
IsSoundDatum-prop limit loops (BodyPath bytes) = Prim.hlevel props

pub IsSoundExpression-prop : (limit loops : ℕ) (e : Expression) → IsProp (IsSoundExpression limit loops e)
IsSoundExpression-prop limit loops (datum d) = IsSoundDatum-prop limit loops d
IsSoundExpression-prop limit loops index = Prim.hlevel props
IsSoundExpression-prop limit loops key = Prim.hlevel props
IsSoundExpression-prop limit loops first = Prim.hlevel props
IsSoundExpression-prop limit loops last = Prim.hlevel props
IsSoundExpression-prop limit loops (text_literal bytes) = Prim.hlevel props
IsSoundExpression-prop limit loops (number n) = Prim.hlevel props
IsSoundExpression-prop limit loops (truth b) = Unit-prop
IsSoundExpression-prop limit loops (call helper e) =
    ×_prop (Prim.hlevel props) (IsSoundExpression-prop limit loops e)
IsSoundExpression-prop limit loops (call_two helper e f) =
    Prim.hlevel (IsSoundExpression-prop limit loops e, IsSoundExpression-prop limit loops f, props)

pub IsSoundValue-prop : (limit loops : ℕ) (e : Expression) → IsProp (IsSoundValue limit loops e)
IsSoundValue-prop limit loops e = ×_prop (IsSoundExpression-prop limit loops e) (Prim.hlevel props)
