-- The values that tags name, as trees of calls.
use Rattle.std.specs.Prelude.{ℕ, ℤ, Bool, List}
use Rattle.helper_set.specs.declared.helper.Helper.{Helper}
use Rattle.template_tags.specs.declared.expression.Datum.{Datum}
use Rattle.template_tags.specs.declared.expression.Expression as declared
use Rattle.template_tags.specs.declared.expression.Expression.{fold-Expression}
use Rattle.template_tags.specs.declared.expression.Expression.TheOpen.{Expression-F}

-- a value of the request's data, a loop word, a literal (texts by their bytes), or a helper's call with its arguments
pub data Expression : Type 0 where
  datum : Datum → Expression
  index : Expression
  key : Expression
  first : Expression
  last : Expression
  text_literal : List ℕ → Expression
  number : ℤ → Expression
  truth : Bool → Expression
  call : Helper → Expression → Expression
  call_two : Helper → Expression → Expression → Expression

-- one level, with each argument already seen
abbrev pub view_step : Expression-F Expression → Expression
view_step (Expression-F.Datum d) = datum d
view_step Expression-F.Index = index
view_step Expression-F.Key = key
view_step Expression-F.First = first
view_step Expression-F.Last = last
view_step (Expression-F.Text bytes) = text_literal bytes
view_step (Expression-F.Number n) = number n
view_step (Expression-F.Truth b) = truth b
view_step (Expression-F.Call h x) = call h x.value
view_step (Expression-F.CallTwo h x y) = call_two h x.value y.value

abbrev pub expression_view : declared.Expression → Expression
expression_view = fold-Expression Expression view_step
