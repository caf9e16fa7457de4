-- Of which kind the value of an expression is, and the instructions that make of it what is wanted.
use Rattle.std.specs.Prelude.{List, [], ◌∷◌}
use Rattle.helper_set.specs.Helpers.{result_kind}
use Rattle.helper_set.specs.declared.kind.Kind.{Kind}
use Rattle.helper_set.specs.declared.signature.Parameter.{Parameter}
use Rattle.helper_set.specs.declared.signature.Parameter.TheVariants.{DataOrText, Of}
use Rattle.template_code.specs.declared.instr.Instr.{Instr}
use Rattle.template_code.specs.declared.instr.Instr.TheVariants.{Show, Test}
use Rattle.template_tags.specs.Expression as expressions
use Rattle.template_tags.specs.Expression.{Expression}

abbrev pub expression_kind : Expression → Kind
expression_kind (expressions.datum d) = Kind.Data
expression_kind expressions.index = Kind.Number
expression_kind expressions.key = Kind.Text
expression_kind expressions.first = Kind.Truth
expression_kind expressions.last = Kind.Truth
expression_kind (expressions.text_literal text) = Kind.Text
expression_kind (expressions.number n) = Kind.Number
expression_kind (expressions.truth b) = Kind.Truth
expression_kind (expressions.call helper e) = result_kind helper
expression_kind (expressions.call_two helper e f) = result_kind helper

-- where text is wanted, what isn't text is shown as text; where a truth is wanted, what isn't a truth is tested; where
-- data or text is wanted, a number or a truth is shown as text
abbrev pub conversion : Parameter → Kind → List Instr
conversion (Of Kind.Text) Kind.Text = []
conversion (Of Kind.Text) kind = Show ∷ []
conversion (Of Kind.Truth) Kind.Truth = []
conversion (Of Kind.Truth) kind = Test ∷ []
conversion DataOrText Kind.Number = Show ∷ []
conversion DataOrText Kind.Truth = Show ∷ []
conversion parameter kind = []
