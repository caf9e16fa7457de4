-- How many instructions the parts of a template's code have, as they are counted before there is code.
use Rattle.std.specs.Prelude.{ℕ, ◌+◌, Bool, true, false, length}
use Rattle.helper_set.specs.Helpers.{signature_of}
use Rattle.helper_set.specs.declared.kind.Kind.{Kind}
use Rattle.helper_set.specs.declared.signature.Parameter.{Parameter}
use Rattle.helper_set.specs.declared.signature.Parameter.TheVariants.{Of}
use Rattle.template_tags.specs.declared.expression.Datum.{Datum}
use Rattle.template_tags.specs.declared.expression.Datum.TheVariants.{Nothing, Root, Item, BodyPath}
use Rattle.template_tags.specs.Expression as expressions
use Rattle.template_tags.specs.Expression.{Expression}
use Rattle.template_tree.specs.declared.escape.Escape.{Escape}
use Rattle.template_tree.specs.declared.escape.Escape.TheVariants.{Off, Html}
use Rattle.template_tree.specs.Meaning.{second_parameter}
use Rattle.template_tree.specs.Tree.{Node, piece, print, if_then, if_else, each, each_else, Nodes, no_nodes, first_node}
use Rattle.template_compile.specs.Kinds.{expression_kind, conversion}

-- a path is one instruction; a JSON path in the body is looked up by three
abbrev pub datum_length : Datum → ℕ
datum_length Nothing = 1
datum_length (Root path) = 1
datum_length (Item up steps) = 1
datum_length (BodyPath text) = 3

-- a value of that kind, and what makes of it what the parameter wants
abbrev pub argument_length : Parameter → ℕ → Kind → ℕ
argument_length parameter value kind = value + length (conversion parameter kind)

abbrev pub expression_length : Expression → ℕ
expression_length (expressions.datum d) = datum_length d
expression_length expressions.index = 1
expression_length expressions.key = 1
expression_length expressions.first = 1
expression_length expressions.last = 1
expression_length (expressions.text_literal text) = 1
expression_length (expressions.number n) = 1
expression_length (expressions.truth b) = 1
expression_length (expressions.call helper e) =
    argument_length (signature_of helper).first (expression_length e) (expression_kind e) + 1
expression_length (expressions.call_two helper e f) =
    argument_length (signature_of helper).first (expression_length e) (expression_kind e)
    + argument_length (second_parameter helper) (expression_length f) (expression_kind f) + 1

abbrev pub length_for : Parameter → Expression → ℕ
length_for parameter e = argument_length parameter (expression_length e) (expression_kind e)

abbrev pub print_length : Escape → ℕ
print_length Off = 1
print_length Html = 2

-- an `unless` negates its test
abbrev pub test_length : Bool → Expression → ℕ
test_length true test = length_for (Of Kind.Truth) test + 1
test_length false test = length_for (Of Kind.Truth) test

-- a piece is one instruction; a print makes a text of its value and writes it, escaped first or not; an `if` has a
-- branch after its test, a loop one instruction at its start and one at its end, and an else part a jump before it
abbrev mutual
  pub node_length : Node → ℕ
  node_length (piece bytes) = 1
  node_length (print escape e) = length_for (Of Kind.Text) e + print_length escape
  node_length (if_then unless test body) = test_length unless test + 1 + nodes_length body
  node_length (if_else unless test body otherwise) =
      test_length unless test + 1 + nodes_length body + 1 + nodes_length otherwise
  node_length (each over body) = datum_length over + 1 + nodes_length body + 1
  node_length (each_else over body otherwise) =
      datum_length over + 1 + nodes_length body + 1 + 1 + nodes_length otherwise

  pub nodes_length : Nodes → ℕ
  nodes_length no_nodes = 0
  nodes_length (first_node node nodes) = node_length node + nodes_length nodes
