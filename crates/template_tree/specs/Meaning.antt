-- What a template means (Handlebars' paths, helpers and blocks): the text that it writes over a request's data, by
-- recursion on its tree.
use Rattle.std.specs.Prelude.{ℕ, zero, suc, pos, nat_eq, Bool, true, false, not, List, [], ◌∷◌, ◌++◌}
use Rattle.std.specs.Prelude.{flat_map, Option, Some, None, unwrap_or, if◌then◌else◌}
use Rattle.data_tree.specs.Tree.{Tree, nothing, list, fields, named, Items, no_items, item, Members, no_members, member}
use Rattle.data_tree.specs.LookUp.{at}
use Rattle.data_tree.specs.RootPaths.{json_path}
use Rattle.data_tree.specs.declared.step.Step.{Step}
use Rattle.helper_set.specs.Escape.{html_escaped}
use Rattle.helper_set.specs.Helpers.{signature_of, applied}
use Rattle.helper_set.specs.Values.{Value, a_datum, a_text, a_number, a_truth, text_of, truth_of}
use Rattle.helper_set.specs.declared.helper.Helper.{Helper}
use Rattle.helper_set.specs.declared.kind.Kind.{Kind}
use Rattle.helper_set.specs.declared.signature.Parameter.{Parameter}
use Rattle.helper_set.specs.declared.signature.Parameter.TheVariants.{Any, DataOrText, Of}
use Rattle.json_bridge.specs.PathFound.{path_of}
use Rattle.template_tags.specs.declared.expression.Datum.{Datum}
use Rattle.template_tags.specs.declared.expression.Datum.TheVariants.{Nothing, Root, Item, BodyPath}
use Rattle.template_tags.specs.Expression as expressions
use Rattle.template_tags.specs.Expression.{Expression}
use Rattle.template_tree.specs.declared.escape.Escape.{Escape}
use Rattle.template_tree.specs.declared.escape.Escape.TheVariants.{Off, Html}
use Rattle.template_tree.specs.Tree.{Node, piece, print, if_then, if_else, each, each_else, Nodes, no_nodes, first_node}

-- ---- the turns of a loop

-- a loop's turn: its item, the index of the item, its name (empty for the items of a list), and whether it is the last
pub record Turn : Type 0 where
  pub item : Tree
  pub index : ℕ
  pub key : List ℕ
  pub is_last : Bool

abbrev pub turn_with : Tree → ℕ → List ℕ → Bool → Turn
turn_with t index key is_last = record { item = t; index = index; key = key; is_last = is_last }

abbrev are_none : Items → Bool
are_none no_items = true
are_none (item t ts) = false

abbrev are_no_members : Members → Bool
are_no_members no_members = true
are_no_members (member name t ms) = false

-- the turns over items, of which the first has that index
abbrev pub turns_from : ℕ → Items → List Turn
turns_from index no_items = []
turns_from index (item t ts) = turn_with t index [] (are_none ts) ∷ turns_from (suc index) ts

-- the same over an object's values, each with its name
abbrev pub named_turns_from : ℕ → Members → List Turn
named_turns_from index no_members = []
named_turns_from index (member name t ms) =
    turn_with t index name (are_no_members ms) ∷ named_turns_from (suc index) ms

-- the turns of a loop over a value: over the elements of a list, the values of an object, the items of a named text
abbrev pub turns_of : Tree → List Turn
turns_of (list ts) = turns_from 0 ts
turns_of (fields ms) = named_turns_from 0 ms
turns_of (named s ts ms) = turns_from 0 ts
turns_of t = []

-- ---- values; the turns are those of the open loops, the innermost first

-- the item of the `up`-th enclosing loop
abbrev pub item_at : ℕ → List Turn → Tree
item_at up [] = nothing
item_at zero (turn ∷ turns) = turn.item
item_at (suc up) (turn ∷ turns) = item_at up turns

-- what a path finds, where there is one
abbrev found_by : Option (List Step) → Tree → Tree
found_by None t = nothing
found_by (Some path) t = at path t

-- the data of the request's body, where it is JSON
abbrev pub body_data : Tree → Tree
body_data root = at json_path root

abbrev pub datum_at : Datum → Tree → List Turn → Tree
datum_at Nothing root turns = nothing
datum_at (Root path) root turns = at path root
datum_at (Item up steps) root turns = at steps (item_at up turns)
datum_at (BodyPath text) root turns = found_by (path_of text) (body_data root)

-- a value of the innermost loop's turn; nothing outside of loops
abbrev of_turn : (Turn → Value) → List Turn → Value
of_turn f [] = a_datum nothing
of_turn f (turn ∷ turns) = f turn

-- a number or a truth as its text
abbrev as_data_or_text : Value → Value
as_data_or_text (a_number n) = a_text (text_of (a_number n))
as_data_or_text (a_truth b) = a_text (text_of (a_truth b))
as_data_or_text v = v

-- an argument as its parameter wants it: as its text, as whether it counts as true, or as data or a text
abbrev pub converted : Parameter → Value → Value
converted (Of Kind.Text) v = a_text (text_of v)
converted (Of Kind.Truth) v = a_truth (truth_of v)
converted DataOrText v = as_data_or_text v
converted p v = v

-- what a helper of two arguments wants its second one as
abbrev pub second_parameter : Helper → Parameter
second_parameter helper = unwrap_or (signature_of helper).second Any

-- what a helper makes of its arguments; nothing where they aren't as many as its parameters
abbrev pub made_by : Helper → List Value → Value
made_by helper arguments = unwrap_or (applied helper arguments) (a_datum nothing)

abbrev pub value_of : Expression → Tree → List Turn → Value
value_of (expressions.datum d) root turns = a_datum (datum_at d root turns)
value_of expressions.index root turns = of_turn (λ t. a_number (pos t.index)) turns
value_of expressions.key root turns = of_turn (λ t. a_text t.key) turns
value_of expressions.first root turns = of_turn (λ t. a_truth (nat_eq t.index 0)) turns
value_of expressions.last root turns = of_turn (λ t. a_truth t.is_last) turns
value_of (expressions.text_literal text) root turns = a_text text
value_of (expressions.number n) root turns = a_number n
value_of (expressions.truth b) root turns = a_truth b
value_of (expressions.call helper e) root turns =
    made_by helper (converted (signature_of helper).first (value_of e root turns) ∷ [])
value_of (expressions.call_two helper e f) root turns =
    made_by helper (converted (signature_of helper).first (value_of e root turns)
    ∷ converted (second_parameter helper) (value_of f root turns) ∷ [])

-- ---- texts

-- the text of a value, as it is printed
abbrev pub escaped : Escape → List ℕ → List ℕ
escaped Off text = text
escaped Html text = html_escaped text

-- the part after an `if` is written where its test counts as true, that after an `unless` where it doesn't
abbrev pub is_taken : Bool → Bool → Bool
is_taken true holds = not holds
is_taken false holds = holds

-- the first text where there is a turn, and else the other
abbrev where_any : List Turn → List ℕ → List ℕ → List ℕ
where_any [] text otherwise = otherwise
where_any (t ∷ turns) text otherwise = text

abbrev mutual
  pub node_text : Node → Tree → List Turn → List ℕ
  node_text (piece bytes) root turns = bytes
  node_text (print escape e) root turns = escaped escape (text_of (value_of e root turns))
  node_text (if_then unless test body) root turns =
      if is_taken unless (truth_of (value_of test root turns)) then template_text body root turns else []
  node_text (if_else unless test body otherwise) root turns =
      if is_taken unless (truth_of (value_of test root turns)) then template_text body root turns
      else template_text otherwise root turns
  node_text (each over body) root turns =
      flat_map (λ turn. template_text body root (turn ∷ turns)) (turns_of (datum_at over root turns))
  node_text (each_else over body otherwise) root turns =
      where_any (turns_of (datum_at over root turns))
      (flat_map (λ turn. template_text body root (turn ∷ turns)) (turns_of (datum_at over root turns)))
      (template_text otherwise root turns)

  -- what a template writes: the texts of its nodes, joined
  pub template_text : Nodes → Tree → List Turn → List ℕ
  template_text no_nodes root turns = []
  template_text (first_node n ns) root turns = node_text n root turns ++ template_text ns root turns
