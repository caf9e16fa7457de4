-- Trees, each with the text that it means over some data.
use Rattle.std.specs.Prelude.{◌≡◌, ℕ, pos, true, false, List, [], ◌∷◌, codes}
use Rattle.data_tree.specs.Tree.{Tree, nothing, text, fields, named, no_items, item, Members, no_members, member}
use Rattle.data_tree.specs.declared.step.Step.TheVariants.{Name}
use Rattle.helper_set.specs.declared.helper.Helper.TheVariants.{Upper, Trim, Size, Eq, Not, DefaultIfEmpty}
use Rattle.helper_set.specs.Values.{a_number}
use Rattle.template_tags.specs.declared.expression.Datum.TheVariants.{Nothing, Root, Item, BodyPath}
use Rattle.template_tags.specs.Expression.{Expression, datum, index, key, first, last, text_literal, call, call_two}
use Rattle.template_tree.specs.declared.escape.Escape.TheVariants.{Html}
use Rattle.template_tree.specs.Shown.Examples.{query, alone, text_before, value_before, item_before}
use Rattle.template_tree.specs.Meaning.{turn_with, value_of, template_text}
use Rattle.template_tree.specs.Tree.{print, if_then, if_else, each, each_else, Nodes, no_nodes, first_node}

-- ---- data

abbrev pub one_field : List ℕ → Tree → Tree
one_field name t = fields (member name t no_members)

-- a request with these query parameters
abbrev pub with_query : Members → Tree
with_query ms = one_field (codes "request") (one_field (codes "query") (fields ms))

-- a parameter's values, of which the first is its text
abbrev pub one_value : List ℕ → Tree
one_value a = named a (item (text a) no_items) no_members

abbrev pub two_values : List ℕ → List ℕ → Tree
two_values a b = named a (item (text a) (item (text b) no_items)) no_members

-- `/?q=a&q=b`
abbrev pub q_a_b : Tree
q_a_b = with_query (member (codes "q") (two_values (codes "a") (codes "b")) no_members)

-- `/`
abbrev pub no_query : Tree
no_query = with_query no_members

-- ---- trees

-- `{{#if request.query.q}}Q={{request.query.q}}{{else}}none{{/if}}`
abbrev pub query_or_none : Nodes
query_or_none =
    alone (if_else false (datum (query (codes "q")))
    (text_before (codes "Q=") (value_before (datum (query (codes "q"))) no_nodes))
    (text_before (codes "none") no_nodes))

-- `{{#each request.query.q}}{{this}},{{/each}}`
abbrev pub listed : Nodes
listed = alone (each (query (codes "q")) (item_before 0 (text_before (codes ",") no_nodes)))

-- `{{#each request.query.q}}{{#if @first}}[{{/if}}{{this}}{{#unless @last}};{{/unless}}{{else}}none{{/each}}`
abbrev pub separated : Nodes
separated =
    alone (each_else (query (codes "q"))
    (first_node (if_then false first (text_before (codes "[") no_nodes))
    (item_before 0 (alone (if_then true last (text_before (codes ";") no_nodes)))))
    (text_before (codes "none") no_nodes))

-- `{{#each request.query.a}}{{#each request.query.b}}{{..}}{{this}} {{/each}}{{/each}}`
abbrev pub pairs : Nodes
pairs =
    alone (each (query (codes "a")) (alone (each (query (codes "b"))
    (item_before 1 (item_before 0 (text_before (codes " ") no_nodes))))))

-- `{{#each request.query}}{{@key}}{{#each this}}{{this}}{{/each}}{{/each}}`
abbrev pub all_values : Nodes
all_values =
    alone (each (Root (Name (codes "request") ∷ Name (codes "query") ∷ []))
    (value_before key (alone (each (Item 0 []) (item_before 0 no_nodes)))))

-- `{{request.query.q}}|{{{request.query.q}}}`, where `{{E}}` is escaped
abbrev pub escaped_once : Nodes
escaped_once =
    first_node (print Html (datum (query (codes "q"))))
    (text_before (codes "|") (value_before (datum (query (codes "q"))) no_nodes))

-- ---- texts

abbrev pub Means : Nodes → Tree → List ℕ → Type 0
Means nodes root written = template_text nodes root [] ≡ written

abbrev pub Prints : Expression → Tree → List ℕ → Type 0
Prints e root written = Means (value_before e no_nodes) root written

-- a root with that value in the body
abbrev pub with_json : Tree → Tree
with_json t = one_field (codes "json") t

pub record AreTexts : Type 0 where
  pub empty : Means no_nodes q_a_b []
  pub first_part : Means query_or_none q_a_b (codes "Q=a")
  pub else_part : Means query_or_none no_query (codes "none")
  -- an empty text doesn't count as true
  pub empty_value : Means query_or_none (with_query (member (codes "q") (one_value []) no_members)) (codes "none")
  pub loop : Means listed q_a_b (codes "a,b,")
  pub no_turn : Means listed no_query []
  pub loop_words : Means separated q_a_b (codes "[a;b")
  pub else_of_loop : Means separated no_query (codes "none")
  pub inner_loop : Means pairs
      (with_query (member (codes "a") (two_values (codes "1") (codes "2"))
      (member (codes "b") (one_value (codes "x")) no_members))) (codes "1x 2x ")
  pub keys : Means all_values q_a_b (codes "qab")
  pub escaped : Means escaped_once (with_query (member (codes "q") (one_value (codes "<a>")) no_members))
      (codes "&lt;a&gt;|<a>")
  pub calls : Prints (call Upper (call Trim (text_literal (codes " get ")))) no_query (codes "GET")
  pub negated : Prints (call Not (datum (query (codes "q")))) q_a_b (codes "false")
  pub compared : Prints (call_two Eq (datum (query (codes "q"))) (text_literal (codes "a"))) q_a_b (codes "true")
  pub counted_items : value_of (call Size (datum (query (codes "q")))) q_a_b [] ≡ a_number (pos 2)
  pub index_in_loop : value_of index no_query (turn_with nothing 3 [] true ∷ []) ≡ a_number (pos 3)
  pub default : Prints (call_two DefaultIfEmpty (datum (query (codes "q"))) (text_literal (codes "x")))
      no_query (codes "x")
  pub body : Prints (datum (BodyPath (codes "$.a.b")))
      (with_json (one_field (codes "a") (one_field (codes "b") (text (codes "x"))))) (codes "x")
  pub no_body : Prints (datum (BodyPath (codes "$.a.b"))) no_query []
  -- outside of loops
  pub out_of_loops : Prints (datum Nothing) q_a_b []
