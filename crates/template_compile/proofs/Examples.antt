-- Worked examples, which the checker computes.
use Rattle.std.specs.Prelude.{◌≡◌, true, false, List, [], ◌∷◌, length, codes}
use Rattle.std.proofs.Common.{refl}
use Rattle.data_tree.specs.Tree.{Tree, text, fields, named, no_items, item, no_members, member}
use Rattle.data_tree.specs.declared.step.Step.{Step}
use Rattle.data_tree.specs.declared.step.Step.TheVariants.{Name, Index}
use Rattle.helper_set.specs.declared.helper.Helper.TheVariants as helpers
use Rattle.template_code.specs.declared.instr.Instr.TheVariants.{Emit, Root, Item, Index as AtIndex, Last, Show, Test}
use Rattle.template_code.specs.declared.instr.Instr.TheVariants.{Call, Escape, Print, Jump, Branch, Each, Next, Halt}
use Rattle.template_tags.specs.declared.expression.Datum.TheVariants as datums
use Rattle.template_tags.specs.Expression as expressions
use Rattle.template_tags.specs.Expression.{datum}
use Rattle.template_tree.specs.declared.escape.Escape.TheVariants.{Off, Html}
use Rattle.template_tree.specs.Meaning.{template_text}
use Rattle.template_tree.specs.Tree.{piece, print, if_then, if_else, each_else, Nodes, no_nodes, first_node}
use Rattle.template_compile.specs.Compiled.{stack_code}

-- the path of `GET /hi/Ann`
abbrev ann_path : Tree
ann_path = named (codes "/hi/Ann") (item (text (codes "hi")) (item (text (codes "Ann")) no_items)) no_members

abbrev ann : Tree
ann = fields (member (codes "request") (fields (member (codes "path") ann_path no_members)) no_members)

-- `request.path.[1]`
abbrev second_segment : List Step
second_segment = Name (codes "request") ∷ Name (codes "path") ∷ Index 1 ∷ []

-- `Hello {{request.path.[1]}}`
abbrev hello : Nodes
hello = first_node (piece (codes "Hello ")) (first_node (print Off (datum (datums.Root second_segment))) no_nodes)

text_of_hello : template_text hello ann [] ≡ codes "Hello Ann"
text_of_hello = refl

length_of_hello : length (stack_code hello).instrs ≡ 5
length_of_hello = refl

code_of_hello : stack_code hello ≡ record {
  instrs = Emit 0 ∷ Root 0 ∷ Show ∷ Print ∷ Halt ∷ [];
  texts = codes "Hello " ∷ [];
  paths = second_segment ∷ [];
}
code_of_hello = refl

-- the same with its value escaped, and a text of which nothing is
abbrev escaped_hello : Nodes
escaped_hello =
    first_node (piece (codes "<Hello> ")) (first_node (print Html (datum (datums.Root second_segment))) no_nodes)

abbrev tag_path : Tree
tag_path = named (codes "/hi/<a>") (item (text (codes "hi")) (item (text (codes "<a>")) no_items)) no_members

abbrev tag : Tree
tag = fields (member (codes "request") (fields (member (codes "path") tag_path no_members)) no_members)

text_of_escaped_hello : template_text escaped_hello tag [] ≡ codes "<Hello> &lt;a&gt;"
text_of_escaped_hello = refl

text_of_unescaped_hello : template_text hello tag [] ≡ codes "Hello <a>"
text_of_unescaped_hello = refl

length_of_escaped_hello : length (stack_code escaped_hello).instrs ≡ 6
length_of_escaped_hello = refl

code_of_escaped_hello : stack_code escaped_hello ≡ record {
  instrs = Emit 0 ∷ Root 0 ∷ Show ∷ Escape ∷ Print ∷ Halt ∷ [];
  texts = codes "<Hello> " ∷ [];
  paths = second_segment ∷ [];
}
code_of_escaped_hello = refl

text_of_nothing : template_text no_nodes ann [] ≡ []
text_of_nothing = refl

code_of_nothing : stack_code no_nodes ≡ record { instrs = Halt ∷ []; texts = []; paths = [] }
code_of_nothing = refl

-- `one {{! a comment }}two`
abbrev two_pieces : Nodes
two_pieces = first_node (piece (codes "one ")) (first_node (piece (codes "two")) no_nodes)

text_of_two_pieces : template_text two_pieces ann [] ≡ codes "one two"
text_of_two_pieces = refl

code_of_two_pieces : stack_code two_pieces ≡ record {
  instrs = Emit 0 ∷ Emit 1 ∷ Halt ∷ [];
  texts = codes "one " ∷ codes "two" ∷ [];
  paths = [];
}
code_of_two_pieces = refl

-- outside of loops `{{name}}` is nothing
code_outside : stack_code (first_node (print Off (datum datums.Nothing)) no_nodes) ≡ record {
  instrs = Root 0 ∷ Show ∷ Print ∷ Halt ∷ [];
  texts = [];
  paths = (Name [] ∷ []) ∷ [];
}
code_outside = refl

abbrev query : List Step
query = Name (codes "request") ∷ Name (codes "query") ∷ Name (codes "q") ∷ []

-- `{{#if request.query.q}}Q={{request.query.q}}{{else}}none{{/if}}`
abbrev query_or_none : Nodes
query_or_none =
    first_node (if_else false (datum (datums.Root query))
    (first_node (piece (codes "Q=")) (first_node (print Off (datum (datums.Root query))) no_nodes))
    (first_node (piece (codes "none")) no_nodes)) no_nodes

code_of_query_or_none : stack_code query_or_none ≡ record {
  instrs = Root 0 ∷ Test ∷ Branch 8 ∷ Emit 0 ∷ Root 1 ∷ Show ∷ Print ∷ Jump 9 ∷ Emit 1 ∷ Halt ∷ [];
  texts = codes "Q=" ∷ codes "none" ∷ [];
  paths = query ∷ query ∷ [];
}
code_of_query_or_none = refl

length_of_query_or_none : length (stack_code query_or_none).instrs ≡ 10
length_of_query_or_none = refl

-- `{{#each request.query.q as |v|}}{{@index}}:{{v}}{{#unless @last}};{{/unless}}{{else}}none{{/each}}`
abbrev numbered : Nodes
numbered =
    first_node (each_else (datums.Root query)
    (first_node (print Off expressions.index) (first_node (piece (codes ":"))
    (first_node (print Off (datum (datums.Item 0 []))) (first_node (if_then true expressions.last
    (first_node (piece (codes ";")) no_nodes)) no_nodes))))
    (first_node (piece (codes "none")) no_nodes)) no_nodes

code_of_numbered : stack_code numbered ≡ record {
  instrs =
      Root 0 ∷ Each 15 ∷ AtIndex 0 ∷ Show ∷ Print ∷ Emit 0 ∷ Item 0 1 ∷ Show ∷ Print ∷ Last 0
      ∷ Call helpers.Not
      ∷ Branch 13 ∷ Emit 1 ∷ Next 2 ∷ Jump 16 ∷ Emit 2 ∷ Halt ∷ [];
  texts = codes ":" ∷ codes ";" ∷ codes "none" ∷ [];
  paths = query ∷ [] ∷ [];
}
code_of_numbered = refl
