-- The parts that a template's tree is made of: the nodes that are no blocks, and the begins, elses and ends of blocks.
use Rattle.std.specs.Prelude.{Bool, List, [], ◌∷◌}
use Rattle.template_tags.specs.declared.expression.Datum.{Datum}
use Rattle.template_tags.specs.declared.tag.Opening.{Opening}
use Rattle.template_tags.specs.declared.tag.Opening.TheVariants.{Double, Triple}
use Rattle.template_tags.specs.Expression.{Expression}
use Rattle.template_tags.specs.Tags as said
use Rattle.template_tree.specs.declared.escape.Escape.{Escape}
use Rattle.template_tree.specs.declared.escape.Escape.TheVariants.{Off, Html}
use Rattle.template_tree.specs.Tokens.{Token, text_token, comment_token, tag_token}
use Rattle.template_tree.specs.Tree.{Node, piece, print, if_then, if_else, each, each_else, Nodes, no_nodes, first_node}

pub data Part : Type 0 where
  leaf : Node → Part
  opens_if : Bool → Expression → Part
  opens_each : Datum → Part
  begins_else : Part
  closes : Part

-- ---- of tokens

-- how a print is escaped in a template whose prints are escaped so: `{{E}}` is, and `{{{E}}}` isn't
abbrev pub escape_under : Escape → Opening → Escape
escape_under Off opening = Off
escape_under Html Double = Html
escape_under Html Triple = Off

abbrev pub tag_part : Escape → Opening → said.Tag → Part
tag_part escape opening (said.print e) = leaf (print (escape_under escape opening) e)
tag_part escape opening (said.open_if unless test) = opens_if unless test
tag_part escape opening (said.open_each over parameter) = opens_each over
tag_part escape opening said.begin_else = begins_else
tag_part escape opening said.close = closes

-- the part of a token before others; a comment has none
abbrev pub token_part : Escape → Token → List Part → List Part
token_part escape (text_token bytes) parts = leaf (piece bytes) ∷ parts
token_part escape comment_token parts = parts
token_part escape (tag_token opening tag) parts = tag_part escape opening tag ∷ parts

-- the parts of tokens, before others
abbrev pub parts_of : Escape → List Token → List Part → List Part
parts_of escape [] parts = parts
parts_of escape (t ∷ ts) parts = token_part escape t (parts_of escape ts parts)

-- ---- of nodes

abbrev mutual
  -- the parts of a node, before others
  pub spell_node : Node → List Part → List Part
  spell_node (piece bytes) parts = leaf (piece bytes) ∷ parts
  spell_node (print escape e) parts = leaf (print escape e) ∷ parts
  spell_node (if_then unless test body) parts = opens_if unless test ∷ spell body (closes ∷ parts)
  spell_node (if_else unless test body otherwise) parts =
      opens_if unless test ∷ spell body (begins_else ∷ spell otherwise (closes ∷ parts))
  spell_node (each over body) parts = opens_each over ∷ spell body (closes ∷ parts)
  spell_node (each_else over body otherwise) parts =
      opens_each over ∷ spell body (begins_else ∷ spell otherwise (closes ∷ parts))

  pub spell : Nodes → List Part → List Part
  spell no_nodes parts = parts
  spell (first_node node nodes) parts = spell_node node (spell nodes parts)
