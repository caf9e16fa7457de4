-- Blocks that are open while a template is read, and how a token changes them.
use Rattle.std.specs.Prelude.{◌≡◌, ◌≤◌, ◌+◌, ℕ, Bool, true, false, List, length, [], ◌∷◌, map}
use Rattle.std.specs.Prelude.{reverse, drop, Option, Some, None, is_some}
use Rattle.std.specs.declared.alloc.Global.{Global}
use Rattle.std.specs.declared.vec.Vec.{Vec}
use Rattle.template_tags.specs.declared.expression.Datum.{Datum}
use Rattle.template_tags.specs.declared.level.Block.TheVariants.{Each}
use Rattle.template_tags.specs.declared.level.Level.{Level}
use Rattle.template_tags.specs.declared.tag.Opening.{Opening}
use Rattle.template_tags.specs.Expression.{Expression, expression_view}
use Rattle.template_tags.specs.Levels.{is_each}
use Rattle.template_tags.specs.Shown.SoundTags.{HasNoElse}
use Rattle.template_tags.specs.Tags as said
use Rattle.template_tree.specs.declared.escape.Escape.{Escape}
use Rattle.template_tree.specs.declared.nest.Frame as declared_frame
use Rattle.template_tree.specs.declared.nest.Head as declared_head
use Rattle.template_tree.specs.declared.nest.Head.TheVariants as heads
use Rattle.template_tree.specs.declared.nest.Nest as declared_nest
use Rattle.template_tree.specs.declared.node.Node as declared_node
use Rattle.template_tree.specs.Grammar.{test_block, opened, else_begun, Leads}
use Rattle.template_tree.specs.Parts.{Part, opens_if, opens_each, begins_else, parts_of, spell, escape_under}
use Rattle.template_tree.specs.Source.{Source}
use Rattle.template_tree.specs.Tokens.{Token, text_token, comment_token, tag_token}
use Rattle.template_tree.specs.Tree.{Node, piece, print, if_then, if_else, each, each_else, Nodes, no_nodes, first_node}
use Rattle.template_tree.specs.Tree.{nodes_view}

pub data Head : Type 0 where
  if_head : Bool → Expression → Head
  each_head : Datum → Head

-- an open block: the nodes before it, how it begins, and its first part where its else part has begun
pub record Frame : Type 0 where
  pub before : Nodes
  pub head : Head
  pub main : Option Nodes

-- the open blocks, the innermost first, and the nodes after the last of their tags
pub record Nest : Type 0 where
  pub levels : List Level
  pub frames : List Frame
  pub here : Nodes

-- ---- what the values of the parser's types are seen as

abbrev pub head_view : declared_head.Head → Head
head_view (heads.If unless test) = if_head unless (expression_view test)
head_view (heads.Each over) = each_head over

abbrev pub main_view : Option (Vec declared_node.Node Global) → Option Nodes
main_view None = None
main_view (Some nodes) = Some (nodes_view nodes.items)

abbrev pub frame_view : declared_frame.Frame → Frame
frame_view f = record { before = nodes_view f.before.items; head = head_view f.head; main = main_view f.main }

abbrev pub nest_view : declared_nest.Nest → Nest
nest_view n = record {
  levels = reverse n.levels.items;
  frames = reverse (map frame_view n.frames.items);
  here = nodes_view n.here.items;
}

-- ---- a token more

abbrev pub pushed : Nodes → Node → Nodes
pushed no_nodes node = first_node node no_nodes
pushed (first_node first nodes) node = first_node first (pushed nodes node)

abbrev pub block_node : Head → Option Nodes → Nodes → Node
block_node (if_head unless test) None here = if_then unless test here
block_node (if_head unless test) (Some main) here = if_else unless test main here
block_node (each_head over) None here = each over here
block_node (each_head over) (Some main) here = each_else over main here

abbrev pub with_node : Nest → Node → Nest
with_node nest node = record { levels = nest.levels; frames = nest.frames; here = pushed nest.here node }

abbrev pub with_block : Nest → Level → Head → Nest
with_block nest level head = record {
  levels = level ∷ nest.levels;
  frames = record { before = nest.here; head = head; main = None } ∷ nest.frames;
  here = no_nodes;
}

abbrev pub frames_with_else : List Frame → Nodes → List Frame
frames_with_else [] here = []
frames_with_else (f ∷ fs) here = record { before = f.before; head = f.head; main = Some here } ∷ fs

abbrev pub in_else_part : Nest → Nest
in_else_part nest = record {
  levels = else_begun nest.levels;
  frames = frames_with_else nest.frames nest.here;
  here = no_nodes;
}

-- the nodes round a block whose last part ends
abbrev pub closed_nodes : Frame → Nodes → Nodes
closed_nodes f here = pushed f.before (block_node f.head f.main here)

abbrev pub closed_here : List Frame → Nodes → Nodes
closed_here [] here = here
closed_here (f ∷ fs) here = closed_nodes f here

abbrev pub without_block : Nest → Nest
without_block nest = record {
  levels = drop 1 nest.levels;
  frames = drop 1 nest.frames;
  here = closed_here nest.frames nest.here;
}

abbrev pub with_tag : Escape → ℕ → Opening → said.Tag → Nest → Nest
with_tag escape left opening (said.print e) nest = with_node nest (print (escape_under escape opening) e)
with_tag escape left opening (said.open_if unless test) nest =
    with_block nest (opened left (test_block unless) None) (if_head unless test)
with_tag escape left opening (said.open_each over parameter) nest =
    with_block nest (opened left Each parameter) (each_head over)
with_tag escape left opening said.begin_else nest = in_else_part nest
with_tag escape left opening said.close nest = without_block nest

-- the blocks after a token at whose begin that many bytes of the text are left
abbrev pub with_token : Escape → ℕ → Token → Nest → Nest
with_token escape left (text_token bytes) nest = with_node nest (piece bytes)
with_token escape left comment_token nest = nest
with_token escape left (tag_token opening tag) nest = with_tag escape left opening tag nest

-- ---- what is so of the open blocks

-- a block that is closed or whose else begins is open, and has no else yet
abbrev pub HasBlock : List Level → Type 0
HasBlock [] = ⊥
HasBlock (level ∷ levels) = Unit {0}

abbrev pub Allows : List Level → said.Tag → Type 0
Allows levels said.begin_else = HasNoElse levels
Allows levels said.close = HasBlock levels
Allows levels tag = Unit {0}

abbrev pub AllowsToken : List Level → Token → Type 0
AllowsToken levels (tag_token opening tag) = Allows levels tag
AllowsToken levels t = Unit {0}

abbrev pub is_loop_head : Head → Bool
is_loop_head (if_head unless test) = false
is_loop_head (each_head over) = true

-- each level is that of a frame
abbrev pub Fit : List Level → List Frame → Type 0
Fit [] [] = Unit {0}
Fit (level ∷ levels) (f ∷ fs) =
    (is_some f.main ≡ level.in_else) × (is_loop_head f.head ≡ is_each level.block) × Fit levels fs
Fit levels fs = ⊥

-- the parts of a block that is open, before others
abbrev pub main_parts : Option Nodes → List Part → List Part
main_parts None parts = parts
main_parts (Some nodes) parts = spell nodes (begins_else ∷ parts)

abbrev pub head_part : Head → Part
head_part (if_head unless test) = opens_if unless test
head_part (each_head over) = opens_each over

-- the parts of open blocks and of the nodes here, before others
abbrev pub parts_in : List Frame → Nodes → List Part → List Part
parts_in [] here parts = spell here parts
parts_in (f ∷ fs) here parts = parts_in fs f.before (head_part f.head ∷ main_parts f.main (spell here parts))

-- ---- what was read

-- the tags of the blocks begin in a text of that length
abbrev pub BeginWithin : ℕ → List Level → Type 0
BeginWithin n [] = Unit {0}
BeginWithin n (level ∷ levels) = (level.left ≤ n) × BeginWithin n levels

-- the front of a source was read, up to the rest
pub record Read (source : Source) (nest : Nest) (rest : List ℕ) : Type 0 where
  pub tokens : List Token
  pub leads : Leads tokens [] source.text nest.levels rest
  pub same : (parts : List Part) → parts_of source.escape tokens parts ≡ parts_in nest.frames nest.here parts
  pub fit : Fit nest.levels nest.frames
  pub within : BeginWithin (length source.text) nest.levels
  pub few : length nest.levels + length rest ≤ length source.text
