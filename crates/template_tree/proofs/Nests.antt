-- What a token makes of the blocks that are open: their levels, their parts, and that each level is that of a frame.
use Rattle.std.proofs.Common.{◌≡◌, ℕ, suc, ◌≤◌, Bool, true, false, true≢false, List, [], ◌∷◌}
use Rattle.std.proofs.Common.{◌++◌, length, drop, Option, Some, None, refl, ap, ◌∙◌, arith}
use Rattle.std.specs.Prelude.{is_some}
use Rattle.template_tags.specs.declared.level.Level.{Level}
use Rattle.template_tags.specs.Levels.{is_each}
use Rattle.template_tags.specs.Tags as said
use Rattle.template_tree.specs.declared.escape.Escape.{Escape}
use Rattle.template_tree.specs.declared.node.Node as declared
use Rattle.template_tree.specs.Grammar.{test_block, else_begun, token_levels}
use Rattle.template_tree.specs.Inner.Frames.{Head, if_head, each_head, Frame, Nest, pushed, block_node}
use Rattle.template_tree.specs.Inner.Frames.{with_token, Allows, AllowsToken, Fit, head_part, main_parts}
use Rattle.template_tree.specs.Inner.Frames.{frames_with_else, closed_here, parts_in, BeginWithin}
use Rattle.template_tree.specs.Parts.{Part, begins_else, closes, escape_under, token_part, spell_node, spell}
use Rattle.template_tree.specs.Tokens.{Token, text_token, comment_token, tag_token}
use Rattle.template_tree.specs.Tree.{Node, piece, print, Nodes, no_nodes, first_node, node_view, nodes_view}

pub nodes_push : (ns : List declared.Node) (n : declared.Node)
    → nodes_view (ns ++ n ∷ []) ≡ pushed (nodes_view ns) (node_view n)
nodes_push [] n = refl
nodes_push (m ∷ ns) n = ap (first_node (node_view m)) (nodes_push ns n)

-- ---- levels

pub levels_with : (escape : Escape) (left : ℕ) (t : Token) (nest : Nest)
    → (with_token escape left t nest).levels ≡ token_levels left t nest.levels
levels_with escape left (text_token bytes) nest = refl
levels_with escape left comment_token nest = refl
levels_with escape left (tag_token opening (said.print e)) nest = refl
levels_with escape left (tag_token opening (said.open_if unless test)) nest = refl
levels_with escape left (tag_token opening (said.open_each over parameter)) nest = refl
levels_with escape left (tag_token opening said.begin_else) nest = refl
levels_with escape left (tag_token opening said.close) nest = refl

-- a token opens one block at most, which begins at the token
pub few_after : (left : ℕ) (t : Token) (levels : List Level)
    → length (token_levels left t levels) ≤ suc (length levels)
few_after left (text_token bytes) levels = omega arith
few_after left comment_token levels = omega arith
few_after left (tag_token opening (said.print e)) levels = omega arith
few_after left (tag_token opening (said.open_if unless test)) levels = omega arith
few_after left (tag_token opening (said.open_each over parameter)) levels = omega arith
few_after left (tag_token opening said.begin_else) [] = omega arith
few_after left (tag_token opening said.begin_else) (level ∷ levels) = omega arith
few_after left (tag_token opening said.close) [] = omega arith
few_after left (tag_token opening said.close) (level ∷ levels) = omega arith

pub within_after : (n left : ℕ) (t : Token) (levels : List Level) → left ≤ n → BeginWithin n levels
    → BeginWithin n (token_levels left t levels)
within_after n left (text_token bytes) levels le h = h
within_after n left comment_token levels le h = h
within_after n left (tag_token opening (said.print e)) levels le h = h
within_after n left (tag_token opening (said.open_if unless test)) levels le h = (le, h)
within_after n left (tag_token opening (said.open_each over parameter)) levels le h = (le, h)
within_after n left (tag_token opening said.begin_else) [] le h = tt
within_after n left (tag_token opening said.begin_else) (level ∷ levels) le h = h
within_after n left (tag_token opening said.close) [] le h = tt
within_after n left (tag_token opening said.close) (level ∷ levels) le h = h.1

test_is_no_loop : (unless : Bool) → false ≡ is_each (test_block unless)
test_is_no_loop true = refl
test_is_no_loop false = refl

pub fit_after : (escape : Escape) (left : ℕ) (t : Token) (nest : Nest) → AllowsToken nest.levels t
    → Fit nest.levels nest.frames
    → Fit (with_token escape left t nest).levels (with_token escape left t nest).frames
fit_after escape left (text_token bytes) nest allowed h = h
fit_after escape left comment_token nest allowed h = h
fit_after escape left (tag_token opening (said.print e)) nest allowed h = h
fit_after escape left (tag_token opening (said.open_if unless test)) nest allowed h = (refl, test_is_no_loop unless, h)
fit_after escape left (tag_token opening (said.open_each over parameter)) nest allowed h = (refl, refl, h)
fit_after escape left (tag_token opening said.begin_else) nest allowed h = by nest.levels nest.frames allowed h
  where
    by : (levels : List Level) (frames : List Frame) → Allows levels said.begin_else → Fit levels frames
        → Fit (else_begun levels) (frames_with_else frames nest.here)
    by [] frames free h = absurd free
    by (level ∷ levels) [] free h = absurd h
    by (level ∷ levels) (f ∷ fs) free h = (refl, h.1, h.2)
fit_after escape left (tag_token opening said.close) nest allowed h = by nest.levels nest.frames allowed h
  where
    by : (levels : List Level) (frames : List Frame) → Allows levels said.close → Fit levels frames
        → Fit (drop 1 levels) (drop 1 frames)
    by [] frames free h = absurd free
    by (level ∷ levels) [] free h = absurd h
    by (level ∷ levels) (f ∷ fs) free h = h.2

-- ---- parts

spell_push : (nodes : Nodes) (node : Node) (parts : List Part)
    → spell (pushed nodes node) parts ≡ spell nodes (spell_node node parts)
spell_push no_nodes node parts = refl
spell_push (first_node first nodes) node parts = ap (spell_node first) (spell_push nodes node parts)

parts_push : (frames : List Frame) (here : Nodes) (node : Node) (parts : List Part)
    → parts_in frames (pushed here node) parts ≡ parts_in frames here (spell_node node parts)
parts_push [] here node parts = spell_push here node parts
parts_push (f ∷ fs) here node parts =
    ap (λ ps. parts_in fs f.before (head_part f.head ∷ main_parts f.main ps)) (spell_push here node parts)

-- a block's parts are its head's, those of its main part, and those of the last one
block_parts : (head : Head) (main : Option Nodes) (here : Nodes) (parts : List Part)
    → spell_node (block_node head main here) parts
    ≡ head_part head ∷ main_parts main (spell here (closes ∷ parts))
block_parts (if_head unless test) None here parts = refl
block_parts (if_head unless test) (Some main) here parts = refl
block_parts (each_head over) None here parts = refl
block_parts (each_head over) (Some main) here parts = refl

pub parts_after : (escape : Escape) (left : ℕ) (t : Token) (nest : Nest) (parts : List Part)
    → AllowsToken nest.levels t → Fit nest.levels nest.frames
    → parts_in (with_token escape left t nest).frames (with_token escape left t nest).here parts
    ≡ parts_in nest.frames nest.here (token_part escape t parts)
parts_after escape left (text_token bytes) nest parts allowed h = parts_push nest.frames nest.here (piece bytes) parts
parts_after escape left comment_token nest parts allowed h = refl
parts_after escape left (tag_token opening (said.print e)) nest parts allowed h =
    parts_push nest.frames nest.here (print (escape_under escape opening) e) parts
parts_after escape left (tag_token opening (said.open_if unless test)) nest parts allowed h = refl
parts_after escape left (tag_token opening (said.open_each over parameter)) nest parts allowed h = refl
parts_after escape left (tag_token opening said.begin_else) nest parts allowed h =
    by nest.levels nest.frames allowed h
  where
    by : (levels : List Level) (frames : List Frame) → Allows levels said.begin_else → Fit levels frames
        → parts_in (frames_with_else frames nest.here) no_nodes parts
        ≡ parts_in frames nest.here (begins_else ∷ parts)
    by [] frames free h = absurd free
    by (level ∷ levels) [] free h = absurd h
    by (level ∷ levels) (f ∷ fs) free h = with_main f.main h.0
      where
        with_main : (main : Option Nodes) → is_some main ≡ level.in_else
            → parts_in fs f.before (head_part f.head ∷ spell nest.here (begins_else ∷ parts))
            ≡ parts_in fs f.before (head_part f.head ∷ main_parts main (spell nest.here (begins_else ∷ parts)))
        with_main None e = refl
        with_main (Some nodes) e = absurd (true≢false (e ∙ free))
parts_after escape left (tag_token opening said.close) nest parts allowed h = by nest.levels nest.frames allowed h
  where
    by : (levels : List Level) (frames : List Frame) → Allows levels said.close → Fit levels frames
        → parts_in (drop 1 frames) (closed_here frames nest.here) parts
        ≡ parts_in frames nest.here (closes ∷ parts)
    by [] frames free h = absurd free
    by (level ∷ levels) [] free h = absurd h
    by (level ∷ levels) (f ∷ fs) free h =
        parts_push fs f.before (block_node f.head f.main nest.here) parts
        ∙ ap (parts_in fs f.before) (block_parts f.head f.main nest.here parts)
