-- Parts are those of one tree at most: what parts, from one of them to the last, form gives the tree back.
use Rattle.std.proofs.Common.{◌≡◌, Bool, List, [], ◌∷◌, refl, sym, ap, ◌∙◌}
use Rattle.template_tags.specs.declared.expression.Datum.{Datum}
use Rattle.template_tags.specs.Expression.{Expression}
use Rattle.template_tree.specs.Parts.{Part, leaf, opens_if, opens_each, begins_else, closes, spell_node, spell}
use Rattle.template_tree.specs.Tree.{Node, piece, print, if_then, if_else, each, each_else, Nodes, no_nodes, first_node}

-- an else or a close whose block begins before these parts, and the nodes after it
data Later : Type 0 where
  at_end : Later
  after_else : Nodes → Later → Later
  after_close : Nodes → Later → Later

-- the nodes up to the first such else or close, and what comes from there on
record Formed : Type 0 where
  here : Nodes
  later : Later

abbrev formed_with : Nodes → Later → Formed
formed_with here later = record { here = here; later = later }

-- a block begins here: its parts end at the first else, if there is one, and at the close; a block that has no close,
-- or more elses, may be any node
abbrev if_formed : Bool → Expression → Nodes → Later → Formed
if_formed unless test here at_end = formed_with here at_end
if_formed unless test here (after_close outer later) = formed_with (first_node (if_then unless test here) outer) later
if_formed unless test here (after_else otherwise at_end) = formed_with here at_end
if_formed unless test here (after_else otherwise (after_else more later)) = formed_with here at_end
if_formed unless test here (after_else otherwise (after_close outer later)) =
    formed_with (first_node (if_else unless test here otherwise) outer) later

abbrev each_formed : Datum → Nodes → Later → Formed
each_formed over here at_end = formed_with here at_end
each_formed over here (after_close outer later) = formed_with (first_node (each over here) outer) later
each_formed over here (after_else otherwise at_end) = formed_with here at_end
each_formed over here (after_else otherwise (after_else more later)) = formed_with here at_end
each_formed over here (after_else otherwise (after_close outer later)) =
    formed_with (first_node (each_else over here otherwise) outer) later

abbrev part_formed : Part → Formed → Formed
part_formed (leaf node) f = formed_with (first_node node f.here) f.later
part_formed (opens_if unless test) f = if_formed unless test f.here f.later
part_formed (opens_each over) f = each_formed over f.here f.later
part_formed begins_else f = formed_with no_nodes (after_else f.here f.later)
part_formed closes f = formed_with no_nodes (after_close f.here f.later)

abbrev formed : List Part → Formed
formed [] = formed_with no_nodes at_end
formed (part ∷ parts) = part_formed part (formed parts)

abbrev joined : Nodes → Nodes → Nodes
joined no_nodes more = more
joined (first_node node nodes) more = first_node node (joined nodes more)

joined_none : (nodes : Nodes) → joined nodes no_nodes ≡ nodes
joined_none no_nodes = refl
joined_none (first_node node nodes) = ap (first_node node) (joined_none nodes)

-- nodes before parts that begin with no node
alone : (nodes : Nodes) (parts : List Part) → (formed parts).here ≡ no_nodes
    → formed (spell nodes parts) ≡ formed_with (joined nodes (formed parts).here) (formed parts).later
    → formed (spell nodes parts) ≡ formed_with nodes (formed parts).later
alone nodes parts e h =
    h ∙ ap (λ here. formed_with here (formed parts).later) (ap (joined nodes) e ∙ joined_none nodes)

mutual
  formed-node : (node : Node) (parts : List Part)
      → formed (spell_node node parts) ≡ formed_with (first_node node (formed parts).here) (formed parts).later
  formed-node (piece bytes) parts = refl
  formed-node (print escape e) parts = refl
  formed-node (if_then unless test body) parts =
      ap (λ (f : Formed). if_formed unless test f.here f.later)
      (alone body (closes ∷ parts) refl (formed-nodes body (closes ∷ parts)))
  formed-node (if_else unless test body otherwise) parts =
      let more = begins_else ∷ spell otherwise (closes ∷ parts) in
      ap (λ (f : Formed). if_formed unless test f.here f.later)
      (alone body more refl (formed-nodes body more)
      ∙ ap (λ (f : Formed). formed_with body (after_else f.here f.later))
      (alone otherwise (closes ∷ parts) refl (formed-nodes otherwise (closes ∷ parts))))
  formed-node (each over body) parts =
      ap (λ (f : Formed). each_formed over f.here f.later)
      (alone body (closes ∷ parts) refl (formed-nodes body (closes ∷ parts)))
  formed-node (each_else over body otherwise) parts =
      let more = begins_else ∷ spell otherwise (closes ∷ parts) in
      ap (λ (f : Formed). each_formed over f.here f.later)
      (alone body more refl (formed-nodes body more)
      ∙ ap (λ (f : Formed). formed_with body (after_else f.here f.later))
      (alone otherwise (closes ∷ parts) refl (formed-nodes otherwise (closes ∷ parts))))

  formed-nodes : (nodes : Nodes) (parts : List Part)
      → formed (spell nodes parts) ≡ formed_with (joined nodes (formed parts).here) (formed parts).later
  formed-nodes no_nodes parts = refl
  formed-nodes (first_node node nodes) parts =
      formed-node node (spell nodes parts)
      ∙ ap (λ (f : Formed). formed_with (first_node node f.here) f.later) (formed-nodes nodes parts)

pub same_tree : (a b : Nodes) → spell a [] ≡ spell b [] → a ≡ b
same_tree a b e =
    ap (λ (f : Formed). f.here)
    (sym (alone a [] refl (formed-nodes a [])) ∙ (ap formed e ∙ alone b [] refl (formed-nodes b [])))
