-- The tree that a text spells is sound.
use Rattle.std.proofs.Common.{◌≡◌, ℕ, suc, ◌≤◌, Bool, true, false, List, [], ◌∷◌, map, length, drop}
use Rattle.std.proofs.Common.{None, refl, subst, arith}
use Rattle.template_tags.specs.declared.level.Block.TheVariants.{Each}
use Rattle.template_tags.specs.declared.level.Level.{Level}
use Rattle.template_tags.specs.declared.level.TheConstants.{LOOP_LIMIT}
use Rattle.template_tags.specs.Levels.{loops_open}
use Rattle.template_tags.specs.Tags as said
use Rattle.template_tree.specs.declared.escape.Escape.{Escape}
use Rattle.template_tree.specs.declared.parser.TheConstants.{TEXT_LIMIT}
use Rattle.template_tree.specs.Grammar.{test_block, opened, else_begun, token_levels, Leads, Spells}
use Rattle.template_tree.specs.Parts.{Part, leaf, opens_if, opens_each, begins_else, closes, parts_of, spell_node}
use Rattle.template_tree.specs.Parts.{spell}
use Rattle.template_tree.specs.Sound.{SoundDatum, SoundValue, SoundNode, SoundNodes}
use Rattle.template_tree.specs.Source.{Source}
use Rattle.template_tree.specs.Tokens.{Token, text_token, comment_token, tag_token}
use Rattle.template_tree.specs.Tree.{Node, piece, print, if_then, if_else, each, each_else, Nodes, no_nodes, first_node}
use Rattle.template_tree.proofs.Rows.{token_shorter}
use Rattle.template_tree.proofs.SoundTokens.{SoundToken, token-sound}

-- ---- parts

-- a level without its place in the text and its parameter
abbrev shape : Level → Level
shape level = record { left = 0; block = level.block; parameter = None; in_else = level.in_else }

same_loops : (levels : List Level) → loops_open levels ≡ loops_open (map shape levels)
same_loops [] = refl
same_loops (level ∷ levels) = rw (same_loops levels) refl

abbrev SoundParts : List Level → List Part → Type 0
SoundParts levels [] = Unit {0}
SoundParts levels (leaf node ∷ parts) = SoundNode (loops_open levels) node × SoundParts levels parts
SoundParts levels (opens_if unless test ∷ parts) =
    SoundValue (loops_open levels) test × SoundParts (opened 0 (test_block unless) None ∷ levels) parts
SoundParts levels (opens_each over ∷ parts) =
    SoundDatum (loops_open levels) over × (suc (loops_open levels) ≤ LOOP_LIMIT)
    × SoundParts (opened 0 Each None ∷ levels) parts
SoundParts levels (begins_else ∷ parts) = SoundParts (else_begun levels) parts
SoundParts levels (closes ∷ parts) = SoundParts (drop 1 levels) parts

begun : (levels : List Level) → map shape (else_begun levels) ≡ else_begun (map shape levels)
begun [] = refl
begun (level ∷ levels) = refl

ended_block : (levels : List Level) → map shape (drop 1 levels) ≡ drop 1 (map shape levels)
ended_block [] = refl
ended_block (level ∷ levels) = refl

parts-sound :
    (escape : Escape) (ts : List Token) (levels new_levels : List Level) (text rest : List ℕ)
    → length text ≤ TEXT_LIMIT → Leads ts levels text new_levels rest
    → SoundParts (map shape levels) (parts_of escape ts [])
parts-sound escape [] levels new_levels text rest le h = tt
parts-sound escape (t ∷ ts) levels new_levels text rest le h =
    by t (token-sound levels text h.0 t le h.1)
    (parts-sound escape ts (token_levels (length text) t levels) new_levels h.0 rest
    (omega (arith, le, token_shorter levels text h.0 t h.1)) h.2)
  where
    P : (ℕ → Type 0) → Type 0
    P Q = Q (loops_open levels) → Q (loops_open (map shape levels))

    moved : (Q : ℕ → Type 0) → P Q
    moved Q q = subst Q (same_loops levels) q

    by : (t : Token) → SoundToken levels t
        → SoundParts (map shape (token_levels (length text) t levels)) (parts_of escape ts [])
        → SoundParts (map shape levels) (parts_of escape (t ∷ ts) [])
    by (text_token bytes) s more = (s, more)
    by comment_token s more = more
    by (tag_token opening (said.print e)) s more = (moved (λ loops. SoundValue loops e) s, more)
    by (tag_token opening (said.open_if unless test)) s more = (moved (λ loops. SoundValue loops test) s.0, more)
    by (tag_token opening (said.open_each over parameter)) s more =
        (moved (λ loops. SoundDatum loops over) s.0, moved (λ loops. suc loops ≤ LOOP_LIMIT) s.2, more)
    by (tag_token opening said.begin_else) s more =
        subst (λ ls. SoundParts ls (parts_of escape ts [])) (begun levels) more
    by (tag_token opening said.close) s more =
        subst (λ ls. SoundParts ls (parts_of escape ts [])) (ended_block levels) more

-- ---- trees

in_if : (unless : Bool) (levels : List Level)
    → loops_open (opened 0 (test_block unless) None ∷ levels) ≡ loops_open levels
in_if true levels = refl
in_if false levels = refl

in_if_else : (unless : Bool) (levels : List Level)
    → loops_open (else_begun (opened 0 (test_block unless) None ∷ levels)) ≡ loops_open levels
in_if_else true levels = refl
in_if_else false levels = refl

mutual
  node-sound : (node : Node) (levels : List Level) (parts : List Part) → SoundParts levels (spell_node node parts)
      → SoundNode (loops_open levels) node × SoundParts levels parts
  node-sound (piece bytes) levels parts h = h
  node-sound (print escape e) levels parts h = h
  node-sound (if_then unless test body) levels parts h =
      let main = nodes-sound body (opened 0 (test_block unless) None ∷ levels) (closes ∷ parts) h.1 in
      ((h.0, subst (λ n. SoundNodes n body) (in_if unless levels) main.0), main.1)
  node-sound (if_else unless test body otherwise) levels parts h =
      let inside = opened 0 (test_block unless) None ∷ levels in
      let main = nodes-sound body inside (begins_else ∷ spell otherwise (closes ∷ parts)) h.1 in
      let later = nodes-sound otherwise (else_begun inside) (closes ∷ parts) main.1 in (
        (
          h.0,
          subst (λ n. SoundNodes n body) (in_if unless levels) main.0,
          subst (λ n. SoundNodes n otherwise) (in_if_else unless levels) later.0,
        ),
        later.1,
      )
  node-sound (each over body) levels parts h =
      let main = nodes-sound body (opened 0 Each None ∷ levels) (closes ∷ parts) h.2 in
      ((h.0, h.1, main.0), main.1)
  node-sound (each_else over body otherwise) levels parts h =
      let inside = opened 0 Each None ∷ levels in
      let main = nodes-sound body inside (begins_else ∷ spell otherwise (closes ∷ parts)) h.2 in
      let later = nodes-sound otherwise (else_begun inside) (closes ∷ parts) main.1 in
      ((h.0, h.1, main.0, later.0), later.1)

  nodes-sound : (nodes : Nodes) (levels : List Level) (parts : List Part) → SoundParts levels (spell nodes parts)
      → SoundNodes (loops_open levels) nodes × SoundParts levels parts
  nodes-sound no_nodes levels parts h = (tt, h)
  nodes-sound (first_node node nodes) levels parts h =
      let first = node-sound node levels (spell nodes parts) h in
      let more = nodes-sound nodes levels parts first.1 in ((first.0, more.0), more.1)

pub spelled_is_sound : (source : Source) (tree : Nodes) → Spells source tree → SoundNodes 0 tree
spelled_is_sound source tree s =
    (nodes-sound tree [] []
    (subst (SoundParts []) s.same (parts-sound source.escape s.tokens [] [] source.text [] s.short s.leads))).0
