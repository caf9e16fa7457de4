-- Each run of a template's code writes the template's text.
use Rattle.std.proofs.Common.{◌≡◌, ℕ, suc, ◌+◌, List, [], ◌∷◌, ◌++◌, length, refl, Bool, true, false, subst, arith}
use Rattle.std.specs.List.{flat_map}
use Rattle.std.specs.Prelude.{not}
use Rattle.data_tree.specs.Tree.{Tree}
use Rattle.data_tree.specs.LookUp.{EmptyNameFindsNothing}
use Rattle.helper_set.specs.Escape.{html_escaped}
use Rattle.helper_set.specs.Values.{Value, a_datum, a_text, a_truth, text_of, truth_of}
use Rattle.helper_set.specs.declared.helper.Helper.TheVariants.{Not}
use Rattle.helper_set.specs.declared.kind.Kind.{Kind}
use Rattle.helper_set.specs.declared.signature.Parameter.TheVariants.{Of}
use Rattle.template_code.specs.Code.{StackCode}
use Rattle.template_code.specs.Machine.{Loop, writes}
use Rattle.template_code.specs.declared.instr.Instr.TheVariants.{Call, Print, Halt}
use Rattle.template_code.specs.declared.instr.Instr as instrs_of
use Rattle.template_code.proofs.FlowFacts.{state, at_turn, comes-straight, comes-to, comes-runs}
use Rattle.template_tags.specs.Expression.{Expression}
use Rattle.template_tags.specs.declared.expression.Datum.{Datum}
use Rattle.template_tree.specs.declared.escape.Escape.{Escape}
use Rattle.template_tree.specs.declared.escape.Escape.TheVariants.{Off, Html}
use Rattle.template_tree.specs.Tree.{Node, piece, print, if_then, if_else, each, each_else, Nodes, no_nodes, first_node}
use Rattle.template_tree.specs.Meaning.{Turn, turns_of, datum_at, value_of, escaped, is_taken, node_text, template_text}
use Rattle.template_compile.specs.Compiled.{◌▸◌, start_offsets, instructions, branch_over, jump_over, each_over, size}
use Rattle.template_compile.specs.Compiled.{again, datum_code, code_for, print_instrs, negation, test_code, node_code}
use Rattle.template_compile.specs.Compiled.{nodes_code, stack_code}
use Rattle.template_compile.specs.Correct.{WritesTextOf}
use Rattle.template_tree.specs.Sound.{SoundExpression, SoundNode, SoundNodes}
use Rattle.template_compile.proofs.ExpressionRuns.{goes-datum, goes-code_for}
use Rattle.template_compile.proofs.Fits.{TurnFits, LoopsFit, length-turns_of, turn-fits}
use Rattle.template_compile.proofs.Goes.{Goes, goes-nothing, goes-join, goes-then, goes-instr, goes-emit, goes-if}
use Rattle.template_compile.proofs.Goes.{goes-if_else}
use Rattle.template_compile.proofs.HasCode.{after_part, has_part-front, has_part-back, has_code-itself}
use Rattle.template_compile.proofs.Lengths.{sized-nodes}
use Rattle.template_compile.proofs.LoopRuns.{texts_or, Turning, goes-each, goes-each_else}

module _ (code : StackCode) (root : Tree) (loops : List Loop) where
  goes-print : (text : List ℕ) (stack : List Value)
      → Goes code root (instructions (Print ∷ [])) loops (a_text text ∷ stack) stack text
  goes-print text stack offsets output has =
      comes-to code root (state offsets.index (a_text text ∷ stack) loops output) (suc offsets.index)
      (after_part offsets (instructions (Print ∷ []))).index stack loops (output ++ text) (output ++ text)
      (omega arith) refl
      (comes-straight code root Print offsets.index (a_text text ∷ stack) loops output (writes text stack)
      has.instrs.0 refl refl)

  -- a text is written, escaped first or not
  goes-escaped : (escape : Escape) (text : List ℕ) (stack : List Value)
      → Goes code root (instructions (print_instrs escape)) loops (a_text text ∷ stack) stack (escaped escape text)
  goes-escaped Off text stack = goes-print text stack
  goes-escaped Html text stack =
      goes-then code root loops (instructions (instrs_of.TheVariants.Escape ∷ [])) (instructions (Print ∷ []))
      (a_text text ∷ stack)
      (a_text (html_escaped text) ∷ stack) stack (html_escaped text)
      (goes-instr code root loops instrs_of.TheVariants.Escape (a_text text ∷ stack)
      (a_text (html_escaped text) ∷ stack)
      refl refl)
      (goes-print (html_escaped text) stack)

  goes-negated : (unless : Bool) (b : Bool) (stack : List Value)
      → Goes code root (instructions (negation unless)) loops (a_truth b ∷ stack)
      (a_truth (is_taken unless b) ∷ stack) []
  goes-negated false b stack = goes-nothing code root loops (a_truth b ∷ stack)
  goes-negated true b stack =
      goes-instr code root loops (Call Not) (a_truth b ∷ stack) (a_truth (not b) ∷ stack) refl refl

module _ (code : StackCode) (root : Tree) (empty : EmptyNameFindsNothing root) where
  -- whether a part is taken is pushed
  goes-test :
      (loops : List Loop) (turns : List Turn) (unless : Bool) (test : Expression) (stack : List Value)
      → LoopsFit loops turns → SoundExpression (length turns) test
      → Goes code root (test_code unless test) loops stack
      (a_truth (is_taken unless (truth_of (value_of test root turns))) ∷ stack) []
  goes-test loops turns unless test stack fits sound =
      let v = value_of test root turns in
      let taken = a_truth (is_taken unless (truth_of v)) ∷ stack in
      goes-then code root loops (code_for (Of Kind.Truth) test) (instructions (negation unless)) stack
      (a_truth (truth_of v) ∷ stack) taken []
      (goes-code_for code root loops turns fits empty (Of Kind.Truth) test stack sound)
      (goes-negated code root loops unless (truth_of v) stack)

  -- a loop over a value whose body, with one more loop at any turn, writes what it means there
  abbrev turning :
      (body : Nodes) (over : Tree) (loops : List Loop) (turns : List Turn) (stack : List Value)
      → ((l : Loop) (t : Turn) → TurnFits l t
      → Goes code root (nodes_code body) (l ∷ loops) stack stack (template_text body root (t ∷ turns)))
      → Turning code root loops Turn (nodes_code body) (size (nodes_code body)) stack over
  turning body over loops turns stack inside = record {
    turns = turns_of over;
    text = λ turn. template_text body root (turn ∷ turns);
    long = sized-nodes body;
    counted = length-turns_of over;
    each_turn = λ k turn there. inside (at_turn over k) turn (turn-fits over k turn there);
  }

  -- what a loop with an else part means, by whether there is a turn
  each_else-text :
      (over : Datum) (body otherwise : Nodes) (turns : List Turn)
      → texts_or (turns_of (datum_at over root turns))
      (flat_map (λ turn. template_text body root (turn ∷ turns)) (turns_of (datum_at over root turns)))
      (template_text otherwise root turns) ≡ node_text (each_else over body otherwise) root turns
  each_else-text over body otherwise turns = by (turns_of (datum_at over root turns)) refl
    where
      by : (found : List Turn) → turns_of (datum_at over root turns) ≡ found →
          texts_or (turns_of (datum_at over root turns))
          (flat_map (λ turn. template_text body root (turn ∷ turns)) (turns_of (datum_at over root turns)))
          (template_text otherwise root turns) ≡ node_text (each_else over body otherwise) root turns
      by [] e = rw e refl
      by (turn ∷ found) e = rw e refl

  mutual
    goes-node :
        (node : Node) (loops : List Loop) (turns : List Turn) (stack : List Value) → LoopsFit loops turns
        → SoundNode (length turns) node
        → Goes code root (node_code node) loops stack stack (node_text node root turns)
    goes-node (piece bytes) loops turns stack fits sound = goes-emit code root loops bytes stack
    goes-node (print escape e) loops turns stack fits sound =
        let v = value_of e root turns in
        goes-then code root loops (code_for (Of Kind.Text) e) (instructions (print_instrs escape)) stack
        (a_text (text_of v) ∷ stack) stack (node_text (print escape e) root turns)
        (goes-code_for code root loops turns fits empty (Of Kind.Text) e stack sound.0)
        (goes-escaped code root loops escape (text_of v) stack)
    goes-node (if_then unless test body) loops turns stack fits sound =
        let b = is_taken unless (truth_of (value_of test root turns)) in
        let n = size (nodes_code body) in
        goes-then code root loops (test_code unless test) (branch_over n ▸ nodes_code body)
        stack (a_truth b ∷ stack)
        stack (node_text (if_then unless test body) root turns)
        (goes-test loops turns unless test stack fits sound.0.0)
        (goes-if code root loops b n (nodes_code body) stack (template_text body root turns) (sized-nodes body)
        (goes-nodes body loops turns stack fits sound.1))
    goes-node (if_else unless test body otherwise) loops turns stack fits sound =
        let b = is_taken unless (truth_of (value_of test root turns)) in
        let m = size (nodes_code body) in
        let n = size (nodes_code otherwise) in
        goes-then code root loops (test_code unless test)
        (branch_over (m + 1) ▸ nodes_code body ▸ jump_over n ▸ nodes_code otherwise) stack
        (a_truth b ∷ stack) stack
        (node_text (if_else unless test body otherwise) root turns)
        (goes-test loops turns unless test stack fits sound.0.0)
        (goes-if_else code root loops b m n (nodes_code body) (nodes_code otherwise) stack
        (template_text body root turns) (template_text otherwise root turns) (sized-nodes body)
        (sized-nodes otherwise) (goes-nodes body loops turns stack fits sound.1)
        (goes-nodes otherwise loops turns stack fits sound.2))
    goes-node (each over body) loops turns stack fits sound =
        let t = datum_at over root turns in
        let n = size (nodes_code body) in
        goes-then code root loops (datum_code over) (each_over (n + 1) ▸ nodes_code body ▸ again n) stack
        (a_datum t ∷ stack) stack (node_text (each over body) root turns)
        (goes-datum code root loops turns fits empty over stack sound.0)
        (goes-each code root loops (nodes_code body) n stack t (turning body t loops turns stack
        (λ l turn at. goes-nodes body (l ∷ loops) (turn ∷ turns) stack (at, fits) sound.2)))
    goes-node (each_else over body otherwise) loops turns stack fits sound =
        let t = datum_at over root turns in
        let n = size (nodes_code body) in
        let m = size (nodes_code otherwise) in
        goes-then code root loops (datum_code over)
        (each_over (n + 2) ▸ nodes_code body ▸ again n ▸ jump_over m ▸ nodes_code otherwise)
        stack (a_datum t ∷ stack)
        stack (node_text (each_else over body otherwise) root turns)
        (goes-datum code root loops turns fits empty over stack sound.0)
        (subst
        (Goes code root (each_over (n + 2) ▸ nodes_code body ▸ again n ▸ jump_over m
        ▸ nodes_code otherwise) loops
        (a_datum t ∷ stack) stack)
        (each_else-text over body otherwise turns)
        (goes-each_else code root loops (nodes_code body) n stack t
        (turning body t loops turns stack
        (λ l turn at. goes-nodes body (l ∷ loops) (turn ∷ turns) stack (at, fits) sound.2))
        m (nodes_code otherwise)
        (template_text otherwise root turns) (sized-nodes otherwise)
        (goes-nodes otherwise loops turns stack fits sound.3)))

    goes-nodes :
        (nodes : Nodes) (loops : List Loop) (turns : List Turn) (stack : List Value) → LoopsFit loops turns
        → SoundNodes (length turns) nodes
        → Goes code root (nodes_code nodes) loops stack stack (template_text nodes root turns)
    goes-nodes no_nodes loops turns stack fits sound = goes-nothing code root loops stack
    goes-nodes (first_node node nodes) loops turns stack fits sound =
        goes-join code root loops (node_code node) (nodes_code nodes) stack stack stack (node_text node root turns)
        (template_text nodes root turns) (goes-node node loops turns stack fits sound.0)
        (goes-nodes nodes loops turns stack fits sound.1)

pub stack_code-runs : (nodes : Nodes) → SoundNodes 0 nodes → WritesTextOf (stack_code nodes) nodes
stack_code-runs nodes sound root empty =
    let code = stack_code nodes in
    let end = after_part start_offsets (nodes_code nodes) in
    let whole = has_code-itself code in
    let before = has_part-front code start_offsets (nodes_code nodes) (instructions (Halt ∷ [])) whole in
    let halt = (has_part-back code start_offsets (nodes_code nodes) (instructions (Halt ∷ [])) whole).instrs.0 in
    comes-runs code root (state end.index [] [] (template_text nodes root []))
    (goes-nodes code root empty nodes [] [] [] tt sound start_offsets [] before) halt
