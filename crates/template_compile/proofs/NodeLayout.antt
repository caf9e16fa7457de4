-- A template's code is well formed and within all limits.
use Rattle.std.proofs.Common.{◌≡◌, ℕ, suc, ◌+◌, ◌*◌, ◌≤◌, List, [], ◌∷◌, length, refl, ap}
use Rattle.std.proofs.Common.{true, false, Bool, subst, arith}
use Rattle.std.specs.Prelude.{not}
use Rattle.std.proofs.lemmas.Bool.{lt-ltb, eq-eqb}
use Rattle.std.proofs.lemmas.Option.{none-some, slice_get_within}
use Rattle.helper_set.specs.declared.helper.Helper.TheVariants.{Not}
use Rattle.helper_set.specs.declared.kind.Kind.{Kind}
use Rattle.helper_set.specs.declared.signature.Parameter.TheVariants.{Of}
use Rattle.template_code.specs.Code.{StackCode}
use Rattle.template_code.specs.declared.instr.Instr as instrs
use Rattle.template_code.specs.declared.instr.Instr.TheVariants.{Emit, Call, Print, Halt}
use Rattle.template_code.specs.declared.limits.TheConstants.{MAX_INSTRUCTIONS, MAX_LOOPS}
use Rattle.code_rules.specs.Bounds.{Bound}
use Rattle.code_rules.specs.Costs.{bounds_after}
use Rattle.code_rules.specs.Verdict.{IsWellFormed, IsWithinLimits}
use Rattle.code_rules.proofs.LandingFacts.{formed-from}
use Rattle.code_rules.proofs.LightFacts.{IsLight, within-light}
use Rattle.code_rules.proofs.TotalFacts.{total-at_most, total-times_bound}
use Rattle.template_tags.specs.Expression.{Expression}
use Rattle.template_tree.specs.declared.escape.Escape.{Escape}
use Rattle.template_tree.specs.declared.escape.Escape.TheVariants.{Off, Html}
use Rattle.template_tree.specs.Tree.{Node, piece, print, if_then, if_else, each, each_else, Nodes, no_nodes, first_node}
use Rattle.template_compile.specs.Compiled.{start_offsets, ◌▸◌, instructions, emit_code, branch_over, jump_over, size}
use Rattle.template_compile.specs.Compiled.{each_over, again, datum_code, code_for, print_instrs, negation, test_code}
use Rattle.template_compile.specs.Compiled.{node_code, nodes_code, stack_code}
use Rattle.template_tags.specs.Sound.{depth_of}
use Rattle.template_tree.specs.Sound.{SoundExpression, SoundNode, SoundNodes}
use Rattle.template_compile.proofs.Blocks.{lays-if, lays-if_else, lays-each, lays-each_else}
use Rattle.template_compile.proofs.ExpressionLayout.{lays-datum, lays-code_for}
use Rattle.template_compile.proofs.HasCode.{after_part, has_part-front, has_part-back, has_code-itself}
use Rattle.template_compile.proofs.Heights.{cap, cap-some, cap-nine}
use Rattle.template_compile.proofs.Lengths.{sized-nodes, long-stack_code}
use Rattle.template_compile.proofs.Stretch.{Covers, covers-join, slot, Weigh, Stands, heaviest, FollowsAt}
use Rattle.template_compile.proofs.Stretch.{Lays, lays-nothing, lays-join, laid-one, lays-straight}

module _ (code : StackCode) (nest : List ℕ) (shallow : length nest ≤ MAX_LOOPS) where
  lays-emit : (bytes : List ℕ) → length bytes ≤ 65536 → Lays code (emit_code bytes) nest [] []
  lays-emit bytes few offsets has lt s =
      lays-straight code (Emit offsets.texts) nest [] []
      (record {
        straight = refl;
        names = lt-ltb offsets.texts (length code.texts) (slice_get_within code.texts offsets.texts bytes has.texts.0);
        enough = refl;
        fit = refl;
        kinds = refl;
        open_loop = refl;
        light = λ bounds w. (
          record { pushed = tt; written = rw has.texts.0 (omega (arith, total-at_most (length bytes), few)) },
          w,
        );
      }) shallow (omega arith) offsets (record { instrs = has.instrs; texts = tt; paths = tt }) lt s

  lays-print : (most : ℕ) → most ≤ heaviest
      → Lays code (instructions (Print ∷ [])) nest (slot Kind.Text most ∷ []) []
  lays-print most le =
      lays-straight code Print nest (slot Kind.Text most ∷ []) []
      (record {
        straight = refl;
        names = refl;
        enough = refl;
        fit = refl;
        kinds = refl;
        open_loop = refl;
        light = light;
      }) shallow (omega arith)
    where
      light : (bounds : List Bound) → Weigh (slot Kind.Text most ∷ []) bounds →
          IsLight code heaviest Print bounds × Weigh [] (bounds_after code Print bounds)
      light [] w = absurd w
      light (b ∷ []) w = (record { pushed = tt; written = omega (arith, w.0, le) }, tt)
      light (b ∷ c ∷ bounds) w = absurd w.1

  lays-escape :
      (most : ℕ) → 6 * most ≤ heaviest
      → Lays code (instructions (instrs.TheVariants.Escape ∷ [])) nest (slot Kind.Text most ∷ [])
      (slot Kind.Text (6 * most) ∷ [])
  lays-escape most le =
      lays-straight code instrs.TheVariants.Escape nest (slot Kind.Text most ∷ []) (slot Kind.Text (6 * most) ∷ [])
      (record {
        straight = refl;
        names = refl;
        enough = refl;
        fit = refl;
        kinds = refl;
        open_loop = refl;
        light = light;
      }) shallow (omega arith)
    where
      light : (bounds : List Bound) → Weigh (slot Kind.Text most ∷ []) bounds →
          IsLight code heaviest instrs.TheVariants.Escape bounds
          × Weigh (slot Kind.Text (6 * most) ∷ []) (bounds_after code instrs.TheVariants.Escape bounds)
      light [] w = absurd w
      light (b ∷ []) w =
          let six = total-times_bound 6 b in (
            record { pushed = (omega (arith, six, w.0, le), tt); written = omega arith },
            (omega (arith, six, w.0), tt),
          )
      light (b ∷ c ∷ bounds) w = absurd w.1

  -- a text is written, escaped first or not
  lays-escaped :
      (escape : Escape) (most : ℕ) → 6 * most ≤ heaviest
      → Lays code (instructions (print_instrs escape)) nest (slot Kind.Text most ∷ []) []
  lays-escaped Off most le = lays-print most (omega (arith, le))
  lays-escaped Html most le =
      lays-join code (instructions (instrs.TheVariants.Escape ∷ [])) (instructions (Print ∷ [])) nest
      (slot Kind.Text most ∷ []) (slot Kind.Text (6 * most) ∷ []) [] (lays-escape most le)
      (lays-print (6 * most) le)

  lays-negated :
      (unless : Bool) (most : ℕ) → 5 ≤ most → most ≤ heaviest
      → Lays code (instructions (negation unless)) nest (slot Kind.Truth most ∷ []) (slot Kind.Truth most ∷ [])
  lays-negated false most some le = lays-nothing code nest (slot Kind.Truth most ∷ [])
  lays-negated true most some le =
      lays-straight code (Call Not) nest (slot Kind.Truth most ∷ []) (slot Kind.Truth most ∷ [])
      (record {
        straight = refl;
        names = refl;
        enough = refl;
        fit = refl;
        kinds = refl;
        open_loop = refl;
        light = light;
      }) shallow (omega arith)
    where
      light : (bounds : List Bound) → Weigh (slot Kind.Truth most ∷ []) bounds →
          IsLight code heaviest (Call Not) bounds
          × Weigh (slot Kind.Truth most ∷ []) (bounds_after code (Call Not) bounds)
      light [] w = absurd w
      light (b ∷ []) w = (record { pushed = (omega arith, tt); written = omega arith }, (omega (arith, some), tt))
      light (b ∷ c ∷ bounds) w = absurd w.1

  -- whether a part is taken is pushed
  lays-test :
      (unless : Bool) (test : Expression) → SoundExpression (length nest) test → depth_of test ≤ 9
      → Lays code (test_code unless test) nest [] (slot Kind.Truth (cap (depth_of test)) ∷ [])
  lays-test unless test sound deep =
      let most = cap (depth_of test) in
      lays-join code (code_for (Of Kind.Truth) test) (instructions (negation unless)) nest []
      (slot Kind.Truth most ∷ []) (slot Kind.Truth most ∷ [])
      (lays-code_for code nest shallow (Of Kind.Truth) test tt sound deep)
      (lays-negated unless most (omega (arith, cap-some (depth_of test)))
      (omega (arith, cap-nine (depth_of test) deep)))

module _ (code : StackCode) where
  mutual
    lays-node :
        (node : Node) (nest : List ℕ)
        → length nest ≤ MAX_LOOPS → SoundNode (length nest) node → Lays code (node_code node) nest [] []
    lays-node (piece bytes) nest shallow sound = lays-emit code nest shallow bytes sound
    lays-node (print escape e) nest shallow sound =
        let most = cap (depth_of e) in
        lays-join code (code_for (Of Kind.Text) e) (instructions (print_instrs escape)) nest []
        (slot Kind.Text most ∷ []) [] (lays-code_for code nest shallow (Of Kind.Text) e tt sound.0 sound.1)
        (lays-escaped code nest shallow escape most (omega (arith, cap-nine (depth_of e) sound.1)))
    lays-node (if_then unless test body) nest shallow sound =
        let n = size (nodes_code body) in
        let most = cap (depth_of test) in
        lays-join code (test_code unless test) (branch_over n ▸ nodes_code body) nest []
        (slot Kind.Truth most ∷ []) []
        (lays-test code nest shallow unless test sound.0.0 sound.0.1)
        (lays-if code n most (nodes_code body) nest shallow (sized-nodes body)
        (lays-nodes body nest shallow sound.1))
    lays-node (if_else unless test body otherwise) nest shallow sound =
        let m = size (nodes_code body) in
        let n = size (nodes_code otherwise) in
        let most = cap (depth_of test) in
        lays-join code (test_code unless test)
        (branch_over (m + 1) ▸ nodes_code body ▸ jump_over n ▸ nodes_code otherwise) nest []
        (slot Kind.Truth most ∷ []) [] (lays-test code nest shallow unless test sound.0.0 sound.0.1)
        (lays-if_else code m n most (nodes_code body) (nodes_code otherwise) nest shallow (sized-nodes body)
        (sized-nodes otherwise) (lays-nodes body nest shallow sound.1) (lays-nodes otherwise nest shallow sound.2))
    lays-node (each over body) nest shallow sound =
        let n = size (nodes_code body) in
        lays-join code (datum_code over) (each_over (n + 1) ▸ nodes_code body ▸ again n) nest []
        (slot Kind.Data (cap 0) ∷ []) [] (lays-datum code nest shallow over [] sound.0 (omega arith))
        (lays-each code n (cap 0) (nodes_code body) nest (omega (arith, sound.1)) (sized-nodes body)
        (λ opener. lays-nodes body (opener ∷ nest) (omega (arith, sound.1)) sound.2))
    lays-node (each_else over body otherwise) nest shallow sound =
        let m = size (nodes_code body) in
        let n = size (nodes_code otherwise) in
        lays-join code (datum_code over)
        (each_over (m + 2) ▸ nodes_code body ▸ again m ▸ jump_over n ▸ nodes_code otherwise) nest []
        (slot Kind.Data (cap 0) ∷ []) [] (lays-datum code nest shallow over [] sound.0 (omega arith))
        (lays-each_else code m n (cap 0) (nodes_code body) (nodes_code otherwise) nest (omega (arith, sound.1))
        (sized-nodes body)
        (sized-nodes otherwise) (λ opener. lays-nodes body (opener ∷ nest) (omega (arith, sound.1)) sound.2)
        (lays-nodes otherwise nest shallow sound.3))

    lays-nodes :
        (nodes : Nodes) (nest : List ℕ)
        → length nest ≤ MAX_LOOPS → SoundNodes (length nest) nodes → Lays code (nodes_code nodes) nest [] []
    lays-nodes no_nodes nest shallow sound = lays-nothing code nest []
    lays-nodes (first_node node nodes) nest shallow sound =
        lays-join code (node_code node) (nodes_code nodes) nest [] [] [] (lays-node node nest shallow sound.0)
        (lays-nodes nodes nest shallow sound.1)

-- ---- the whole code

-- the stretch up to and with `Halt`
laid-whole :
    (nodes : Nodes) → SoundNodes 0 nodes
    → Covers (FollowsAt (stack_code nodes)) 0 (length (stack_code nodes).instrs)
laid-whole nodes sound =
    let code = stack_code nodes in
    let end = after_part start_offsets (nodes_code nodes) in
    let whole = has_code-itself code in
    let halt = (has_part-back code start_offsets (nodes_code nodes) (instructions (Halt ∷ [])) whole).instrs.0 in
    let long : suc end.index ≡ length code.instrs =
    omega (arith, long-stack_code nodes) in
    let start : Stands code 0 [] [] = record { entry = refl; bounds = tt } in
    let body =
    lays-nodes code nodes [] (omega arith) sound start_offsets
    (has_part-front code start_offsets (nodes_code nodes) (instructions (Halt ∷ [])) whole)
    (omega (arith, long)) start in
    let last =
    laid-one code end.index Halt [] [] [] [] halt body.ends
    (record {
      names = refl;
      enough = refl;
      fit = refl;
      room = omega arith;
      empty_rest = refl;
      depth = omega arith;
      closes = refl;
      open_loop = refl;
      well_placed = ap not (eq-eqb (suc end.index) (length code.instrs) long);
    })
    (λ target jump. absurd (none-some target jump)) (λ bounds w. (record { pushed = tt; written = omega arith }, tt))
    refl in
    subst (Covers (FollowsAt code) 0) long
    (covers-join (FollowsAt code) 0 end.index (suc end.index) body.each last.each)

pub stack_code-well_formed :
    (nodes : Nodes) → SoundNodes 0 nodes → length (stack_code nodes).instrs ≤ MAX_INSTRUCTIONS
    → IsWellFormed (stack_code nodes)
stack_code-well_formed nodes sound short =
    let code = stack_code nodes in
    let laid = laid-whole nodes sound in
    formed-from code (omega (arith, long-stack_code nodes)) (omega (arith, short))
    (λ index i there.
    (laid index (omega arith) (slice_get_within code.instrs index i there) i there).alone)
    (λ index target i there jump.
    (laid index (omega arith) (slice_get_within code.instrs index i there) i there).lands target jump)

pub stack_code-within_limits :
    (nodes : Nodes) → SoundNodes 0 nodes → length (stack_code nodes).instrs ≤ MAX_INSTRUCTIONS
    → IsWithinLimits (stack_code nodes)
stack_code-within_limits nodes sound short =
    let code = stack_code nodes in
    let laid = laid-whole nodes sound in
    within-light code heaviest (omega arith) (omega (arith, short))
    (λ index i there.
    (laid index (omega arith) (slice_get_within code.instrs index i there) i there).light)
