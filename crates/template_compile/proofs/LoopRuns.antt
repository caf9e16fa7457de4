-- What runs make of loops, wherever they stand.
use Rattle.std.proofs.Common.{◌≡◌, ℕ, suc, ◌+◌, ◌-◌, ◌<◌, List, [], ◌∷◌, ◌++◌, length}
use Rattle.std.proofs.Common.{Some, refl, sym, ap, ◌∙◌, arith, subst, append-nil}
use Rattle.std.specs.List.{flat_map}
use Rattle.std.specs.Prelude.{slice_get}
use Rattle.data_tree.specs.Tree.{Tree}
use Rattle.data_tree.specs.Parts.{items}
use Rattle.helper_set.specs.Values.{Value, a_datum}
use Rattle.template_code.specs.Code.{StackCode}
use Rattle.template_code.specs.Machine.{Loop, State}
use Rattle.template_code.specs.declared.instr.Instr.TheVariants.{Each, Next}
use Rattle.template_code.proofs.FlowFacts.{Comes, state, at_turn, comes-join, comes-to}
use Rattle.template_code.proofs.TurnFacts.{HasLoop, TurnWrites, comes-through, comes-past}
use Rattle.template_compile.specs.Compiled.{Offsets, Gen, ◌▸◌, jump_over, each_over, again}
use Rattle.template_compile.proofs.Goes.{Goes, index-join, goes-jump}
use Rattle.template_compile.proofs.HasCode.{HasPart, after_part, has_part-front, has_part-back}
use Rattle.template_compile.proofs.Lengths.{HasLength}

-- the first text where there is a turn, and else the other
abbrev pub texts_or : {A : Type 0} → List A → List ℕ → List ℕ → List ℕ
texts_or [] texts otherwise = otherwise
texts_or (turn ∷ turns) texts otherwise = texts

module _ (code : StackCode) (root : Tree) (loops : List Loop) where
  -- the same state, by another name of its index
  comes-from :
      (index index' : ℕ) (stack : List Value) (ls : List Loop) (output : List ℕ) (t : State) → index ≡ index'
      → Comes code root (state index stack ls output) t → Comes code root (state index' stack ls output) t
  comes-from index index' stack ls output t e h = subst (λ n. Comes code root (state n stack ls output) t) e h

  next-is : (index index' start start' : ℕ) → index ≡ index' → start ≡ start'
      → slice_get code.instrs index ≡ Some (Next start) → slice_get code.instrs index' ≡ Some (Next start')
  next-is index index' start start' e f h =
      subst (λ n. slice_get code.instrs n ≡ Some (Next start')) e (h ∙ ap (λ n. Some (Next n)) f)

  -- a loop over a value, with a turn for each item, whose body writes in each turn that turn's text
  pub record Turning (A : Type 0) (body : Gen) (size : ℕ) (stack : List Value) (over : Tree) : Type 0 where
    pub turns : List A
    pub text : A → List ℕ
    pub long : HasLength body size
    pub counted : length turns ≡ length (items over)
    pub each_turn :
        (k : ℕ) (turn : A) → slice_get turns k ≡ Some turn →
        Goes code root body (at_turn over k ∷ loops) stack stack (text turn)

  module _ {A : Type 0} (body : Gen) (size : ℕ) (stack : List Value) (over : Tree)
      (turning : Turning A body size stack over)
      (index target : ℕ) (start : Offsets) (after_each : start.index ≡ suc index)
      (opens : slice_get code.instrs index ≡ Some (Each target)) (has : HasPart code start body)
      (closes : slice_get code.instrs (after_part start body).index
      ≡ Some (Next ((after_part start body).index - size))) where
    ends-at : (after_part start body).index ≡ suc index + size
    ends-at = omega (arith, after_each, turning.long start)

    has-loop : HasLoop code index size target
    has-loop = record {
      opens = opens;
      closes =
          next-is (after_part start body).index (suc index + size)
          ((after_part start body).index - size) (suc index) ends-at (omega (arith, ends-at)) closes;
    }

    turn-writes : (k : ℕ) (turn : A) → slice_get turning.turns k ≡ Some turn →
        TurnWrites code root index size stack loops over k (turning.text turn)
    turn-writes k turn there output =
        let inside = at_turn over k ∷ loops in
        let written = output ++ turning.text turn in
        comes-to code root (state (suc index) stack inside output) (after_part start body).index
        (suc index + size) stack inside written written ends-at refl
        (comes-from start.index (suc index) stack inside output
        (state (after_part start body).index stack inside written) after_each
        (turning.each_turn k turn there start output has))

    loops-through : (output : List ℕ) → 0 < length turning.turns →
        Comes code root (state index (a_datum over ∷ stack) loops output)
        (state (suc (suc index + size)) stack loops (output ++ flat_map turning.text turning.turns))
    loops-through output some =
        comes-through code root index size target has-loop stack loops over turning.text turning.turns output
        turning.counted some turn-writes

    loops-past : (output : List ℕ) → length turning.turns ≡ 0 →
        Comes code root (state index (a_datum over ∷ stack) loops output) (state target stack loops output)
    loops-past output none =
        comes-past code root index size target has-loop stack loops over turning.text turning.turns output
        turning.counted none

  module _ {A : Type 0} (body : Gen) (size : ℕ) (stack : List Value) (over : Tree)
      (turning : Turning A body size stack over) where
    abbrev loop_code : Gen
    loop_code = each_over (size + 1) ▸ body ▸ again size

    each-end : (offsets : Offsets) → suc (suc offsets.index + size) ≡ (after_part offsets loop_code).index
    each-end offsets =
        let start = after_part offsets (each_over (size + 1)) in
        omega (
          arith,
          turning.long start,
          index-join (each_over (size + 1)) (body ▸ again size) offsets,
          index-join body (again size) start,
        )

    -- the texts of the turns are written, in order
    pub goes-each :
        Goes code root loop_code loops (a_datum over ∷ stack) stack (flat_map turning.text turning.turns)
    goes-each offsets output has =
        let start = after_part offsets (each_over (size + 1)) in
        let inner = has_part-back code offsets (each_over (size + 1)) (body ▸ again size) has in
        let closes = (has_part-back code start body (again size) inner).instrs.0 in
        let has_body = has_part-front code start body (again size) inner in
        let after_each : start.index ≡ suc offsets.index = omega arith in
        let target = offsets.index + 1 + (size + 1) in
        let first = state offsets.index (a_datum over ∷ stack) loops output in
        let end = (after_part offsets loop_code).index in
        let e = each-end offsets in
        by turning.turns
        (λ none.
        comes-to code root first target end stack loops output (output ++ []) (omega (arith, e))
        (sym (append-nil output))
        (loops-past body size stack over turning offsets.index target start after_each has.instrs.0 has_body closes
        output none))
        (λ some.
        comes-to code root first (suc (suc offsets.index + size)) end stack loops
        (output ++ flat_map turning.text turning.turns) (output ++ flat_map turning.text turning.turns) e refl
        (loops-through body size stack over turning offsets.index target start after_each has.instrs.0 has_body closes
        output some))
      where
        by : (turns : List A) →
            (length turns ≡ 0 → Comes code root (state offsets.index (a_datum over ∷ stack) loops output)
            (state (after_part offsets loop_code).index stack loops (output ++ []))) →
            (0 < length turns → Comes code root (state offsets.index (a_datum over ∷ stack) loops output)
            (state (after_part offsets loop_code).index stack loops
            (output ++ flat_map turning.text turns))) →
            Comes code root (state offsets.index (a_datum over ∷ stack) loops output)
            (state (after_part offsets loop_code).index stack loops
            (output ++ flat_map turning.text turns))
        by [] none some = none refl
        by (turn ∷ turns) none some = some (omega arith)

    -- or another part's, where there is no turn
    module _ (n : ℕ) (other : Gen) (otherwise : List ℕ) (other_long : HasLength other n)
        (goes-other : Goes code root other loops stack stack otherwise) where
      abbrev rest_code : Gen
      rest_code = jump_over n ▸ other

      abbrev either_code : Gen
      either_code = each_over (size + 2) ▸ body ▸ again size ▸ rest_code

      pub goes-each_else :
          Goes code root either_code loops (a_datum over ∷ stack) stack
          (texts_or turning.turns (flat_map turning.text turning.turns) otherwise)
      goes-each_else offsets output has =
          let start = after_part offsets (each_over (size + 2)) in
          let close = after_part start body in
          let jump = after_part close (again size) in
          let else_start = after_part jump (jump_over n) in
          let else_end = after_part else_start other in
          let inner = has_part-back code offsets (each_over (size + 2)) (body ▸ again size ▸ rest_code) has in
          let closing = has_part-back code start body (again size ▸ rest_code) inner in
          let has_rest = has_part-back code close (again size) rest_code closing in
          let has_other = has_part-back code jump (jump_over n) other has_rest in
          let has_body = has_part-front code start body (again size ▸ rest_code) inner in
          let after_each : start.index ≡ suc offsets.index = omega arith in
          let target = offsets.index + 1 + (size + 2) in
          let first = state offsets.index (a_datum over ∷ stack) loops output in
          let end = (after_part offsets either_code).index in
          let long = turning.long start in
          let to_jump : suc (suc offsets.index + size) ≡ jump.index = omega (arith, long) in
          let to_else : target ≡ else_start.index = omega (arith, long) in
          let from_jump : (after_part jump rest_code).index ≡ end =
          omega (
            arith,
            index-join (each_over (size + 2)) (body ▸ again size ▸ rest_code) offsets,
            index-join body (again size ▸ rest_code) start,
            index-join (again size) rest_code close,
          ) in
          let from_else : else_end.index ≡ end = omega (arith, from_jump, index-join (jump_over n) other jump) in
          let joined = flat_map turning.text turning.turns in
          by turning.turns
          (λ none.
          comes-to code root first else_end.index end stack loops (output ++ otherwise) (output ++ otherwise) from_else
          refl
          (comes-join code root first (state else_start.index stack loops output)
          (state else_end.index stack loops (output ++ otherwise))
          (comes-to code root first target else_start.index stack loops output output to_else refl
          (loops-past body size stack over turning offsets.index target start after_each has.instrs.0 has_body
          closing.instrs.0 output none))
          (goes-other else_start output has_other)))
          (λ some.
          comes-to code root first (after_part jump rest_code).index end stack loops
          ((output ++ joined) ++ []) (output ++ joined) from_jump (append-nil (output ++ joined))
          (comes-join code root first (state jump.index stack loops (output ++ joined))
          (state (after_part jump rest_code).index stack loops ((output ++ joined) ++ []))
          (comes-to code root first (suc (suc offsets.index + size)) jump.index stack loops (output ++ joined)
          (output ++ joined) to_jump refl
          (loops-through body size stack over turning offsets.index target start after_each has.instrs.0 has_body
          closing.instrs.0 output some))
          (goes-jump code root loops n other stack other_long jump (output ++ joined) has_rest)))
        where
          by : (turns : List A) →
              (length turns ≡ 0 → Comes code root (state offsets.index (a_datum over ∷ stack) loops output)
              (state (after_part offsets either_code).index stack loops (output ++ otherwise))) →
              (0 < length turns → Comes code root (state offsets.index (a_datum over ∷ stack) loops output)
              (state (after_part offsets either_code).index stack loops
              (output ++ flat_map turning.text turns))) →
              Comes code root (state offsets.index (a_datum over ∷ stack) loops output)
              (state (after_part offsets either_code).index stack loops
              (output ++ texts_or turns (flat_map turning.text turns) otherwise))
          by [] none some = none refl
          by (turn ∷ turns) none some = some (omega arith)
