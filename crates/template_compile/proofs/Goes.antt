-- What runs make of parts of code, wherever they stand: from one stack to another, writing a text.
use Rattle.std.proofs.Common.{◌≡◌, ℕ, suc, ◌+◌, List, [], ◌∷◌, ◌++◌, Some, refl, sym, ap}
use Rattle.std.proofs.Common.{◌∙◌, Bool, true, false, arith, append-nil, append_assoc}
use Rattle.std.specs.Prelude.{slice_get, option_map, option_and_then, if◌then◌else◌}
use Rattle.data_tree.specs.Tree.{Tree}
use Rattle.data_tree.specs.LookUp.{at}
use Rattle.data_tree.specs.declared.step.Step.{Step}
use Rattle.helper_set.specs.Values.{Value, a_datum, a_text, a_truth}
use Rattle.template_code.specs.Code.{StackCode}
use Rattle.template_code.specs.Instructions.{flow}
use Rattle.template_code.specs.Machine.{Loop, item_of, with_stack, writes, of_loop, effect}
use Rattle.template_code.specs.declared.flow.Flow.{Flow}
use Rattle.template_code.specs.declared.instr.Instr.{Instr}
use Rattle.template_code.specs.declared.instr.Instr.TheVariants.{Emit, Root, Item, Text}
use Rattle.template_code.proofs.FlowFacts.{Comes, state, comes-nowhere, comes-join, comes-to, comes-straight}
use Rattle.template_code.proofs.FlowFacts.{comes-pushing, comes-jumping, comes-branching}
use Rattle.template_compile.specs.Compiled.{Offsets, Gen, ◌▸◌, instructions, emit_code, text_code, root_code}
use Rattle.template_compile.specs.Compiled.{item_code, jump_over, branch_over}
use Rattle.template_compile.proofs.HasCode.{HasPart, after_part, has_part-front, has_part-back, after_part-join}
use Rattle.template_compile.proofs.Lengths.{HasLength}

-- the index after a sequence is that after its second part
pub index-join :
    (f g : Gen) (offsets : Offsets)
    → (after_part offsets (f ▸ g)).index ≡ (after_part (after_part offsets f) g).index
index-join f g offsets = ap (λ (o : Offsets). o.index) (after_part-join offsets f g)

-- wherever code has the part, a run leads from its start to its end, from the one stack to the other, and writes that
-- text
abbrev pub Goes : StackCode → Tree → Gen → List Loop → List Value → List Value → List ℕ → Type 0
Goes code root f loops before after written =
    (offsets : Offsets) (output : List ℕ) → HasPart code offsets f →
    Comes code root (state offsets.index before loops output)
    (state (after_part offsets f).index after loops (output ++ written))

module _ (code : StackCode) (root_data : Tree) (loops : List Loop) where
  pub goes-nothing : (stack : List Value) → Goes code root_data (instructions []) loops stack stack []
  goes-nothing stack offsets output h =
      comes-to code root_data (state offsets.index stack loops output) offsets.index
      (offsets.index + 0) stack loops output
      (output ++ []) (omega arith) (sym (append-nil output))
      (comes-nowhere code root_data (state offsets.index stack loops output))

  pub goes-join :
      (f g : Gen) (before between after : List Value) (written more : List ℕ)
      → Goes code root_data f loops before between written → Goes code root_data g loops between after more
      → Goes code root_data (f ▸ g) loops before after (written ++ more)
  goes-join f g before between after written more h k offsets output has =
      let middle = after_part offsets f in
      let end = after_part middle g in
      let start = state offsets.index before loops output in
      comes-to code root_data start end.index (after_part offsets (f ▸ g)).index after loops
      ((output ++ written) ++ more) (output ++ (written ++ more)) (sym (index-join f g offsets))
      (append_assoc output written more)
      (comes-join code root_data start (state middle.index between loops (output ++ written))
      (state end.index after loops ((output ++ written) ++ more))
      (h offsets output (has_part-front code offsets f g has))
      (k middle (output ++ written) (has_part-back code offsets f g has)))

  -- the second part of those that write nothing before
  pub goes-then :
      (f g : Gen) (before between after : List Value) (written : List ℕ)
      → Goes code root_data f loops before between [] → Goes code root_data g loops between after written
      → Goes code root_data (f ▸ g) loops before after written
  goes-then f g before between after written h k = goes-join f g before between after [] written h k

  -- one instruction that writes nothing
  pub goes-instr :
      (i : Instr) (stack after : List Value)
      → flow i ≡ Flow.Straight → effect code root_data i loops stack ≡ Some (with_stack after)
      → Goes code root_data (instructions (i ∷ [])) loops stack after []
  goes-instr i stack after straight does offsets output has =
      comes-to code root_data (state offsets.index stack loops output) (suc offsets.index)
      (offsets.index + 1) after loops
      output (output ++ []) (omega arith) (sym (append-nil output))
      (comes-pushing code root_data i offsets.index stack after loops output has.instrs.0 straight does)

  pub goes-emit : (bytes : List ℕ) (stack : List Value)
      → Goes code root_data (emit_code bytes) loops stack stack bytes
  goes-emit bytes stack offsets output has =
      comes-to code root_data (state offsets.index stack loops output) (suc offsets.index)
      (offsets.index + 1) stack loops
      (output ++ bytes) (output ++ bytes) (omega arith) refl
      (comes-straight code root_data (Emit offsets.texts) offsets.index stack loops output (writes bytes stack)
      has.instrs.0 refl (ap (option_map (λ b. writes b stack)) has.texts.0))

  pub goes-text :
      (bytes : List ℕ) (stack : List Value) → Goes code root_data (text_code bytes) loops stack
      (a_text bytes ∷ stack) []
  goes-text bytes stack offsets output has =
      goes-instr (Text offsets.texts) stack (a_text bytes ∷ stack) refl
      (ap (option_map (λ b. with_stack (a_text b ∷ stack))) has.texts.0) offsets output
      (record { instrs = has.instrs; texts = tt; paths = tt })

  pub goes-root :
      (path : List Step) (stack : List Value)
      → Goes code root_data (root_code path) loops stack (a_datum (at path root_data) ∷ stack) []
  goes-root path stack offsets output has =
      goes-instr (Root offsets.paths) stack (a_datum (at path root_data) ∷ stack) refl
      (ap (option_map (λ p. with_stack (a_datum (at p root_data) ∷ stack))) has.paths.0) offsets output
      (record { instrs = has.instrs; texts = tt; paths = tt })

  pub goes-item :
      (up : ℕ) (path : List Step) (stack : List Value) (found : Tree) (l : Loop) → slice_get loops up ≡ Some l
      → item_of l ≡ found
      → Goes code root_data (item_code up path) loops stack (a_datum (at path found) ∷ stack) []
  goes-item up path stack found l here is offsets output has =
      goes-instr (Item up offsets.paths) stack (a_datum (at path found) ∷ stack) refl
      (ap (option_and_then (λ p. of_loop (λ m. a_datum (at p (item_of m))) up loops stack)) has.paths.0
      ∙ (ap (option_map (λ m. with_stack (a_datum (at path (item_of m)) ∷ stack))) here
      ∙ ap (λ t. Some (with_stack (a_datum (at path t) ∷ stack))) is)) offsets output
      (record { instrs = has.instrs; texts = tt; paths = tt })

  -- ---- blocks

  -- where a truth holds, a branch goes on
  goes-on : (n : ℕ) (stack : List Value)
      → Goes code root_data (branch_over n) loops (a_truth true ∷ stack) stack []
  goes-on n stack offsets output has =
      comes-to code root_data (state offsets.index (a_truth true ∷ stack) loops output) (suc offsets.index)
      (offsets.index + 1) stack loops output (output ++ []) (omega arith) (sym (append-nil output))
      (comes-branching code root_data true (offsets.index + 1 + n) offsets.index stack loops output has.instrs.0)

  -- a part that is passed where a truth doesn't hold
  pub goes-if :
      (b : Bool) (n : ℕ) (f : Gen) (stack : List Value) (written : List ℕ)
      → HasLength f n → Goes code root_data f loops stack stack written
      → Goes code root_data (branch_over n ▸ f) loops (a_truth b ∷ stack) stack (if b then written else [])
  goes-if true n f stack written long h offsets output has =
      goes-then (branch_over n) f (a_truth true ∷ stack) stack stack written (goes-on n stack) h offsets output has
  goes-if false n f stack written long h offsets output has =
      let next = after_part offsets (branch_over n) in
      comes-to code root_data (state offsets.index (a_truth false ∷ stack) loops output) (offsets.index + 1 + n)
      (after_part offsets (branch_over n ▸ f)).index stack loops output (output ++ [])
      (omega (arith, index-join (branch_over n) f offsets, long next)) (sym (append-nil output))
      (comes-branching code root_data false (offsets.index + 1 + n) offsets.index stack loops output has.instrs.0)

  pub goes-jump :
      (n : ℕ) (g : Gen) (stack : List Value) → HasLength g n
      → Goes code root_data (jump_over n ▸ g) loops stack stack []
  goes-jump n g stack long offsets output has =
      let next = after_part offsets (jump_over n) in
      comes-to code root_data (state offsets.index stack loops output) (offsets.index + 1 + n)
      (after_part offsets (jump_over n ▸ g)).index stack loops output (output ++ [])
      (omega (arith, index-join (jump_over n) g offsets, long next)) (sym (append-nil output))
      (comes-jumping code root_data (offsets.index + 1 + n) offsets.index stack loops output has.instrs.0)

  -- one part where a truth holds, else another
  pub goes-if_else :
      (b : Bool) (m n : ℕ) (f g : Gen) (stack : List Value) (written otherwise : List ℕ)
      → HasLength f m → HasLength g n → Goes code root_data f loops stack stack written
      → Goes code root_data g loops stack stack otherwise
      → Goes code root_data (branch_over (m + 1) ▸ f ▸ jump_over n ▸ g) loops (a_truth b ∷ stack) stack
      (if b then written else otherwise)
  goes-if_else true m n f g stack written otherwise long also h k offsets output has =
      comes-to code root_data (state offsets.index (a_truth true ∷ stack) loops output)
      (after_part offsets (branch_over (m + 1) ▸ f ▸ jump_over n ▸ g)).index
      (after_part offsets (branch_over (m + 1) ▸ f ▸ jump_over n ▸ g)).index stack loops
      (output ++ (written ++ [])) (output ++ written) refl (ap (λ o. output ++ o) (append-nil written))
      (goes-then (branch_over (m + 1)) (f ▸ jump_over n ▸ g) (a_truth true ∷ stack) stack stack (written ++ [])
      (goes-on (m + 1) stack)
      (goes-join f (jump_over n ▸ g) stack stack stack written [] h (goes-jump n g stack also)) offsets output has)
  goes-if_else false m n f g stack written otherwise long also h k offsets output has =
      let whole = branch_over (m + 1) ▸ f ▸ jump_over n ▸ g in
      let next = after_part offsets (branch_over (m + 1)) in
      let then_end = after_part next f in
      let else_start = after_part then_end (jump_over n) in
      let else_end = after_part else_start g in
      let rest = has_part-back code offsets (branch_over (m + 1)) (f ▸ jump_over n ▸ g) has in
      let after_then = has_part-back code next f (jump_over n ▸ g) rest in
      let at_else = has_part-back code then_end (jump_over n) g after_then in
      let e : offsets.index + 1 + (m + 1) ≡ else_start.index = omega (arith, long next) in
      let end : else_end.index ≡ (after_part offsets whole).index =
      omega (
        arith,
        index-join (branch_over (m + 1)) (f ▸ jump_over n ▸ g) offsets,
        index-join f (jump_over n ▸ g) next,
        index-join (jump_over n) g then_end,
      ) in
      let start = state offsets.index (a_truth false ∷ stack) loops output in
      comes-to code root_data start else_end.index (after_part offsets whole).index stack loops
      (output ++ otherwise) (output ++ otherwise) end refl
      (comes-join code root_data start (state else_start.index stack loops output)
      (state else_end.index stack loops (output ++ otherwise))
      (comes-to code root_data start (offsets.index + 1 + (m + 1)) else_start.index stack loops output output e refl
      (comes-branching code root_data false (offsets.index + 1 + (m + 1)) offsets.index stack loops output
      has.instrs.0))
      (k else_start output at_else))
