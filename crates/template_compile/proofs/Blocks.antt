-- Blocks keep the rules: their jumps go to later instructions in the same loops, where there is no slot.
use Rattle.std.proofs.Common.{◌≡◌, ℕ, suc, ◌+◌, ◌-◌, ◌<◌, ◌≤◌, List, [], ◌∷◌, length}
use Rattle.std.proofs.Common.{Some, refl, sym, ap, ◌∙◌, false, nat_eq, subst, arith}
use Rattle.std.specs.Prelude.{not, slice_get}
use Rattle.std.proofs.lemmas.Bool.{lt-ltb, ne_eqb, eq-eqb}
use Rattle.std.proofs.lemmas.Option.{none-some, same_Some}
use Rattle.helper_set.specs.declared.kind.Kind.{Kind}
use Rattle.template_code.specs.Code.{StackCode}
use Rattle.template_code.specs.declared.instr.Instr.TheVariants.{Jump, Branch, Each, Next}
use Rattle.template_code.specs.declared.limits.TheConstants.{MAX_LOOPS}
use Rattle.code_rules.specs.Bounds.{Bound}
use Rattle.code_rules.specs.Costs.{bounds_after}
use Rattle.code_rules.specs.Table.{TableEntry}
use Rattle.code_rules.proofs.LandingFacts.{Lands}
use Rattle.code_rules.proofs.LightFacts.{IsLight}
use Rattle.template_compile.specs.Compiled.{Offsets, Gen, ◌▸◌, jump_over, branch_over, each_over, again}
use Rattle.template_compile.proofs.Goes.{index-join}
use Rattle.template_compile.proofs.HasCode.{HasPart, after_part, has_part-front, has_part-back}
use Rattle.template_compile.proofs.Lengths.{HasLength}
use Rattle.template_compile.proofs.Stretch.{Slot, slot, Weigh, Stands, heaviest, LaidTo, Lays, laid-to, laid-join}
use Rattle.template_compile.proofs.Stretch.{stands-at, stands-one, laid-one}

module _ (code : StackCode) where
  -- a jump between two such indices lands
  lands :
      (index target : ℕ) (nest : List ℕ) (slots : List Slot)
      → index < target → target < length code.instrs → Stands code index nest slots → Stands code target nest []
      → Lands code index target
  lands index target nest slots later inside here there = record {
    later = later;
    inside = inside;
    nest = ap (λ (e : TableEntry). e.nest) there.entry ∙ sym (ap (λ (e : TableEntry). e.nest) here.entry);
    kinds = ap (λ (e : TableEntry). e.kinds) there.entry;
  }

  -- the one target of a jump
  only :
      (index target : ℕ) → Lands code index target
      → (t : ℕ) → Some target ≡ Some t → Lands code index t
  only index target h t e = subst (Lands code index) (same_Some target t e) h

  not-last : (index : ℕ) → suc index < length code.instrs → nat_eq (suc index) (length code.instrs) ≡ false
  not-last index lt = ne_eqb (suc index) (length code.instrs) (λ e. omega (arith, e, lt))

  jump-light :
      (target : ℕ) (bounds : List Bound) → Weigh [] bounds
      → IsLight code heaviest (Jump target) bounds × Weigh [] (bounds_after code (Jump target) bounds)
  jump-light target bounds w = (record { pushed = tt; written = omega arith }, tt)

  branch-light :
      (target most : ℕ) (bounds : List Bound) → Weigh (slot Kind.Truth most ∷ []) bounds
      → IsLight code heaviest (Branch target) bounds × Weigh [] (bounds_after code (Branch target) bounds)
  branch-light target most [] w = absurd w
  branch-light target most (b ∷ []) w = (record { pushed = tt; written = omega arith }, tt)
  branch-light target most (b ∷ c ∷ bounds) w = absurd w.1

  each-light :
      (target most : ℕ) (bounds : List Bound) → Weigh (slot Kind.Data most ∷ []) bounds
      → IsLight code heaviest (Each target) bounds × Weigh [] (bounds_after code (Each target) bounds)
  each-light target most [] w = absurd w
  each-light target most (b ∷ []) w = (record { pushed = tt; written = omega arith }, tt)
  each-light target most (b ∷ c ∷ bounds) w = absurd w.1

  next-light :
      (start : ℕ) (bounds : List Bound) → Weigh [] bounds
      → IsLight code heaviest (Next start) bounds × Weigh [] (bounds_after code (Next start) bounds)
  next-light start [] w = (record { pushed = tt; written = omega arith }, tt)
  next-light start (b ∷ bounds) w = absurd w

  laid-jump :
      (index target : ℕ) (nest : List ℕ)
      → length nest ≤ MAX_LOOPS → suc index < length code.instrs
      → slice_get code.instrs index ≡ Some (Jump target)
      → Stands code index nest [] → Lands code index target → LaidTo code index (suc index) nest []
  laid-jump index target nest shallow lt h s l =
      laid-one code index (Jump target) nest nest [] [] h s
      (record {
        names = refl;
        enough = refl;
        fit = refl;
        room = omega arith;
        empty_rest = refl;
        depth = shallow;
        closes = refl;
        open_loop = refl;
        well_placed = not-last index lt;
      })
      (only index target l) (jump-light target) refl

  laid-branch :
      (index target most : ℕ) (nest : List ℕ)
      → length nest ≤ MAX_LOOPS → suc index < length code.instrs
      → slice_get code.instrs index ≡ Some (Branch target)
      → Stands code index nest (slot Kind.Truth most ∷ []) → Lands code index target
      → LaidTo code index (suc index) nest []
  laid-branch index target most nest shallow lt h s l =
      laid-one code index (Branch target) nest nest (slot Kind.Truth most ∷ []) [] h s
      (record {
        names = refl;
        enough = refl;
        fit = refl;
        room = omega arith;
        empty_rest = refl;
        depth = shallow;
        closes = refl;
        open_loop = refl;
        well_placed = not-last index lt;
      })
      (only index target l) (branch-light target most) refl

  laid-each :
      (index target most : ℕ) (nest : List ℕ)
      → suc (length nest) ≤ MAX_LOOPS → suc index < length code.instrs
      → slice_get code.instrs index ≡ Some (Each target)
      → Stands code index nest (slot Kind.Data most ∷ []) → Lands code index target
      → LaidTo code index (suc index) (index ∷ nest) []
  laid-each index target most nest shallow lt h s l =
      laid-one code index (Each target) nest (index ∷ nest) (slot Kind.Data most ∷ []) [] h s
      (record {
        names = refl;
        enough = refl;
        fit = refl;
        room = omega arith;
        empty_rest = refl;
        depth = omega (arith, shallow);
        closes = refl;
        open_loop = refl;
        well_placed = not-last index lt;
      })
      (only index target l) (each-light target most) refl

  laid-next :
      (index start opener : ℕ) (nest : List ℕ)
      → suc (length nest) ≤ MAX_LOOPS → suc index < length code.instrs
      → slice_get code.instrs index ≡ Some (Next start) → start ≡ suc opener
      → Stands code index (opener ∷ nest) [] → LaidTo code index (suc index) nest []
  laid-next index start opener nest shallow lt h e s =
      laid-one code index (Next start) (opener ∷ nest) nest [] [] h s
      (record {
        names = refl;
        enough = refl;
        fit = refl;
        room = omega arith;
        empty_rest = refl;
        depth = omega (arith, shallow);
        closes = ap not (eq-eqb start (suc opener) e);
        open_loop = ap not (lt-ltb 0 (suc (length nest)) (omega arith));
        well_placed = not-last index lt;
      })
      (λ target jump. absurd (none-some target jump)) (next-light start) refl

  -- ---- blocks

  -- a part that is passed where a truth doesn't hold
  pub lays-if :
      (n most : ℕ) (f : Gen) (nest : List ℕ)
      → length nest ≤ MAX_LOOPS → HasLength f n → Lays code f nest [] []
      → Lays code (branch_over n ▸ f) nest (slot Kind.Truth most ∷ []) []
  lays-if n most f nest shallow long h offsets has lt s =
      let index = offsets.index in
      let start = after_part offsets (branch_over n) in
      let end = after_part start f in
      let target = index + 1 + n in
      let branch = has.instrs.0 in
      let e = index-join (branch_over n) f offsets in
      let at_start : suc index ≡ start.index = omega arith in
      let at_end : end.index ≡ target = omega (arith, long start) in
      let inside : end.index < length code.instrs = omega (arith, e, lt) in
      let after_branch =
      stands-one code index (Branch target) nest nest (slot Kind.Truth most ∷ []) [] branch s
      (branch-light target most) refl in
      let part =
      h start (has_part-back code offsets (branch_over n) f has) inside
      (stands-at code (suc index) start.index nest [] at_start after_branch) in
      let landing =
      lands index target nest (slot Kind.Truth most ∷ []) (omega arith) (omega (arith, at_end, inside)) s
      (stands-at code end.index target nest [] at_end part.ends) in
      laid-to code index end.index (after_part offsets (branch_over n ▸ f)).index nest [] (sym e)
      (laid-join code index start.index end.index nest nest [] []
      (laid-to code index (suc index) start.index nest [] at_start
      (laid-branch index target most nest shallow (omega (arith, inside)) branch s landing))
      part)

  -- a part that is jumped over, from nothing before it
  laid-rest :
      (n : ℕ) (g : Gen) (nest : List ℕ) (offsets : Offsets)
      → length nest ≤ MAX_LOOPS → HasLength g n → Lays code g nest [] []
      → HasPart code offsets (jump_over n ▸ g)
      → (after_part offsets (jump_over n ▸ g)).index < length code.instrs → Stands code offsets.index nest []
      → LaidTo code offsets.index (after_part offsets (jump_over n ▸ g)).index nest []
      × Stands code (after_part offsets (jump_over n)).index nest []
  laid-rest n g nest offsets shallow long h has lt s =
      let index = offsets.index in
      let start = after_part offsets (jump_over n) in
      let end = after_part start g in
      let target = index + 1 + n in
      let jump = has.instrs.0 in
      let e = index-join (jump_over n) g offsets in
      let at_start : suc index ≡ start.index = omega arith in
      let at_end : end.index ≡ target = omega (arith, long start) in
      let inside : end.index < length code.instrs = omega (arith, e, lt) in
      let after_jump =
      stands-at code (suc index) start.index nest [] at_start
      (stands-one code index (Jump target) nest nest [] [] jump s (jump-light target) refl) in
      let part = h start (has_part-back code offsets (jump_over n) g has) inside after_jump in
      let landing =
      lands index target nest [] (omega arith) (omega (arith, at_end, inside)) s
      (stands-at code end.index target nest [] at_end part.ends) in (
        laid-to code index end.index (after_part offsets (jump_over n ▸ g)).index nest [] (sym e)
            (laid-join code index start.index end.index nest nest [] []
            (laid-to code index (suc index) start.index nest [] at_start
            (laid-jump index target nest shallow (omega (arith, inside)) jump s landing))
            part),
        after_jump,
      )

  -- one part where a truth holds, else another
  pub lays-if_else :
      (m n most : ℕ) (f g : Gen) (nest : List ℕ)
      → length nest ≤ MAX_LOOPS → HasLength f m → HasLength g n → Lays code f nest [] []
      → Lays code g nest [] []
      → Lays code (branch_over (m + 1) ▸ f ▸ jump_over n ▸ g) nest (slot Kind.Truth most ∷ []) []
  lays-if_else m n most f g nest shallow long also h k offsets has lt s =
      let rest = jump_over n ▸ g in
      let index = offsets.index in
      let start = after_part offsets (branch_over (m + 1)) in
      let middle = after_part start f in
      let else_start = after_part middle (jump_over n) in
      let end = after_part middle rest in
      let target = index + 1 + (m + 1) in
      let branch = has.instrs.0 in
      let e = index-join (branch_over (m + 1)) (f ▸ rest) offsets in
      let e' = index-join f rest start in
      let to_end : end.index ≡ (after_part offsets (branch_over (m + 1) ▸ f ▸ rest)).index =
      omega (arith, e, e') in
      let at_start : suc index ≡ start.index = omega arith in
      let at_else : else_start.index ≡ target = omega (arith, long start) in
      let inside : end.index < length code.instrs = omega (arith, to_end, lt) in
      let else_inside : else_start.index < length code.instrs =
      omega (arith, inside, index-join (jump_over n) g middle) in
      let has_both = has_part-back code offsets (branch_over (m + 1)) (f ▸ rest) has in
      let after_branch =
      stands-at code (suc index) start.index nest [] at_start
      (stands-one code index (Branch target) nest nest (slot Kind.Truth most ∷ []) [] branch s
      (branch-light target most) refl) in
      let part =
      h start (has_part-front code start f rest has_both) (omega (arith, else_inside)) after_branch in
      let others =
      laid-rest n g nest middle shallow also k (has_part-back code start f rest has_both) inside part.ends in
      let landing =
      lands index target nest (slot Kind.Truth most ∷ []) (omega arith) (omega (arith, at_else, else_inside)) s
      (stands-at code else_start.index target nest [] at_else others.1) in
      laid-to code index end.index (after_part offsets (branch_over (m + 1) ▸ f ▸ rest)).index nest [] to_end
      (laid-join code index start.index end.index nest nest [] []
      (laid-to code index (suc index) start.index nest [] at_start
      (laid-branch index target most nest shallow (omega (arith, else_inside)) branch s landing))
      (laid-join code start.index middle.index end.index nest nest [] [] part others.0))

  -- a loop
  pub lays-each :
      (n most : ℕ) (body : Gen) (nest : List ℕ)
      → suc (length nest) ≤ MAX_LOOPS → HasLength body n
      → ((opener : ℕ) → Lays code body (opener ∷ nest) [] [])
      → Lays code (each_over (n + 1) ▸ body ▸ again n) nest (slot Kind.Data most ∷ []) []
  lays-each n most body nest shallow long h offsets has lt s =
      let index = offsets.index in
      let start = after_part offsets (each_over (n + 1)) in
      let middle = after_part start body in
      let end = after_part middle (again n) in
      let target = index + 1 + (n + 1) in
      let opens = has.instrs.0 in
      let whole = each_over (n + 1) ▸ body ▸ again n in
      let e = index-join (each_over (n + 1)) (body ▸ again n) offsets in
      let e' = index-join body (again n) start in
      let to_end : end.index ≡ (after_part offsets whole).index = omega (arith, e, e') in
      let at_start : suc index ≡ start.index = omega arith in
      let at_end : suc middle.index ≡ end.index = omega arith in
      let at_target : end.index ≡ target = omega (arith, long start) in
      let inside : end.index < length code.instrs = omega (arith, to_end, lt) in
      let has_both = has_part-back code offsets (each_over (n + 1)) (body ▸ again n) has in
      let has_next = has_part-back code start body (again n) has_both in
      let after_each =
      stands-at code (suc index) start.index (index ∷ nest) [] at_start
      (stands-one code index (Each target) nest (index ∷ nest) (slot Kind.Data most ∷ []) [] opens s
      (each-light target most) refl) in
      let turn =
      h index start (has_part-front code start body (again n) has_both) (omega (arith, inside)) after_each in
      let closes =
      laid-next middle.index (middle.index - n) index nest shallow (omega (arith, inside)) has_next.instrs.0
      (omega (arith, long start)) turn.ends in
      let after_next = stands-at code (suc middle.index) end.index nest [] at_end closes.ends in
      let landing =
      lands index target nest (slot Kind.Data most ∷ []) (omega arith) (omega (arith, at_target, inside)) s
      (stands-at code end.index target nest [] at_target after_next) in
      laid-to code index end.index (after_part offsets whole).index nest [] to_end
      (laid-join code index start.index end.index (index ∷ nest) nest [] []
      (laid-to code index (suc index) start.index (index ∷ nest) [] at_start
      (laid-each index target most nest shallow (omega (arith, inside)) opens s landing))
      (laid-join code start.index middle.index end.index (index ∷ nest) nest [] [] turn
      (laid-to code middle.index (suc middle.index) end.index nest [] at_end closes)))

  -- a loop, or another part where there is no turn
  pub lays-each_else :
      (m n most : ℕ) (body g : Gen) (nest : List ℕ)
      → suc (length nest) ≤ MAX_LOOPS → HasLength body m → HasLength g n
      → ((opener : ℕ) → Lays code body (opener ∷ nest) [] []) → Lays code g nest [] []
      → Lays code (each_over (m + 2) ▸ body ▸ again m ▸ jump_over n ▸ g) nest (slot Kind.Data most ∷ []) []
  lays-each_else m n most body g nest shallow long also h k offsets has lt s =
      let rest = jump_over n ▸ g in
      let index = offsets.index in
      let start = after_part offsets (each_over (m + 2)) in
      let middle = after_part start body in
      let jump = after_part middle (again m) in
      let else_start = after_part jump (jump_over n) in
      let end = after_part jump rest in
      let target = index + 1 + (m + 2) in
      let opens = has.instrs.0 in
      let whole = each_over (m + 2) ▸ body ▸ again m ▸ rest in
      let e = index-join (each_over (m + 2)) (body ▸ again m ▸ rest) offsets in
      let e' = index-join body (again m ▸ rest) start in
      let e'' = index-join (again m) rest middle in
      let to_end : end.index ≡ (after_part offsets whole).index = omega (arith, e, e', e'') in
      let at_start : suc index ≡ start.index = omega arith in
      let at_jump : suc middle.index ≡ jump.index = omega arith in
      let at_else : else_start.index ≡ target = omega (arith, long start) in
      let inside : end.index < length code.instrs = omega (arith, to_end, lt) in
      let else_inside : else_start.index < length code.instrs =
      omega (arith, inside, index-join (jump_over n) g jump) in
      let has_all = has_part-back code offsets (each_over (m + 2)) (body ▸ again m ▸ rest) has in
      let has_next = has_part-back code start body (again m ▸ rest) has_all in
      let has_rest = has_part-back code middle (again m) rest has_next in
      let after_each =
      stands-at code (suc index) start.index (index ∷ nest) [] at_start
      (stands-one code index (Each target) nest (index ∷ nest) (slot Kind.Data most ∷ []) [] opens s
      (each-light target most) refl) in
      let turn =
      h index start (has_part-front code start body (again m ▸ rest) has_all) (omega (arith, else_inside))
      after_each in
      let closes =
      laid-to code middle.index (suc middle.index) jump.index nest [] at_jump
      (laid-next middle.index (middle.index - m) index nest shallow (omega (arith, else_inside)) has_next.instrs.0
      (omega (arith, long start)) turn.ends) in
      let others = laid-rest n g nest jump (omega (arith, shallow)) also k has_rest inside closes.ends in
      let landing =
      lands index target nest (slot Kind.Data most ∷ []) (omega arith) (omega (arith, at_else, else_inside)) s
      (stands-at code else_start.index target nest [] at_else others.1) in
      laid-to code index end.index (after_part offsets whole).index nest [] to_end
      (laid-join code index start.index end.index (index ∷ nest) nest [] []
      (laid-to code index (suc index) start.index (index ∷ nest) [] at_start
      (laid-each index target most nest shallow (omega (arith, else_inside)) opens s landing))
      (laid-join code start.index middle.index end.index (index ∷ nest) nest [] [] turn
      (laid-join code middle.index jump.index end.index nest nest [] [] closes others.0)))
