-- What the pass knows before an instruction, and what it knows after it.
use Rattle.std.proofs.Common.{◌≡◌, ℕ, zero, suc, ◌<◌, ◌≤◌, Bool, true, false, true≢false, nat_eq, List, [], ◌∷◌, length}
use Rattle.std.proofs.Common.{map, Option, Some, None, refl, sym, ap, ◌∙◌, subst, ⊎_elim, arith}
use Rattle.std.specs.Prelude.{min, replicate, slice_get, not, ◌&&◌, if◌then◌else◌}
use Rattle.std.specs.List.{list_all}
use Rattle.std.proofs.Math.Nat.{eq-or-lt_of_le}
use Rattle.std.proofs.lemmas.Option.{none-some, same_Some, slice_get_past, slice_get_within}
use Rattle.std.proofs.lemmas.List.{length-replicate}
use Rattle.std.proofs.lemmas.Bool.{cases_lt}
use Rattle.template_code.specs.Code.{StackCode, IsTyped}
use Rattle.template_code.specs.Instructions.{flow, target_of, is_misplaced, pushes, slots_after}
use Rattle.template_code.specs.declared.flow.Flow.{Flow}
use Rattle.template_code.specs.declared.instr.Instr.{Instr}
use Rattle.template_code.specs.declared.limits.TheConstants.{MAX_INSTRUCTIONS}
use Rattle.code_rules.specs.Polynomial.{as_printed}
use Rattle.code_rules.specs.Bounds.{bound_fits}
use Rattle.code_rules.specs.Costs.{is_empty, top, pushed_bounds, bounds_after, bounds_at, goes_over_part, Cost, no_cost}
use Rattle.code_rules.specs.Costs.{cost_fits}
use Rattle.code_rules.specs.Regions.{region, Budget}
use Rattle.code_rules.specs.Rules.{jumps, jumps_among, nests_to, same_nest, closes_wrongly, broken_by, broken_beyond}
use Rattle.code_rules.specs.Rules.{broken_where, broken}
use Rattle.code_rules.specs.Table.{TableEntry, blank, nest_after, entry_at}
use Rattle.code_rules.specs.Verdict.{is_over, is_over_at, or_over, verdict, IsViolation}
use Rattle.code_rules.specs.declared.rule.Rule.{Rule}
use Rattle.code_rules.specs.declared.rule.Rule.TheVariants.{V1}
use Rattle.code_rules.proofs.MachineFacts.{Keeps, keeps}
use Rattle.code_rules.proofs.RegionFacts.{bounds_at-next}
use Rattle.code_rules.proofs.TableFacts.{entry_at-next, IsTable-entry_at, verdict-same}
use Rattle.code_rules.proofs.ViolationFacts.{violation_or_accepted}
use Rattle.code_verifier.specs.Inner.Marks.{innermost, agrees, is_marked, mark_at, with_target}
use Rattle.code_verifier.proofs.MarkFacts.{mark_of, agrees-all, marked-some, mark_at-replicate, mark-next}
use Rattle.code_verifier.proofs.MarkFacts.{length-with_target}
use Rattle.code_verifier.specs.Inner.Pass.{nest_of, broken_parts, broken_seen, takes_part, loops_after, cost_after}
use Rattle.code_verifier.specs.Inner.Pass.{own_cost, all_fits, judged}
use Rattle.code_verifier.specs.Inner.Slots.{kinds_of, bounds_of}
use Rattle.code_verifier.specs.Verdict.{IsVerified}
use Rattle.code_verifier.specs.declared.loops.OpenLoop.{OpenLoop}
use Rattle.code_verifier.specs.declared.stack.Slot.{Slot}
use Rattle.code_verifier.specs.declared.targets.Mark.{Mark}
use Rattle.code_verifier.specs.declared.targets.Mark.TheVariants.{Unmarked}
use Rattle.code_verifier.proofs.BoundFacts.{fits-top}
use Rattle.code_verifier.proofs.LoopFacts.{AreOpen, open-nest, own-is, loops-next, cost-after, fits-after}

abbrev mark_among : StackCode → ℕ → ℕ → Mark
mark_among code index target = mark_of (map (λ source. (entry_at code source).nest) (jumps_among code index target))

pub record IsKnown (code : StackCode) (index : ℕ) (slots : List Slot) (loops : List OpenLoop) (marks : List Mark)
    (spent : Cost) : Type 0 where
  pub kinds : kinds_of slots ≡ (entry_at code index).kinds
  pub bounds : bounds_of slots ≡ bounds_at code index
  pub loops_open : AreOpen code (entry_at code index).nest loops
  pub cost : spent ≡ region code (entry_at code) (entry_at code index).nest index
  pub clean : (earlier : ℕ) → earlier < index → verdict code (entry_at code) earlier ≡ None
  pub early : index ≤ MAX_INSTRUCTIONS
  pub room : length marks ≡ min (length code.instrs) (suc MAX_INSTRUCTIONS)
  pub marked : (target : ℕ) → target < length marks → mark_at marks target ≡ mark_among code index target
  pub typed : (earlier : ℕ) (i : Instr) → earlier < index → slice_get code.instrs earlier ≡ Some i → IsTyped i

pub known-start : (code : StackCode) (indices : ℕ) (slots : List Slot) (loops : List OpenLoop) (marks : List Mark)
    (spent : Cost) → slots ≡ [] → loops ≡ [] → indices ≡ min (length code.instrs) (suc MAX_INSTRUCTIONS) →
    marks ≡ replicate indices Unmarked → spent ≡ no_cost → IsKnown code 0 slots loops marks spent
known-start code indices slots loops marks spent s l p t c =
    let len : length marks ≡ indices = ap length t ∙ length-replicate indices Unmarked in
    record {
      kinds = ap kinds_of s;
      bounds = ap bounds_of s;
      loops_open = subst (AreOpen code []) (sym l) tt;
      cost = c;
      clean = λ earlier lt. absurd (omega (arith, lt));
      early = omega arith;
      room = len ∙ p;
      marked = λ target lt. ap (λ ts. mark_at ts target) t
          ∙ mark_at-replicate indices target (omega (arith, lt, len));
      typed = λ earlier i lt h. absurd (omega (arith, lt));
    }

not_last : (m n : ℕ) → nat_eq m n ≡ false → m ≤ n → suc m ≤ n
not_last m n h le = grind (arith, h, le)

rule_none : (o : Option Rule) (over : Bool) → or_over o over ≡ None → o ≡ None
rule_none None over h = refl
rule_none (Some rule) over h = absurd (none-some rule (sym h))

-- an instruction that breaks no rule keeps them
verdict-keeps : (code : StackCode) (index : ℕ) (i : Instr) → slice_get code.instrs index ≡ Some i →
    verdict code (entry_at code) index ≡ None →
    Keeps code index (nests_to code (entry_at code) index) i (entry_at code index)
verdict-keeps code index i at v =
    let sources = nests_to code (entry_at code) index in
    let none = rule_none (broken code (entry_at code) index) (is_over_at code (entry_at code) index) v in
    keeps code index sources i (entry_at code index)
    (sym (ap (λ o. broken_where code index sources o (entry_at code index)) at) ∙ none)

-- what is judged of an instruction is the verdict at its index
module _ (code : StackCode) (index : ℕ) (i : Instr) (slots : List Slot) (loops : List OpenLoop) (marks : List Mark)
    (spent : Cost) (k : IsKnown code index slots loops marks spent) (at : slice_get code.instrs index ≡ Some i) where
  abbrev here : TableEntry
  here = entry_at code index

  abbrev sources : List (List ℕ)
  sources = nests_to code (entry_at code) index

  abbrev own : Cost
  own = own_cost code i slots spent

  own-region : own ≡ region code (entry_at code) here.nest (suc index)
  own-region = own-is code index i (bounds_of slots) spent at k.bounds k.cost

  pub part-is : takes_part slots ≡ goes_over_part code index
  part-is = ap (λ bs. not (is_empty (top bs).per)) k.bounds

  broken-is : (mark : Mark) → mark ≡ mark_of sources →
      broken_seen code index i mark loops slots ≡ broken_by code index sources i here
  broken-is mark m =
      let nest = open-nest code here.nest loops k.loops_open in
      ap (λ ns. broken_parts code index i ns (kinds_of slots) (agrees (innermost ns) mark) (is_marked mark)) nest
      ∙ (ap (λ ks. broken_parts code index i here.nest ks (agrees (innermost here.nest) mark)
      (is_marked mark)) k.kinds
      ∙ (ap (λ x. broken_parts code index i here.nest here.kinds (agrees (innermost here.nest) x) (is_marked x)) m
      ∙ (ap (λ b. broken_parts code index i here.nest here.kinds b (is_marked (mark_of sources)))
      (agrees-all code index (jumps_among code index index))
      ∙ ap (broken_parts code index i here.nest here.kinds (list_all (same_nest here.nest) sources))
      (marked-some sources))))

  over-is : not (all_fits code i loops slots spent) ≡ is_over code (entry_at code) index (Some i)
  over-is =
      let pushed = pushed_bounds code i (bounds_at code index) in
      let rest = cost_fits own && cost_fits (cost_after (flow i) loops own) in
      ap (λ bs. not (bound_fits (top (pushed_bounds code i bs)) && rest)) k.bounds
      ∙ (ap (λ b. not (b && rest)) (sym (fits-top code i (bounds_at code index)))
      ∙ ap (λ b. not (list_all bound_fits pushed && b))
      (fits-after code index own (takes_part slots) (flow i) loops k.loops_open own-region))

  pub judged-verdict : (mark : Mark) (rule : Option Rule) → mark ≡ mark_at marks index →
      index < length code.instrs → rule ≡ judged code index i mark loops slots spent →
      verdict code (entry_at code) index ≡ rule
  judged-verdict mark rule m lt r =
      let marked = m ∙ k.marked index (omega (arith, lt, k.early, k.room)) in
      ap (λ o. or_over (broken_where code index sources o here) (is_over code (entry_at code) index o)) at
      ∙ sym (r
      ∙ (ap (λ o. or_over o (not (all_fits code i loops slots spent))) (broken-is mark marked)
      ∙ ap (or_over (broken_by code index sources i here)) over-is))

  pub known-next : (after : List Slot) (new : List OpenLoop) (next : List Mark) (sum : Cost) →
      verdict code (entry_at code) index ≡ None → kinds_of after ≡ slots_after i (pushes i) (kinds_of slots) →
      bounds_of after ≡ bounds_after code i (bounds_of slots) →
      next ≡ with_target (target_of (flow i)) (innermost (nest_of loops)) marks →
      new ≡ loops_after (flow i) index (takes_part slots) own loops → sum ≡ cost_after (flow i) loops own →
      IsTyped i → IsKnown code (suc index) after new next sum
  known-next after new next sum v ks bs ms ls cs typed =
      let nest = open-nest code here.nest loops k.loops_open in
      let entry = entry_at-next code index i at in
      let keeps = verdict-keeps code index i at v in
      let from = ms ∙ ap (λ ns. with_target (target_of (flow i)) (innermost ns) marks) nest in
      let len : length next ≡ length marks =
      ap length from ∙ length-with_target (target_of (flow i)) (innermost here.nest) marks in
      record {
        kinds = ks ∙ (ap (slots_after i (pushes i)) k.kinds ∙ sym (ap (λ e. e.kinds) entry));
        bounds = bs ∙ (ap (bounds_after code i) k.bounds ∙ sym (bounds_at-next code index i at));
        loops_open =
            subst (λ ns. AreOpen code ns new) (sym (ap (λ e. e.nest) entry))
            (subst (AreOpen code (nest_after (flow i) index here.nest)) (sym ls)
            (loops-next code index own (takes_part slots) (flow i) loops k.loops_open own-region part-is));
        cost =
            cs ∙ (cost-after code index own (takes_part slots) (flow i) loops k.loops_open own-region
            ∙ ap (λ ns. region code (entry_at code) ns (suc index)) (sym (ap (λ e. e.nest) entry)));
        clean = λ earlier lt. ⊎_elim (λ e. rw e v) (λ less. k.clean earlier less)
            (eq-or-lt_of_le {n = earlier} {m = index} (omega (arith, lt)));
        early = not_last index MAX_INSTRUCTIONS keeps.early k.early;
        room = len ∙ k.room;
        marked = λ target lt.
            let less : target < length marks = omega (arith, lt, len) in
            ap (λ ts. mark_at ts target) from
            ∙ (mark-next code index target marks (target_of (flow i)) less (k.marked target less)
            ∙ ap (λ o. mark_of (map (λ source. (entry_at code source).nest)
            (if jumps o target then index ∷ jumps_among code index target else jumps_among code index target)))
            (sym at));
        typed = λ earlier j lt h.
            ⊎_elim
            (λ e. subst IsTyped (same_Some i j (sym at ∙ (ap (slice_get code.instrs) (sym e) ∙ h))) typed)
            (λ less. k.typed earlier j less h)
            (eq-or-lt_of_le {n = earlier} {m = index} (omega (arith, lt)));
      }

pub known-violation : (code : StackCode) (index : ℕ) (rule : Rule) (slots : List Slot) (loops : List OpenLoop)
    (marks : List Mark) (spent : Cost) → IsKnown code index slots loops marks spent →
    verdict code (entry_at code) index ≡ Some rule → IsViolation code index rule
known-violation code index rule slots loops marks spent k v =
    record { table = entry_at code; follows = IsTable-entry_at code; before = k.clean; here = v }

-- no rule is broken after the last instruction
past_end : (code : StackCode) (index : ℕ) → 0 < length code.instrs → length code.instrs ≤ index →
    verdict code (entry_at code) index ≡ None
past_end code index some le =
    ap (λ o. or_over (broken_where code index (nests_to code (entry_at code) index) o (entry_at code index))
    (is_over code (entry_at code) index o)) (slice_get_past code.instrs index le)
    ∙ ap (λ o. or_over o false) (none_beyond code.instrs some)
  where
    none_beyond : (is : List Instr) → 0 < length is → broken_beyond is index ≡ None
    none_beyond [] h = absurd (omega (arith, h))
    none_beyond (i ∷ is) h = refl

-- the run ends outside of all loops
empty : (nest : List ℕ) → not (is_empty nest) ≡ false → nest ≡ []
empty [] h = refl
empty (o ∷ nest) h = absurd (true≢false h)

ends-out : (f : Flow) (last : Bool) (index : ℕ) (nest : List ℕ) → last ≡ true →
    is_misplaced f last ≡ false → closes_wrongly f nest ≡ false → nest_after f index nest ≡ []
ends-out Flow.Straight last index nest e m c = absurd (true≢false (sym e ∙ m))
ends-out (Flow.Jump a) last index nest e m c = absurd (true≢false (sym e ∙ m))
ends-out (Flow.Branch a) last index nest e m c = absurd (true≢false (sym e ∙ m))
ends-out (Flow.Open a) last index nest e m c = absurd (true≢false (sym e ∙ m))
ends-out (Flow.Close a) last index nest e m c = absurd (true≢false (sym e ∙ m))
ends-out Flow.End last index nest e m c = empty nest c

same_index : (n : ℕ) → nat_eq n n ≡ true
same_index n = grind arith

out-at : (code : StackCode) (end : ℕ) → end ≡ length code.instrs → 0 < end →
    ((index : ℕ) → index < end → verdict code (entry_at code) index ≡ None) → (entry_at code end).nest ≡ []
out-at code zero e some clean = absurd (omega (arith, some))
out-at code (suc last) e some clean =
    by (slice_get code.instrs last) refl
  where
    by : (o : Option Instr) → slice_get code.instrs last ≡ o → (entry_at code (suc last)).nest ≡ []
    by None at = absurd (none_inside code.instrs last (omega (arith, e)) at)
      where
        none_inside : (is : List Instr) (n : ℕ) → n < length is → slice_get is n ≡ None → ⊥
        none_inside [] n lt h = omega (arith, lt)
        none_inside (i ∷ is) zero lt h = none-some i (sym h)
        none_inside (i ∷ is) (suc n) lt h = none_inside is n (omega (arith, lt)) h
    by (Some i) at =
        let keeps = verdict-keeps code last i at (clean last (omega arith)) in
        ap (λ x. x.nest) (entry_at-next code last i at)
        ∙ ends-out (flow i) (nat_eq (suc last) (length code.instrs)) last (entry_at code last).nest
        (ap (nat_eq (suc last)) (sym e) ∙ same_index (suc last)) keeps.well_placed keeps.closes

pub known-whole : (code : StackCode) (index : ℕ) (slots : List Slot) (loops : List OpenLoop) (marks : List Mark)
    (spent : Cost) (lists : Budget) → 0 < length code.instrs → index ≡ length code.instrs →
    IsKnown code index slots loops marks spent →
    lists ≡ record { steps = as_printed spent.steps.alone; bytes = as_printed spent.bytes.alone } →
    IsVerified code lists
known-whole code index slots loops marks spent lists some end k is =
    let accepted = ⊎_elim (λ w. absurd (no_violation w.0 w.1 w.2)) (λ w. w) (violation_or_accepted code) in
    let out = out-at code index end (omega (arith, some, end)) k.clean in
    let whole : spent ≡ region code (entry_at code) [] (length code.instrs) =
    k.cost ∙ (ap (λ ns. region code (entry_at code) ns index) out
    ∙ ap (region code (entry_at code) []) end) in
    record {
      well_formed = accepted.0;
      within_limits = accepted.1;
      typed = λ p i h. let lt = slice_get_within code.instrs p i h in k.typed p i (omega (arith, lt, end)) h;
      steps = ap (λ x. x.steps) is ∙ ap (λ (c : Cost). as_printed c.steps.alone) whole;
      bytes = ap (λ x. x.bytes) is ∙ ap (λ (c : Cost). as_printed c.bytes.alone) whole;
    }
  where
    none : (p : ℕ) → verdict code (entry_at code) p ≡ None
    none p = ⊎_elim (λ lt. k.clean p (omega (arith, lt, end))) (λ le. past_end code p some le)
        (cases_lt p (length code.instrs))

    no_violation : (p : ℕ) (r : Rule) → IsViolation code p r → ⊥
    no_violation p r f = none-some r (sym (none p) ∙ (verdict-same code (entry_at code) f.table
        (IsTable-entry_at code) f.follows p ∙ f.here))

pub no_code : (code : StackCode) → code.instrs ≡ [] → IsViolation code 0 V1
no_code code h =
    record {
      table = entry_at code;
      follows = IsTable-entry_at code;
      before = λ earlier lt. absurd (omega (arith, lt));
      here = ap (λ o. or_over (broken_where code 0 [] o blank) (is_over code (entry_at code) 0 o))
          (ap (λ is. slice_get is 0) h)
          ∙ ap (λ is. or_over (broken_beyond is 0) false) h;
    }
