-- Stretches of code by the rules of code: each instruction keeps them, and after a stretch the stack and the loops are
-- known.
use Rattle.std.proofs.Common.{◌≡◌, ℕ, suc, ◌+◌, ◌<◌, ◌≤◌, List, [], ◌∷◌, ◌++◌, length}
use Rattle.std.proofs.Common.{drop, Some, refl, sym, ap, ◌∙◌, true, false, nat_eq, subst, ⊎_elim, arith}
use Rattle.std.specs.Prelude.{slice_get}
use Rattle.std.proofs.lemmas.Bool.{cases_lt, ne_eqb}
use Rattle.std.proofs.lemmas.Option.{none-some, same_Some}
use Rattle.helper_set.specs.declared.kind.Kind.{Kind}
use Rattle.template_code.specs.Code.{StackCode}
use Rattle.template_code.specs.Instructions.{flow, target_of, is_misplaced, names_entries, loop_named, pops, pushes}
use Rattle.template_code.specs.Instructions.{slots_kept}
use Rattle.template_code.specs.declared.flow.Flow.{Flow}
use Rattle.template_code.specs.declared.instr.Instr.{Instr}
use Rattle.template_code.specs.declared.limits.TheConstants.{MAX_SLOTS, MAX_LOOPS}
use Rattle.code_rules.specs.Bounds.{Bound}
use Rattle.code_rules.specs.Costs.{bounds_after, bounds_at}
use Rattle.code_rules.specs.Rules.{lacks_slots, kinds_fit, lacks_loop}
use Rattle.code_rules.specs.Table.{nest_after, entry_after, entry_at}
use Rattle.code_rules.proofs.LandingFacts.{KeepsAlone, Lands}
use Rattle.code_rules.proofs.LightFacts.{IsLight}
use Rattle.code_rules.proofs.RegionFacts.{bounds_at-next}
use Rattle.code_rules.proofs.TableFacts.{entry_at-next}
use Rattle.code_rules.proofs.TotalFacts.{total}
use Rattle.template_compile.specs.Compiled.{Offsets, Gen, ◌▸◌, instructions}
use Rattle.template_compile.proofs.Goes.{index-join}
use Rattle.template_compile.proofs.HasCode.{HasPart, after_part, has_part-front, has_part-back}

-- ---- a fact that holds of each number from one up to another

abbrev pub Covers : (ℕ → Type 0) → ℕ → ℕ → Type 0
Covers P from to = (index : ℕ) → from ≤ index → index < to → P index

pub covers-none : (P : ℕ → Type 0) (n : ℕ) → Covers P n n
covers-none P n index le lt = absurd (omega arith)

pub covers-one : (P : ℕ → Type 0) (n : ℕ) → P n → Covers P n (suc n)
covers-one P n h index le lt = let e : n ≡ index = omega arith in subst P e h

pub covers-join : (P : ℕ → Type 0) (a b c : ℕ) → Covers P a b → Covers P b c → Covers P a c
covers-join P a b c h k index le lt =
    ⊎_elim (λ below. h index le below) (λ above. k index above lt) (cases_lt index b)

-- ---- slots

-- what is known of a slot: its kind, and the total that its bound has at most
pub record Slot : Type 0 where
  pub kind : Kind
  pub most : ℕ

abbrev pub slot : Kind → ℕ → Slot
slot kind most = record { kind = kind; most = most }

abbrev pub kinds_of : List Slot → List Kind
kinds_of [] = []
kinds_of (s ∷ slots) = s.kind ∷ kinds_of slots

-- each slot has a bound, which is as light as it says
abbrev pub Weigh : List Slot → List Bound → Type 0
Weigh [] [] = Unit {0}
Weigh (s ∷ slots) (b ∷ bounds) = (total b ≤ s.most) × Weigh slots bounds
Weigh slots bounds = ⊥

-- before the instruction with that index these loops are open, and these are the slots
pub record Stands (code : StackCode) (index : ℕ) (nest : List ℕ) (slots : List Slot) : Type 0 where
  pub entry : entry_at code index ≡ record { nest = nest; kinds = kinds_of slots }
  pub bounds : Weigh slots (bounds_at code index)

-- the greatest total of a bound in a template's code: six times that of nine calls, each of which makes a text three
-- times as long, on a text of 65,536 bytes
abbrev pub heaviest : ℕ
heaviest = 7739670528

-- what the rules ask of an instruction of a template's code
pub record Follows (code : StackCode) (index : ℕ) (i : Instr) : Type 0 where
  pub alone : KeepsAlone code index i (entry_at code index)
  pub lands : (target : ℕ) → target_of (flow i) ≡ Some target → Lands code index target
  pub light : IsLight code heaviest i (bounds_at code index)

abbrev pub FollowsAt : StackCode → ℕ → Type 0
FollowsAt code index = (i : Instr) → slice_get code.instrs index ≡ Some i → Follows code index i

-- each instruction of the stretch follows the rules, and after it these loops are open and these are the slots
pub record LaidTo (code : StackCode) (from to : ℕ) (nest : List ℕ) (slots : List Slot) : Type 0 where
  pub each : Covers (FollowsAt code) from to
  pub ends : Stands code to nest slots

-- wherever code has the part, and more after it, it leads from the one stack to the other by the rules, in these loops
abbrev pub Lays : StackCode → Gen → List ℕ → List Slot → List Slot → Type 0
Lays code f nest before after =
    (offsets : Offsets) → HasPart code offsets f → (after_part offsets f).index < length code.instrs →
    Stands code offsets.index nest before → LaidTo code offsets.index (after_part offsets f).index nest after

module _ (code : StackCode) where
  -- the same stretch, by another name of its end
  pub laid-to :
      (from to to' : ℕ) (nest : List ℕ) (slots : List Slot)
      → to ≡ to' → LaidTo code from to nest slots → LaidTo code from to' nest slots
  laid-to from to to' nest slots e h = subst (λ n. LaidTo code from n nest slots) e h

  pub laid-join :
      (a b c : ℕ) (nest inner : List ℕ) (before after : List Slot)
      → LaidTo code a b nest before → LaidTo code b c inner after → LaidTo code a c inner after
  laid-join a b c nest inner before after h k =
      record { each = covers-join (FollowsAt code) a b c h.each k.each; ends = k.ends }

  pub stands-at :
      (index index' : ℕ) (nest : List ℕ) (slots : List Slot)
      → index ≡ index' → Stands code index nest slots → Stands code index' nest slots
  stands-at index index' nest slots e h = subst (λ n. Stands code n nest slots) e h

  pub lays-nothing : (nest : List ℕ) (slots : List Slot) → Lays code (instructions []) nest slots slots
  lays-nothing nest slots offsets has lt s =
      laid-to offsets.index offsets.index (offsets.index + 0) nest slots (omega arith)
      (record { each = covers-none (FollowsAt code) offsets.index; ends = s })

  pub lays-join :
      (f g : Gen) (nest : List ℕ) (before between after : List Slot)
      → Lays code f nest before between → Lays code g nest between after → Lays code (f ▸ g) nest before after
  lays-join f g nest before between after h k offsets has lt s =
      let middle = after_part offsets f in
      let end = after_part middle g in
      let e = index-join f g offsets in
      let front = h offsets (has_part-front code offsets f g has) (omega (arith, e, lt)) s in
      let back = k middle (has_part-back code offsets f g has) (omega (arith, e, lt)) front.ends in
      laid-to offsets.index end.index (after_part offsets (f ▸ g)).index nest after (sym e)
      (laid-join offsets.index middle.index end.index nest nest between after front back)

  -- what is known after one instruction
  pub stands-one :
      (index : ℕ) (i : Instr) (nest inner : List ℕ) (before after : List Slot)
      → slice_get code.instrs index ≡ Some i → Stands code index nest before
      → ((bounds : List Bound) → Weigh before bounds
      → IsLight code heaviest i bounds × Weigh after (bounds_after code i bounds))
      → entry_after index i (record { nest = nest; kinds = kinds_of before })
      ≡ record { nest = inner; kinds = kinds_of after }
      → Stands code (suc index) inner after
  stands-one index i nest inner before after h s light e = record {
    entry = entry_at-next code index i h ∙ (ap (entry_after index i) s.entry ∙ e);
    bounds = subst (Weigh after) (sym (bounds_at-next code index i h)) (light (bounds_at code index) s.bounds).1;
  }

  -- a stretch of one instruction
  pub laid-one :
      (index : ℕ) (i : Instr) (nest inner : List ℕ) (before after : List Slot)
      → slice_get code.instrs index ≡ Some i → Stands code index nest before
      → KeepsAlone code index i (record { nest = nest; kinds = kinds_of before })
      → ((target : ℕ) → target_of (flow i) ≡ Some target → Lands code index target)
      → ((bounds : List Bound) → Weigh before bounds
      → IsLight code heaviest i bounds × Weigh after (bounds_after code i bounds))
      → entry_after index i (record { nest = nest; kinds = kinds_of before })
      ≡ record { nest = inner; kinds = kinds_of after }
      → LaidTo code index (suc index) inner after
  laid-one index i nest inner before after h s alone lands light e =
      let follows : Follows code index i =
      record {
        alone = subst (KeepsAlone code index i) (sym s.entry) alone;
        lands = lands;
        light = (light (bounds_at code index) s.bounds).0;
      } in
      record {
        each =
            covers-one (FollowsAt code) index
            (λ j there. subst (Follows code index) (same_Some i j (sym h ∙ there)) follows);
        ends = stands-one index i nest inner before after h s light e;
      }

-- an instruction that goes straight on keeps the rules and leads from the one stack to the other
pub record Straight (code : StackCode) (i : Instr) (nest : List ℕ) (before after : List Slot) : Type 0 where
  pub straight : flow i ≡ Flow.Straight
  pub names : names_entries code i ≡ true
  pub enough : lacks_slots (pops i) (kinds_of before) ≡ false
  pub fit : kinds_fit (pops i) (kinds_of before) ≡ true
  pub kinds : pushes i ++ drop (length (pops i)) (kinds_of before) ≡ kinds_of after
  pub open_loop : lacks_loop (loop_named i) (length nest) ≡ false
  pub light :
      (bounds : List Bound) → Weigh before bounds →
      IsLight code heaviest i bounds × Weigh after (bounds_after code i bounds)

length-kinds_of : (slots : List Slot) → length (kinds_of slots) ≡ length slots
length-kinds_of [] = refl
length-kinds_of (s ∷ slots) = ap suc (length-kinds_of slots)

module _ (code : StackCode) where
  pub lays-straight :
      (i : Instr) (nest : List ℕ) (before after : List Slot)
      → Straight code i nest before after → length nest ≤ MAX_LOOPS → length after ≤ MAX_SLOTS
      → Lays code (instructions (i ∷ [])) nest before after
  lays-straight i nest before after h shallow room offsets has lt s =
      let index = offsets.index in
      let kinds : slots_kept (flow i) (pushes i ++ drop (length (pops i)) (kinds_of before)) ≡ kinds_of after =
      ap (λ w. slots_kept w (pushes i ++ drop (length (pops i)) (kinds_of before))) h.straight ∙ h.kinds in
      let nests : nest_after (flow i) index nest ≡ nest = ap (λ w. nest_after w index nest) h.straight in
      let last : nat_eq (suc index) (length code.instrs) ≡ false =
      ne_eqb (suc index) (length code.instrs) (λ e. omega (arith, e, lt)) in
      laid-to code index (suc index) (index + 1) nest after (omega arith)
      (laid-one code index i nest nest before after has.instrs.0 s
      (record {
        names = h.names;
        enough = h.enough;
        fit = h.fit;
        room = omega (arith, ap length kinds, length-kinds_of after, room);
        empty_rest = rw h.straight refl;
        depth = omega (arith, ap length nests, shallow);
        closes = rw h.straight refl;
        open_loop = h.open_loop;
        well_placed = ap (λ w. is_misplaced w (nat_eq (suc index) (length code.instrs))) h.straight ∙ last;
      })
      (λ target jump. absurd (no-target i target h.straight jump)) h.light
      (entries index i nest (kinds_of before) (kinds_of after) nests kinds))
    where
      no-target : (j : Instr) (target : ℕ) → flow j ≡ Flow.Straight → target_of (flow j) ≡ Some target → ⊥
      no-target j target straight jump = none-some target (sym (ap target_of straight) ∙ jump)

      entries :
          (index : ℕ) (j : Instr) (ns : List ℕ) (ks ls : List Kind)
          → nest_after (flow j) index ns ≡ ns
          → slots_kept (flow j) (pushes j ++ drop (length (pops j)) ks) ≡ ls
          → entry_after index j (record { nest = ns; kinds = ks }) ≡ record { nest = ns; kinds = ls }
      entries index j ns ks ls e f = rw (e, f) refl
