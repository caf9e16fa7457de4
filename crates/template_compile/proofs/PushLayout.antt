-- Instructions that push a value keep the rules.
use Rattle.std.proofs.Common.{◌≡◌, ℕ, zero, suc, ◌<◌, ◌≤◌, List, [], ◌∷◌, length, Some, refl}
use Rattle.std.proofs.Common.{ap, true, false, nat_lt, arith}
use Rattle.std.specs.Prelude.{not, slice_get, unwrap_or}
use Rattle.std.proofs.lemmas.Bool.{lt-ltb}
use Rattle.std.proofs.lemmas.Option.{slice_get_within}
use Rattle.data_tree.specs.declared.step.Step.{Step}
use Rattle.helper_set.specs.declared.kind.Kind.{Kind}
use Rattle.template_code.specs.Code.{StackCode}
use Rattle.template_code.specs.Instructions.{flow, names_entries, loop_named, pops, pushes}
use Rattle.template_code.specs.declared.flow.Flow.{Flow}
use Rattle.template_code.specs.declared.instr.Instr.{Instr}
use Rattle.template_code.specs.declared.instr.Instr.TheVariants.{Root, Item, Text}
use Rattle.template_code.specs.declared.limits.TheConstants.{MAX_SLOTS, MAX_LOOPS}
use Rattle.code_rules.specs.Bounds.{Bound, at_most, all_data, item_data}
use Rattle.code_rules.specs.Costs.{pushed_bounds, written_bound}
use Rattle.code_rules.specs.Rules.{lacks_loop}
use Rattle.code_rules.proofs.TotalFacts.{total, total-at_most}
use Rattle.template_compile.specs.Compiled.{instructions, text_code, root_code, item_code}
use Rattle.template_compile.proofs.Stretch.{Slot, slot, heaviest, Lays, Straight, lays-straight}

-- an instruction that pops nothing and pushes a slot like that
pub record Pushes (code : StackCode) (i : Instr) (nest : List ℕ) (s : Slot) : Type 0 where
  pub straight : flow i ≡ Flow.Straight
  pub none : pops i ≡ []
  pub kind : pushes i ≡ s.kind ∷ []
  pub names : names_entries code i ≡ true
  pub open_loop : lacks_loop (loop_named i) (length nest) ≡ false
  pub bound : Bound
  pub pushed : (bounds : List Bound) → pushed_bounds code i bounds ≡ bound ∷ []
  pub weight : total bound ≤ s.most
  pub quiet : (bounds : List Bound) → written_bound code i bounds ≡ at_most 0

module _ (code : StackCode) (nest : List ℕ) (shallow : length nest ≤ MAX_LOOPS) where
  -- one that computes to such facts
  abbrev pub pushes-slot :
      (i : Instr) (s : Slot) (bound : Bound)
      → flow i ≡ Flow.Straight → pops i ≡ [] → pushes i ≡ s.kind ∷ [] → names_entries code i ≡ true
      → lacks_loop (loop_named i) (length nest) ≡ false
      → ((bounds : List Bound) → pushed_bounds code i bounds ≡ bound ∷ []) → total bound ≤ s.most
      → ((bounds : List Bound) → written_bound code i bounds ≡ at_most 0) → Pushes code i nest s
  pushes-slot i s bound straight none kind names open_loop pushed weight quiet = record {
    straight = straight;
    none = none;
    kind = kind;
    names = names;
    open_loop = open_loop;
    bound = bound;
    pushed = pushed;
    weight = weight;
    quiet = quiet;
  }

  pushing :
      (i : Instr) (s : Slot) (below : List Slot)
      → Pushes code i nest s → s.most ≤ heaviest → Straight code i nest below (s ∷ below)
  pushing i s below h le = record {
    straight = h.straight;
    names = h.names;
    enough = rw h.none refl;
    fit = rw h.none refl;
    kinds = rw (h.none, h.kind) refl;
    open_loop = h.open_loop;
    light = λ bounds weigh. (
      record {
        pushed = rw (h.pushed bounds) (omega (arith, h.weight, le), tt);
        written = rw (h.quiet bounds) (omega arith);
      },
      rw (h.straight, h.pushed bounds, h.none) (h.weight, weigh),
    );
  }

  pub lays-pushing :
      (i : Instr) (s : Slot) (below : List Slot)
      → Pushes code i nest s → s.most ≤ heaviest → suc (length below) ≤ MAX_SLOTS
      → Lays code (instructions (i ∷ [])) nest below (s ∷ below)
  lays-pushing i s below h le room =
      lays-straight code i nest below (s ∷ below) (pushing i s below h le) shallow (omega (arith, room))

  names-it : {A : Type 0} (xs : List A) (n : ℕ) (x : A) → slice_get xs n ≡ Some x
      → nat_lt n (length xs) ≡ true
  names-it xs n x h = lt-ltb n (length xs) (slice_get_within xs n x h)

  pub names-loop : (k : ℕ) → k < length nest → not (nat_lt k (length nest)) ≡ false
  names-loop k lt = ap not (lt-ltb k (length nest) lt)

  pub lays-root :
      (path : List Step) (most : ℕ) (below : List Slot) → 1 ≤ most → most ≤ heaviest
      → suc (length below) ≤ MAX_SLOTS → Lays code (root_code path) nest below (slot Kind.Data most ∷ below)
  lays-root path most below some le room offsets has lt s =
      lays-pushing (Root offsets.paths) (slot Kind.Data most) below
      (pushes-slot (Root offsets.paths) (slot Kind.Data most) all_data refl refl refl
      (names-it code.paths offsets.paths path has.paths.0) refl (λ bounds. refl) some (λ bounds. refl))
      le room offsets
      (record { instrs = has.instrs; texts = tt; paths = tt }) lt s

  pub lays-item :
      (up : ℕ) (path : List Step) (most : ℕ) (below : List Slot)
      → up < length nest → 1 ≤ most → most ≤ heaviest → suc (length below) ≤ MAX_SLOTS
      → Lays code (item_code up path) nest below (slot Kind.Data most ∷ below)
  lays-item up path most below inside some le room offsets has lt s =
      lays-pushing (Item up offsets.paths) (slot Kind.Data most) below
      (of-item up offsets.paths inside (names-it code.paths offsets.paths path has.paths.0)) le room offsets
      (record { instrs = has.instrs; texts = tt; paths = tt }) lt s
    where
      of-item : (k p : ℕ) → k < length nest → nat_lt p (length code.paths) ≡ true →
          Pushes code (Item k p) nest (slot Kind.Data most)
      of-item zero p there names =
          pushes-slot (Item zero p) (slot Kind.Data most) item_data refl refl refl names (names-loop zero there)
          (λ bounds. refl) some (λ bounds. refl)
      of-item (suc k) p there names =
          pushes-slot (Item (suc k) p) (slot Kind.Data most) all_data refl refl refl names (names-loop (suc k) there)
          (λ bounds. refl) some (λ bounds. refl)

  pub lays-text :
      (bytes : List ℕ) (most : ℕ) (below : List Slot)
      → length bytes ≤ most → most ≤ heaviest → suc (length below) ≤ MAX_SLOTS
      → Lays code (text_code bytes) nest below (slot Kind.Text most ∷ below)
  lays-text bytes most below few le room offsets has lt s =
      lays-pushing (Text offsets.texts) (slot Kind.Text most) below
      (pushes-slot (Text offsets.texts) (slot Kind.Text most)
      (at_most (length (unwrap_or (slice_get code.texts offsets.texts) []))) refl refl refl
      (names-it code.texts offsets.texts bytes has.texts.0) refl (λ bounds. refl)
      (rw has.texts.0 (omega (arith, total-at_most (length bytes), few))) (λ bounds. refl)) le room offsets
      (record { instrs = has.instrs; texts = tt; paths = tt }) lt s
