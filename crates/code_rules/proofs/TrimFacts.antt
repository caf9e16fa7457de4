-- No list of a budget ends in a zero.
use Rattle.std.proofs.Common.{◌≡◌, ℕ, zero, suc, ◌+◌, Bool, true, false, List, [], ◌∷◌, length, take, drop, Option}
use Rattle.std.proofs.Common.{Some, None, nat_eq, refl, arith}
use Rattle.std.specs.Prelude.{slice_get, unwrap_or, if◌then◌else◌}
use Rattle.std.specs.Option.{option_map_or}
use Rattle.helper_set.specs.Helpers.{argument_kinds, result_kind, signature_of}
use Rattle.helper_set.specs.declared.kind.Kind.{Kind}
use Rattle.helper_set.specs.declared.signature.Growth.{Growth}
use Rattle.template_code.specs.Code.{StackCode}
use Rattle.template_code.specs.Instructions.{pops}
use Rattle.template_code.specs.declared.instr.Instr.{Instr}
use Rattle.template_code.specs.declared.instr.Instr.TheVariants.{Emit, Root, Item, Index, Key, First, Last, Text}
use Rattle.template_code.specs.declared.instr.Instr.TheVariants.{Number, Truth, Show, Test, Call, Escape, Print, Jump}
use Rattle.template_code.specs.declared.instr.Instr.TheVariants.{Branch, Each, Next, Halt}
use Rattle.code_rules.specs.Polynomial.{Polynomial, ends_in_zero, constant, plus, times, times_size}
use Rattle.code_rules.specs.Bounds.{Bound, at_most, plus_bound, times_bound, sum_of, of_turns}
use Rattle.code_rules.specs.Costs.{top, bound_by, bounds_after, bounds_along, bounds_at, written_bound, goes_over_part}
use Rattle.code_rules.specs.Costs.{Cost, no_cost, cost_of_turns, cost, cost_at}
use Rattle.code_rules.specs.Table.{entry_at}
use Rattle.code_rules.specs.Rules.{same_nest}
use Rattle.code_rules.specs.Regions.{share, region, budget}

abbrev IsTrimmed : Polynomial → Type 0
IsTrimmed ps = ends_in_zero ps ≡ false

sum_not_zero : (p q : ℕ) → nat_eq p 0 ≡ false → nat_eq (p + q) 0 ≡ false
sum_not_zero p q h = grind (arith, h)

trimmed-plus : (ps qs : Polynomial) → IsTrimmed ps → IsTrimmed qs → IsTrimmed (plus ps qs)
trimmed-plus [] qs h k = k
trimmed-plus (p ∷ ps) [] h k = h
trimmed-plus (p ∷ []) (q ∷ []) h k = sum_not_zero p q h
trimmed-plus (p ∷ []) (q ∷ r ∷ qs) h k = k
trimmed-plus (p ∷ o ∷ ps) (q ∷ []) h k = h
trimmed-plus (p ∷ o ∷ ps) (q ∷ r ∷ qs) h k = trimmed-plus (o ∷ ps) (r ∷ qs) h k

trimmed-constant : (c : ℕ) → IsTrimmed (constant c)
trimmed-constant zero = refl
trimmed-constant (suc c) = grind arith

trimmed-times : (k : ℕ) (ps : Polynomial) → IsTrimmed ps → IsTrimmed (times k ps)
trimmed-times zero ps h = refl
trimmed-times (suc k) ps h = trimmed-plus ps (times k ps) h (trimmed-times k ps h)

trimmed-times_size : (ps : Polynomial) → IsTrimmed ps → IsTrimmed (times_size ps)
trimmed-times_size [] h = refl
trimmed-times_size (p ∷ ps) h = h

abbrev Trim : Bound → Type 0
Trim b = IsTrimmed b.alone × IsTrimmed b.per

trim-number : (c : ℕ) → Trim (at_most c)
trim-number c = (trimmed-constant c, refl)

trim-plus : (b c : Bound) → Trim b → Trim c → Trim (plus_bound b c)
trim-plus b c h k = (trimmed-plus b.alone c.alone h.0 k.0, trimmed-plus b.per c.per h.1 k.1)

trim-times : (k : ℕ) (b : Bound) → Trim b → Trim (times_bound k b)
trim-times k b h = (trimmed-times k b.alone h.0, trimmed-times k b.per h.1)

trim-turns : (is_part : Bool) (b : Bound) → Trim b → Trim (of_turns is_part b)
trim-turns true b h = (refl, trimmed-plus b.alone b.per h.0 h.1)
trim-turns false b h =
    (trimmed-times_size (plus b.alone b.per) (trimmed-plus b.alone b.per h.0 h.1), refl)

abbrev AllTrim : List Bound → Type 0
AllTrim [] = Unit {0}
AllTrim (b ∷ bs) = Trim b × AllTrim bs

trim-below : (n : ℕ) (bounds : List Bound) → AllTrim bounds → AllTrim (drop n bounds)
trim-below zero bounds h = h
trim-below (suc n) [] h = tt
trim-below (suc n) (b ∷ bs) h = trim-below n bs h.1

trim-first : (n : ℕ) (bounds : List Bound) → AllTrim bounds → AllTrim (take n bounds)
trim-first zero bounds h = tt
trim-first (suc n) [] h = tt
trim-first (suc n) (b ∷ bs) h = (h.0, trim-first n bs h.1)

trim-sum_of : (bounds : List Bound) → AllTrim bounds → Trim (sum_of bounds)
trim-sum_of [] h = trim-number 0
trim-sum_of (b ∷ bs) h = trim-plus b (sum_of bs) h.0 (trim-sum_of bs h.1)

trim-top : (bounds : List Bound) → AllTrim bounds → Trim (top bounds)
trim-top [] h = trim-number 0
trim-top (b ∷ bs) h = h.0

trim-grown : (g : Growth) (bounds : List Bound) → AllTrim bounds →
    Trim (plus_bound (times_bound g.times (sum_of bounds)) (at_most g.plus))
trim-grown g bounds h =
    trim-plus (times_bound g.times (sum_of bounds)) (at_most g.plus)
    (trim-times g.times (sum_of bounds) (trim-sum_of bounds h)) (trim-number g.plus)

trim-bound_by : (kind : Kind) (g : Growth) (bounds : List Bound) → AllTrim bounds → Trim (bound_by kind g bounds)
trim-bound_by Kind.Data g bounds h = (refl, refl)
trim-bound_by Kind.Text g bounds h = trim-grown g bounds h
trim-bound_by Kind.Number g bounds h = trim-grown g bounds h
trim-bound_by Kind.Truth g bounds h = trim-grown g bounds h

trim-after : (code : StackCode) (i : Instr) (bounds : List Bound) → AllTrim bounds →
    AllTrim (bounds_after code i bounds)
trim-after code (Emit t) bounds h = h
trim-after code (Root p) bounds h = ((refl, refl), h)
trim-after code (Item zero p) bounds h = ((refl, refl), h)
trim-after code (Item (suc k) p) bounds h = ((refl, refl), h)
trim-after code (Index k) bounds h = ((refl, refl), h)
trim-after code (Key k) bounds h = ((refl, refl), h)
trim-after code (First k) bounds h = ((refl, refl), h)
trim-after code (Last k) bounds h = ((refl, refl), h)
trim-after code (Text t) bounds h = (trim-number (length (unwrap_or (slice_get code.texts t) [])), h)
trim-after code (Number n) bounds h = ((refl, refl), h)
trim-after code (Truth b) bounds h = ((refl, refl), h)
trim-after code Show bounds h = (trim-top bounds h, trim-below 1 bounds h)
trim-after code Test bounds h = ((refl, refl), trim-below 1 bounds h)
trim-after code (Call f) bounds h = (
  trim-bound_by (result_kind f) (signature_of f).growth (take (length (argument_kinds f)) bounds)
      (trim-first (length (argument_kinds f)) bounds h),
  trim-below (length (pops (Call f))) bounds h,
)
trim-after code Escape bounds h = (trim-times 6 (top bounds) (trim-top bounds h), trim-below 1 bounds h)
trim-after code Print bounds h = trim-below 1 bounds h
trim-after code (Jump a) bounds h = tt
trim-after code (Branch a) bounds h = trim-below 1 bounds h
trim-after code (Each a) bounds h = trim-below 1 bounds h
trim-after code (Next a) bounds h = h
trim-after code Halt bounds h = tt

trim-along : (code : StackCode) (is : List Instr) (bounds : List Bound) → AllTrim bounds →
    AllTrim (bounds_along code is bounds)
trim-along code [] bounds h = h
trim-along code (i ∷ is) bounds h = trim-along code is (bounds_after code i bounds) (trim-after code i bounds h)

trim-written : (code : StackCode) (i : Instr) (bounds : List Bound) → AllTrim bounds →
    Trim (written_bound code i bounds)
trim-written code (Emit t) bounds h = trim-number (length (unwrap_or (slice_get code.texts t) []))
trim-written code Print bounds h = trim-top bounds h
trim-written code i bounds h = (refl, refl)

abbrev TrimCost : Cost → Type 0
TrimCost c = Trim c.steps × Trim c.bytes

trim-at : (code : StackCode) (bounds : List Bound) (o : Option Instr) → AllTrim bounds →
    TrimCost (option_map_or (λ i. cost code i bounds) o no_cost)
trim-at code bounds None h = ((refl, refl), (refl, refl))
trim-at code bounds (Some i) h = ((refl, refl), trim-written code i bounds h)

trim-if : (b : Bool) (c d : Cost) → TrimCost c → TrimCost d → TrimCost (if b then c else d)
trim-if true c d h k = h
trim-if false c d h k = k

trim-share : (code : StackCode) (outer ns : List ℕ) (c : Cost) → TrimCost c → TrimCost (share code outer ns c)
trim-share code outer [] c h = trim-if (same_nest outer []) c no_cost h ((refl, refl), (refl, refl))
trim-share code outer (o ∷ ns) c h =
    let is_part = goes_over_part code o in
    trim-if (same_nest outer (o ∷ ns)) c (share code outer ns (cost_of_turns is_part c)) h
    (trim-share code outer ns (cost_of_turns is_part c)
    (trim-turns is_part c.steps h.0, trim-turns is_part c.bytes h.1))

trim-region : (code : StackCode) (outer : List ℕ) (n : ℕ) → TrimCost (region code (entry_at code) outer n)
trim-region code outer zero = ((refl, refl), (refl, refl))
trim-region code outer (suc n) =
    let before = region code (entry_at code) outer n in
    let own = share code outer (entry_at code n).nest (cost_at code n) in
    let h = trim-region code outer n in
    let k = trim-share code outer (entry_at code n).nest (cost_at code n)
    (trim-at code (bounds_at code n) (slice_get code.instrs n) (trim-along code (take n code.instrs) [] tt)) in
    (trim-plus before.steps own.steps h.0 k.0, trim-plus before.bytes own.bytes h.1 k.1)

pub budget-trimmed : (code : StackCode) → (ends_in_zero (budget code).steps ≡ false)
    × (ends_in_zero (budget code).bytes ≡ false)
budget-trimmed code = let h = trim-region code [] (length code.instrs) in (h.0.0, h.1.0)
