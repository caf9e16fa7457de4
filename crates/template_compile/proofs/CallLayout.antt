-- Conversions of values, and calls with converted arguments, keep the rules.
use Rattle.std.specs.Bool.{IsTrue}
use Rattle.std.proofs.Common.{◌≡◌, ℕ, suc, ◌≤◌, List, [], ◌∷◌, length, drop, refl, sym, ap}
use Rattle.std.proofs.Common.{true, false, true≢false, arith}
use Rattle.std.specs.Prelude.{max}
use Rattle.helper_set.specs.Helpers.{signature_of, result_kind}
use Rattle.helper_set.specs.declared.helper.Helper.{Helper}
use Rattle.helper_set.specs.declared.helper.Helper.TheVariants.{Upper, Lower, Trim, Size, Eq, Neq, Contains, Not}
use Rattle.helper_set.specs.declared.helper.Helper.TheVariants.{Base64, UrlEncode, DefaultIfEmpty, JsonPath}
use Rattle.helper_set.specs.declared.kind.Kind.{Kind}
use Rattle.helper_set.specs.declared.signature.Parameter.{Parameter}
use Rattle.helper_set.specs.declared.signature.Parameter.TheVariants.{Any, NoText, DataOrText, Of}
use Rattle.template_code.specs.Code.{StackCode}
use Rattle.template_code.specs.Instructions.{pops}
use Rattle.template_code.specs.declared.instr.Instr.TheVariants.{Show, Test, Call}
use Rattle.template_code.specs.declared.limits.TheConstants.{MAX_SLOTS, MAX_LOOPS}
use Rattle.code_rules.specs.Bounds.{Bound}
use Rattle.code_rules.specs.Costs.{bounds_after}
use Rattle.code_rules.specs.Rules.{kinds_fit, lacks_slots}
use Rattle.code_rules.proofs.LightFacts.{IsLight}
use Rattle.template_tree.specs.Meaning.{second_parameter}
use Rattle.template_compile.specs.Kinds.{conversion}
use Rattle.template_compile.specs.Compiled.{instructions}
use Rattle.template_tags.specs.Sound.{takes_one, takes_two}
use Rattle.template_compile.proofs.Heights.{cap, cap-nine, cap-one, cap-two}
use Rattle.template_compile.proofs.Stretch.{Slot, slot, kinds_of, Weigh, heaviest, Lays, lays-nothing, lays-straight}

-- the kind of a value once it is converted
abbrev pub kind_for : Parameter → Kind → Kind
kind_for (Of wanted) kind = wanted
kind_for DataOrText Kind.Data = Kind.Data
kind_for DataOrText kind = Kind.Text
kind_for p kind = kind

-- a parameter for which values are converted, or which takes what it is given
abbrev pub IsWanted : Parameter → Type 0
IsWanted (Of Kind.Text) = Unit {0}
IsWanted (Of Kind.Truth) = Unit {0}
IsWanted DataOrText = Unit {0}
IsWanted p = ⊥

pub wants-one : (h : Helper) → IsTrue (takes_one h) → IsWanted (signature_of h).first
wants-one Upper one = tt
wants-one Lower one = tt
wants-one Trim one = tt
wants-one Size one = tt
wants-one Not one = tt
wants-one Base64 one = tt
wants-one UrlEncode one = tt
wants-one h one = absurd (true≢false (sym one))

pub wants-two : (h : Helper) → IsTrue (takes_two h)
    → IsWanted (signature_of h).first × IsWanted (second_parameter h)
wants-two Eq two = (tt, tt)
wants-two Neq two = (tt, tt)
wants-two Contains two = (tt, tt)
wants-two DefaultIfEmpty two = (tt, tt)
wants-two JsonPath two = absurd (true≢false (sym two))
wants-two h two = absurd (true≢false (sym two))

-- the slots that a call pops are there, and have its parameters' kinds
record CallFits (h : Helper) (kinds rest : List Kind) : Type 0 where
  enough : lacks_slots (pops (Call h)) kinds ≡ false
  fit : kinds_fit (pops (Call h)) kinds ≡ true
  below : drop (length (pops (Call h))) kinds ≡ rest

one-fits : (h : Helper) (kind : Kind) (rest : List Kind) → IsTrue (takes_one h) →
    CallFits h (kind_for (signature_of h).first kind ∷ rest) rest
one-fits Upper kind rest one = record { enough = refl; fit = refl; below = refl }
one-fits Lower kind rest one = record { enough = refl; fit = refl; below = refl }
one-fits Trim kind rest one = record { enough = refl; fit = refl; below = refl }
one-fits Size Kind.Data rest one = record { enough = refl; fit = refl; below = refl }
one-fits Size Kind.Text rest one = record { enough = refl; fit = refl; below = refl }
one-fits Size Kind.Number rest one = record { enough = refl; fit = refl; below = refl }
one-fits Size Kind.Truth rest one = record { enough = refl; fit = refl; below = refl }
one-fits Not kind rest one = record { enough = refl; fit = refl; below = refl }
one-fits Base64 kind rest one = record { enough = refl; fit = refl; below = refl }
one-fits UrlEncode kind rest one = record { enough = refl; fit = refl; below = refl }
one-fits h kind rest one = absurd (true≢false (sym one))

two-fits : (h : Helper) (kind other : Kind) (rest : List Kind) → IsTrue (takes_two h) →
    CallFits h (kind_for (second_parameter h) other ∷ kind_for (signature_of h).first kind ∷ rest) rest
two-fits Eq kind other rest two = record { enough = refl; fit = refl; below = refl }
two-fits Neq kind other rest two = record { enough = refl; fit = refl; below = refl }
two-fits Contains kind other rest two = record { enough = refl; fit = refl; below = refl }
two-fits DefaultIfEmpty kind other rest two = record { enough = refl; fit = refl; below = refl }
two-fits JsonPath kind other rest two = absurd (true≢false (sym two))
two-fits h kind other rest two = absurd (true≢false (sym two))

pops-one : (h : Helper) → IsTrue (takes_one h) → length (pops (Call h)) ≡ 1
pops-one Upper one = refl
pops-one Lower one = refl
pops-one Trim one = refl
pops-one Size one = refl
pops-one Not one = refl
pops-one Base64 one = refl
pops-one UrlEncode one = refl
pops-one h one = absurd (true≢false (sym one))

pops-two : (h : Helper) → IsTrue (takes_two h) → length (pops (Call h)) ≡ 2
pops-two Eq two = refl
pops-two Neq two = refl
pops-two Contains two = refl
pops-two DefaultIfEmpty two = refl
pops-two JsonPath two = refl
pops-two h two = absurd (true≢false (sym two))

module _ (code : StackCode) (nest : List ℕ) (shallow : length nest ≤ MAX_LOOPS) where
  lays-show :
      (kind : Kind) (most : ℕ) (below : List Slot)
      → kinds_fit (pops Show) (kind ∷ kinds_of below) ≡ true → most ≤ heaviest
      → suc (length below) ≤ MAX_SLOTS
      → Lays code (instructions (Show ∷ [])) nest (slot kind most ∷ below) (slot Kind.Text most ∷ below)
  lays-show kind most below fit le room =
      lays-straight code Show nest (slot kind most ∷ below) (slot Kind.Text most ∷ below)
      (record {
        straight = refl;
        names = refl;
        enough = refl;
        fit = fit;
        kinds = refl;
        open_loop = refl;
        light = light;
      }) shallow (omega (arith, room))
    where
      light : (bounds : List Bound) → Weigh (slot kind most ∷ below) bounds →
          IsLight code heaviest Show bounds × Weigh (slot Kind.Text most ∷ below) (bounds_after code Show bounds)
      light [] w = absurd w
      light (b ∷ bounds) w =
          (record { pushed = (omega (arith, w.0, le), tt); written = omega arith }, (w.0, w.1))

  lays-test :
      (kind : Kind) (most : ℕ) (below : List Slot)
      → kinds_fit (pops Test) (kind ∷ kinds_of below) ≡ true → 65536 ≤ most → most ≤ heaviest
      → suc (length below) ≤ MAX_SLOTS
      → Lays code (instructions (Test ∷ [])) nest (slot kind most ∷ below) (slot Kind.Truth most ∷ below)
  lays-test kind most below fit some le room =
      lays-straight code Test nest (slot kind most ∷ below) (slot Kind.Truth most ∷ below)
      (record {
        straight = refl;
        names = refl;
        enough = refl;
        fit = fit;
        kinds = refl;
        open_loop = refl;
        light = light;
      }) shallow (omega (arith, room))
    where
      light : (bounds : List Bound) → Weigh (slot kind most ∷ below) bounds →
          IsLight code heaviest Test bounds × Weigh (slot Kind.Truth most ∷ below) (bounds_after code Test bounds)
      light [] w = absurd w
      light (b ∷ bounds) w =
          (record { pushed = (omega arith, tt); written = omega arith }, (omega (arith, some), w.1))

  -- a value is converted for a parameter
  pub lays-conversion :
      (p : Parameter) (kind : Kind) (most : ℕ) (below : List Slot)
      → IsWanted p → 65536 ≤ most → most ≤ heaviest → suc (length below) ≤ MAX_SLOTS
      → Lays code (instructions (conversion p kind)) nest (slot kind most ∷ below)
      (slot (kind_for p kind) most ∷ below)
  lays-conversion (Of Kind.Text) Kind.Text most below w some le room =
      lays-nothing code nest (slot Kind.Text most ∷ below)
  lays-conversion (Of Kind.Text) Kind.Data most below w some le room = lays-show Kind.Data most below refl le room
  lays-conversion (Of Kind.Text) Kind.Number most below w some le room = lays-show Kind.Number most below refl le room
  lays-conversion (Of Kind.Text) Kind.Truth most below w some le room = lays-show Kind.Truth most below refl le room
  lays-conversion (Of Kind.Truth) Kind.Truth most below w some le room =
      lays-nothing code nest (slot Kind.Truth most ∷ below)
  lays-conversion (Of Kind.Truth) Kind.Data most below w some le room =
      lays-test Kind.Data most below refl some le room
  lays-conversion (Of Kind.Truth) Kind.Text most below w some le room =
      lays-test Kind.Text most below refl some le room
  lays-conversion (Of Kind.Truth) Kind.Number most below w some le room =
      lays-test Kind.Number most below refl some le room
  lays-conversion DataOrText Kind.Data most below w some le room =
      lays-nothing code nest (slot Kind.Data most ∷ below)
  lays-conversion DataOrText Kind.Text most below w some le room =
      lays-nothing code nest (slot Kind.Text most ∷ below)
  lays-conversion DataOrText Kind.Number most below w some le room = lays-show Kind.Number most below refl le room
  lays-conversion DataOrText Kind.Truth most below w some le room = lays-show Kind.Truth most below refl le room
  lays-conversion (Of Kind.Data) kind most below w some le room = absurd w
  lays-conversion (Of Kind.Number) kind most below w some le room = absurd w
  lays-conversion Any kind most below w some le room = absurd w
  lays-conversion NoText kind most below w some le room = absurd w

  pub lays-call :
      (h : Helper) (depth : ℕ) (kind : Kind) (below : List Slot)
      → IsTrue (takes_one h) → suc depth ≤ 9 → suc (length below) ≤ MAX_SLOTS
      → Lays code (instructions (Call h ∷ [])) nest
      (slot (kind_for (signature_of h).first kind) (cap depth) ∷ below)
      (slot (result_kind h) (cap (suc depth)) ∷ below)
  lays-call h depth kind below one deep room =
      let s = slot (kind_for (signature_of h).first kind) (cap depth) in
      let made = slot (result_kind h) (cap (suc depth)) in
      let fits = one-fits h kind (kinds_of below) one in
      lays-straight code (Call h) nest (s ∷ below) (made ∷ below)
      (record {
        straight = refl;
        names = refl;
        enough = fits.enough;
        fit = fits.fit;
        kinds = ap (λ ks. result_kind h ∷ ks) fits.below;
        open_loop = refl;
        light = light;
      }) shallow (omega (arith, room))
    where
      light : (bounds : List Bound) →
          Weigh (slot (kind_for (signature_of h).first kind) (cap depth) ∷ below) bounds →
          IsLight code heaviest (Call h) bounds
          × Weigh (slot (result_kind h) (cap (suc depth)) ∷ below) (bounds_after code (Call h) bounds)
      light [] w = absurd w
      light (b ∷ bounds) w =
          let le = cap-one h depth b bounds one w.0 in (
            record { pushed = (omega (arith, le, cap-nine (suc depth) deep), tt); written = omega arith },
            rw (pops-one h one) (le, w.1),
          )

  pub lays-call_two :
      (h : Helper) (m n : ℕ) (kind other : Kind) (below : List Slot)
      → IsTrue (takes_two h) → suc (max m n) ≤ 9 → suc (length below) ≤ MAX_SLOTS
      → Lays code (instructions (Call h ∷ [])) nest
      (slot (kind_for (second_parameter h) other) (cap n)
      ∷ slot (kind_for (signature_of h).first kind) (cap m) ∷ below)
      (slot (result_kind h) (cap (suc (max m n))) ∷ below)
  lays-call_two h m n kind other below two deep room =
      let s = slot (kind_for (second_parameter h) other) (cap n) in
      let t = slot (kind_for (signature_of h).first kind) (cap m) in
      let made = slot (result_kind h) (cap (suc (max m n))) in
      let fits = two-fits h kind other (kinds_of below) two in
      lays-straight code (Call h) nest (s ∷ t ∷ below) (made ∷ below)
      (record {
        straight = refl;
        names = refl;
        enough = fits.enough;
        fit = fits.fit;
        kinds = ap (λ ks. result_kind h ∷ ks) fits.below;
        open_loop = refl;
        light = light;
      }) shallow (omega (arith, room))
    where
      light : (bounds : List Bound) →
          Weigh (slot (kind_for (second_parameter h) other) (cap n)
          ∷ slot (kind_for (signature_of h).first kind) (cap m) ∷ below) bounds →
          IsLight code heaviest (Call h) bounds
          × Weigh (slot (result_kind h) (cap (suc (max m n))) ∷ below) (bounds_after code (Call h) bounds)
      light [] w = absurd w
      light (b ∷ []) w = absurd w.1
      light (b ∷ c ∷ bounds) w =
          let le = cap-two h m n b c bounds two w.0 w.1.0 in (
            record { pushed = (omega (arith, le, cap-nine (suc (max m n)) deep), tt); written = omega arith },
            rw (pops-two h two) (le, w.1.1),
          )

  -- the body and the text of its JSON path are looked up
  pub lays-looked_up :
      (most : ℕ) (below : List Slot)
      → 1 ≤ most → most ≤ heaviest → suc (length below) ≤ MAX_SLOTS
      → Lays code (instructions (Call JsonPath ∷ [])) nest (slot Kind.Text most ∷ slot Kind.Data most ∷ below)
      (slot Kind.Data most ∷ below)
  lays-looked_up most below some le room =
      lays-straight code (Call JsonPath) nest (slot Kind.Text most ∷ slot Kind.Data most ∷ below)
      (slot Kind.Data most ∷ below)
      (record {
        straight = refl;
        names = refl;
        enough = refl;
        fit = refl;
        kinds = refl;
        open_loop = refl;
        light = light;
      }) shallow (omega (arith, room))
    where
      light : (bounds : List Bound) → Weigh (slot Kind.Text most ∷ slot Kind.Data most ∷ below) bounds →
          IsLight code heaviest (Call JsonPath) bounds
          × Weigh (slot Kind.Data most ∷ below) (bounds_after code (Call JsonPath) bounds)
      light [] w = absurd w
      light (b ∷ []) w = absurd w.1
      light (b ∷ c ∷ bounds) w = (record { pushed = (omega arith, tt); written = omega arith }, (some, w.1.1))
