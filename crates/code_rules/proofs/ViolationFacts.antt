-- Code has one violation, or none and is well formed and within its limits.
use Rattle.std.proofs.Common.{◌≡◌, ℕ, zero, suc, ◌<◌, ◌≤◌, ◌⊎◌, List, [], ◌∷◌, length, Option, Some, None, true, false}
use Rattle.std.proofs.Common.{true≢false, refl, sym, ap, ◌∙◌, ⊎_elim, inl, inr, arith}
use Rattle.std.specs.Prelude.{Bool}
use Rattle.std.proofs.Math.Nat.{eq-or-lt_of_le}
use Rattle.std.proofs.lemmas.Option.{none-some, same_Some, slice_get_past}
use Rattle.std.proofs.lemmas.Bool.{cases_lt}
use Rattle.template_code.specs.Code.{StackCode}
use Rattle.template_code.specs.declared.instr.Instr.{Instr}
use Rattle.code_rules.specs.Table.{TableEntry, IsTable, entry_at}
use Rattle.code_rules.specs.Rules.{nests_to, broken, broken_beyond, broken_where}
use Rattle.code_rules.specs.Verdict.{is_over, is_over_at, or_over, verdict, IsWellFormed, IsWithinLimits, IsViolation}
use Rattle.code_rules.specs.Shown.Laws.{IsBroken}
use Rattle.code_rules.specs.declared.rule.Rule.{Rule}
use Rattle.code_rules.specs.declared.rule.Rule.TheVariants.{V13}
use Rattle.code_rules.proofs.TableFacts.{IsTable-entry_at, over-same, verdict-same, broken-same}

or_over-none : (o : Option Rule) (over : Bool) → or_over o over ≡ None → (o ≡ None) × (over ≡ false)
or_over-none None true h = absurd (none-some V13 (sym h))
or_over-none None false h = (refl, refl)
or_over-none (Some rule) over h = absurd (none-some rule (sym h))

or_over-V13 : (over : Bool) (rule : Rule) → or_over None over ≡ Some rule → V13 ≡ rule
or_over-V13 true rule h = same_Some V13 rule h
or_over-V13 false rule h = absurd (none-some rule h)

beyond : (is : List Instr) (index : ℕ) → broken_beyond is (suc index) ≡ None
beyond [] index = refl
beyond (i ∷ is) index = refl

-- no rule is broken after the last instruction
verdict-past : (code : StackCode) (index : ℕ) (t : ℕ → TableEntry) → length code.instrs ≤ index →
    verdict code t (suc index) ≡ None
verdict-past code index t le =
    ap (λ o. or_over (broken_where code (suc index) (nests_to code t (suc index)) o (t (suc index)))
    (is_over code t (suc index) o))
    (slice_get_past code.instrs (suc index) (omega (arith, le)))
    ∙ ap (λ o. or_over o false) (beyond code.instrs index)

-- the first index at which a judge finds a broken rule, and that rule
abbrev Least : (ℕ → Option Rule) → Type 0
Least judge = (index : ℕ) × (rule : Rule) × (judge index ≡ Some rule)
    × ((earlier : ℕ) → earlier < index → judge earlier ≡ None)

abbrev CleanBefore : (ℕ → Option Rule) → ℕ → Type 0
CleanBefore judge n = (index : ℕ) → index < n → judge index ≡ None

look_at : (judge : ℕ → Option Rule) (n : ℕ) (o : Option Rule) → judge n ≡ o → CleanBefore judge n →
    Least judge ⊎ CleanBefore judge (suc n)
look_at judge n (Some rule) is clean = inl (n, rule, is, clean)
look_at judge n None is clean =
    inr (λ index lt. ⊎_elim (λ e. rw e is) (λ less. clean index less)
    (eq-or-lt_of_le {n = index} {m = n} (omega (arith, lt))))

look : (judge : ℕ → Option Rule) (n : ℕ) → Least judge ⊎ CleanBefore judge n
look judge zero = inr (λ index lt. absurd (omega (arith, lt)))
look judge (suc n) = ⊎_elim inl (λ clean. look_at judge n (judge n) refl clean) (look judge n)

-- a judge that finds nothing after the first n indices
look_all : (judge : ℕ → Option Rule) (n : ℕ) → ((index : ℕ) → n ≤ index → judge index ≡ None) →
    Least judge ⊎ ((index : ℕ) → judge index ≡ None)
look_all judge n past =
    ⊎_elim inl (λ clean.
    inr (λ index. ⊎_elim (λ less. clean index less) (λ le. past index le) (cases_lt index n)))
    (look judge n)

abbrev verdict_of : StackCode → ℕ → Option Rule
verdict_of code index = verdict code (entry_at code) index

abbrev broken_of : StackCode → ℕ → Option Rule
broken_of code index = broken code (entry_at code) index

verdicts_past : (code : StackCode) (index : ℕ) → suc (length code.instrs) ≤ index
    → verdict_of code index ≡ None
verdicts_past code zero le = absurd (omega (arith, le))
verdicts_past code (suc index) le = verdict-past code index (entry_at code) (omega (arith, le))

abbrev pub HasViolation : StackCode → Type 0
HasViolation code = (index : ℕ) × (rule : Rule) × IsViolation code index rule

violation : (code : StackCode) → Least (verdict_of code) → HasViolation code
violation code l = (
  l.0,
  l.1,
  record {
    table = entry_at code;
    follows = IsTable-entry_at code;
    before = l.3;
    here = l.2;
  },
)

unbroken_of : (code : StackCode) → ((index : ℕ) → verdict_of code index ≡ None) → (index : ℕ) →
    broken_of code index ≡ None
unbroken_of code all index = (or_over-none (broken_of code index) (is_over_at code (entry_at code) index) (all index)).0

-- code of which no instruction breaks a rule by its table
pub sound : (code : StackCode) → ((index : ℕ) → broken_of code index ≡ None) → IsWellFormed code
sound code all = record { table = entry_at code; follows = IsTable-entry_at code; unbroken = all }

pub violation_or_accepted : (code : StackCode) → HasViolation code ⊎ (IsWellFormed code × IsWithinLimits code)
violation_or_accepted code =
    ⊎_elim
    (λ l. inl (violation code l))
    (λ all. inr (
      sound code (unbroken_of code all),
      λ index.
          (or_over-none (broken_of code index) (is_over_at code (entry_at code) index) (all index)).1,
    ))
    (look_all (verdict_of code) (suc (length code.instrs)) (verdicts_past code))

broken_past : (code : StackCode) (index : ℕ) → suc (length code.instrs) ≤ index → broken_of code index ≡ None
broken_past code index le = (or_over-none (broken_of code index) (is_over_at code (entry_at code) index)
    (verdicts_past code index le)).0

pub broken_or_formed : (code : StackCode) → IsBroken code ⊎ IsWellFormed code
broken_or_formed code =
    ⊎_elim
    (λ l. inl (entry_at code, IsTable-entry_at code, (l.0, l.1, l.2)))
    (λ all. inr (sound code all))
    (look_all (broken_of code) (suc (length code.instrs)) (broken_past code))

pub broken_not_formed : (code : StackCode) → IsBroken code → IsWellFormed code → ⊥
broken_not_formed code b w =
    none-some b.2.1 (sym (w.unbroken b.2.0) ∙ (broken-same code w.table b.0 w.follows b.1 b.2.0 ∙ b.2.2))

-- what a violation says of another table
here-by : (code : StackCode) (index : ℕ) (rule : Rule) → IsViolation code index rule → (t : ℕ → TableEntry) →
    IsTable code t → verdict code t index ≡ Some rule
here-by code index rule f t b = verdict-same code t f.table b f.follows index ∙ f.here

-- the only violation of well-formed code is that of V13
pub violation-V13 : (code : StackCode) (index : ℕ) (rule : Rule) → IsViolation code index rule →
    IsWellFormed code → (rule ≡ V13) × (is_over_at code (entry_at code) index ≡ true)
violation-V13 code index rule f w =
    let o = over_is (is_over_at code w.table index)
    (sym (ap (λ o. or_over o (is_over_at code w.table index)) (w.unbroken index))
    ∙ here-by code index rule f w.table w.follows) in
    (o.0, over-same code (entry_at code) w.table (IsTable-entry_at code) w.follows index ∙ o.1)
  where
    over_is : (over : Bool) → or_over None over ≡ Some rule → (rule ≡ V13) × (over ≡ true)
    over_is true h = (sym (same_Some V13 rule h), refl)
    over_is false h = absurd (none-some rule h)

pub never_both : (code : StackCode) (index : ℕ) (rule : Rule) → IsViolation code index rule →
    IsWellFormed code → IsWithinLimits code → ⊥
never_both code index rule f w l = absurd (true≢false (sym (violation-V13 code index rule f w).1 ∙ l index))

earlier_none : (code : StackCode) (p q : ℕ) (r s : Rule) → IsViolation code p r
    → IsViolation code q s → p < q → ⊥
earlier_none code p q r s f g less = none-some r (sym (g.before p less) ∙ here-by code p r f g.table g.follows)

pub one_violation : (code : StackCode) (p q : ℕ) (r s : Rule) → IsViolation code p r → IsViolation code q s →
    (p ≡ q) × (r ≡ s)
one_violation code p q r s f g =
    ⊎_elim
    (λ less. absurd (earlier_none code p q r s f g less))
    (λ le. ⊎_elim
    (λ e. (
      sym e,
      same_Some r s (sym (here-by code p r f f.table f.follows)
          ∙ (ap (λ n. verdict code f.table n) (sym e) ∙ here-by code q s g f.table f.follows)),
    ))
    (λ less. absurd (earlier_none code q p s r g f less))
    (eq-or-lt_of_le {n = q} {m = p} le))
    (cases_lt p q)
