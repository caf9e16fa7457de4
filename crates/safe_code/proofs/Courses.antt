-- Code as a course, where each instruction costs its steps or its bytes at a size n of all data: so the budget of
-- code at
-- n is that of the course.
use Rattle.std.proofs.Common.{◌≡◌, ℕ, zero, suc, Bool, true, false, List, [], ◌∷◌, length}
use Rattle.std.proofs.Common.{Option, Some, None, refl, sym, ap, ◌∙◌}
use Rattle.std.specs.Prelude.{slice_get, if◌then◌else◌}
use Rattle.code_rules.specs.Inner.Course as course
use Rattle.code_rules.specs.Inner.Course.{Course}
use Rattle.template_code.specs.Code.{StackCode}
use Rattle.template_code.specs.Instructions.{flow}
use Rattle.template_code.specs.declared.flow.Flow.{Flow}
use Rattle.template_code.specs.declared.instr.Instr.{Instr}
use Rattle.code_rules.specs.Polynomial.{plus, value}
use Rattle.code_rules.specs.Bounds.{Bound, plus_bound, of_turns}
use Rattle.code_rules.specs.Costs.{goes_over_part, Cost, no_cost, plus_cost, cost_of_turns, cost_at}
use Rattle.code_rules.specs.Table.{nest_after, entry_at}
use Rattle.code_rules.specs.Rules.{same_nest}
use Rattle.code_rules.specs.Regions.{share, region, budget}
use Rattle.code_rules.proofs.NestFacts.{opening, bracket_of, course_of, same-nests}
use Rattle.code_rules.proofs.PolynomialFacts.{value-plus, value-times_size}

-- a loop opens there
pub record Opens (code : StackCode) (index : ℕ) : Type 0 where
  pub instr : Instr
  pub target : ℕ
  pub here : slice_get code.instrs index ≡ Some instr
  pub opens : flow instr ≡ Flow.Open target

abbrev pub AllOpen : StackCode → List ℕ → Type 0
AllOpen code [] = Unit {0}
AllOpen code (o ∷ ns) = Opens code o × AllOpen code ns

opened-after : (code : StackCode) (index : ℕ) (i : Instr) (f : Flow) (ns : List ℕ) →
    slice_get code.instrs index ≡ Some i → flow i ≡ f → AllOpen code ns → AllOpen code (nest_after f index ns)
opened-after code index i Flow.Straight ns is e h = h
opened-after code index i (Flow.Jump a) ns is e h = h
opened-after code index i (Flow.Branch a) ns is e h = h
opened-after code index i (Flow.Open a) ns is e h = (record { instr = i; target = a; here = is; opens = e }, h)
opened-after code index i (Flow.Close a) [] is e h = tt
opened-after code index i (Flow.Close a) (o ∷ ns) is e h = h.1
opened-after code index i Flow.End ns is e h = h

-- the loops of a nest open where it says
pub all-open : (code : StackCode) (index : ℕ) → AllOpen code (entry_at code index).nest
all-open code zero = tt
all-open code (suc index) = by (all-open code index) (slice_get code.instrs index) refl
  where
    by : AllOpen code (entry_at code index).nest → (o : Option Instr) → slice_get code.instrs index ≡ o →
        AllOpen code (entry_at code (suc index)).nest
    by before None e = rw e before
    by before (Some i) e = rw e (opened-after code index i (flow i) (entry_at code index).nest e refl before)

-- a bound at n
abbrev pub cost_as : ℕ → Bound → course.Cost
cost_as n b = record { alone = value b.alone n; per = value b.per n }

-- a part of a cost: its steps or its bytes
pub record IsPart (part : Cost → Bound) : Type 0 where
  pub none : part no_cost ≡ record { alone = []; per = [] }
  pub sum : (c d : Cost) → part (plus_cost c d) ≡ plus_bound (part c) (part d)
  pub turns : (b : Bool) (c : Cost) → part (cost_of_turns b c) ≡ of_turns b (part c)

is-steps : IsPart (λ c. c.steps)
is-steps = record { none = refl; sum = λ c d. refl; turns = λ b c. refl }

is-bytes : IsPart (λ c. c.bytes)
is-bytes = record { none = refl; sum = λ c d. refl; turns = λ b c. refl }

abbrev pub course_by : (Cost → Bound) → StackCode → ℕ → Course
course_by part code n = course_of code n (λ index. cost_as n (part (cost_at code index)))

abbrev pub steps_course : StackCode → ℕ → Course
steps_course code n = course_by (λ c. c.steps) code n

abbrev pub bytes_course : StackCode → ℕ → Course
bytes_course code n = course_by (λ c. c.bytes) code n

plus-as : (n : ℕ) (b c : Bound) → course.plus (cost_as n b) (cost_as n c) ≡ cost_as n (plus_bound b c)
plus-as n b c = rw (value-plus b.alone c.alone n, value-plus b.per c.per n) refl

turns-as : (n : ℕ) (is_part : Bool) (b : Bound) →
    course.of_turns n (opening is_part) (cost_as n b) ≡ cost_as n (of_turns is_part b)
turns-as n true b = rw (value-plus b.alone b.per n) refl
turns-as n false b = rw (value-times_size (plus b.alone b.per) n, value-plus b.alone b.per n) refl

opens-bracket : (code : StackCode) (o : ℕ) → Opens code o →
    bracket_of code o (slice_get code.instrs o) ≡ opening (goes_over_part code o)
opens-bracket code o h = rw (h.here, h.opens) refl

either-as : (n : ℕ) (b : Bool) (x y : Bound) (p q : course.Cost) → p ≡ cost_as n x → q ≡ cost_as n y →
    (if b then p else q) ≡ cost_as n (if b then x else y)
either-as n true x y p q e f = e
either-as n false x y p q e f = f

module _ (part : Cost → Bound) (is : IsPart part) (code : StackCode) (n : ℕ) where
  abbrev whole : Course
  whole = course_by part code n

  part-either : (b : Bool) (c d : Cost) → part (if b then c else d) ≡ (if b then part c else part d)
  part-either true c d = refl
  part-either false c d = refl

  none-as : course.nothing ≡ cost_as n (part no_cost)
  none-as = sym (ap (cost_as n) is.none)

  turned-as : (o : ℕ) (c : Cost) → Opens code o →
      course.of_turns n (bracket_of code o (slice_get code.instrs o)) (cost_as n (part c))
      ≡ cost_as n (part (cost_of_turns (goes_over_part code o) c))
  turned-as o c h =
      ap (λ b. course.of_turns n b (cost_as n (part c))) (opens-bracket code o h)
      ∙ (turns-as n (goes_over_part code o) (part c) ∙ ap (cost_as n) (sym (is.turns (goes_over_part code o) c)))

  share-as : (outer ns : List ℕ) (c : Cost) → AllOpen code ns →
      course.share whole outer ns (cost_as n (part c)) ≡ cost_as n (part (share code outer ns c))
  share-as outer [] c h =
      either-as n (same_nest outer []) (part c) (part no_cost) (cost_as n (part c)) course.nothing refl none-as
      ∙ ap (cost_as n) (sym (part-either (same_nest outer []) c no_cost))
  share-as outer (o ∷ ns) c h =
      let turned = cost_of_turns (goes_over_part code o) c in
      either-as n (same_nest outer (o ∷ ns)) (part c) (part (share code outer ns turned)) (cost_as n (part c))
      (course.share whole outer ns
      (course.of_turns n (bracket_of code o (slice_get code.instrs o)) (cost_as n (part c)))) refl
      (ap (course.share whole outer ns) (turned-as o c h.0) ∙ share-as outer ns turned h.1)
      ∙ ap (cost_as n) (sym (part-either (same_nest outer (o ∷ ns)) c (share code outer ns turned)))

  region-as : (outer : List ℕ) (index : ℕ) →
      course.region whole outer index ≡ cost_as n (part (region code (entry_at code) outer index))
  region-as outer zero = none-as
  region-as outer (suc index) =
      let before = region code (entry_at code) outer index in
      let own = share code outer (entry_at code index).nest (cost_at code index) in
      ap (λ ns. course.plus (course.region whole outer index)
      (course.share whole outer ns (cost_as n (part (cost_at code index)))))
      (same-nests code n (λ k. cost_as n (part (cost_at code k))) index)
      ∙ (ap (λ c. course.plus c (course.share whole outer (entry_at code index).nest
      (cost_as n (part (cost_at code index))))) (region-as outer index)
      ∙ (ap (course.plus (cost_as n (part before)))
      (share-as outer (entry_at code index).nest (cost_at code index) (all-open code index))
      ∙ (plus-as n (part before) (part own) ∙ ap (cost_as n) (sym (is.sum before own)))))

pub steps-budget : (code : StackCode) (n : ℕ) →
    (course.budget (steps_course code n)).alone ≡ value (budget code).steps n
steps-budget code n =
    ap (λ (c : course.Cost). c.alone) (region-as (λ c. c.steps) is-steps code n [] (length code.instrs))

pub bytes-budget : (code : StackCode) (n : ℕ) →
    (course.budget (bytes_course code n)).alone ≡ value (budget code).bytes n
bytes-budget code n =
    ap (λ (c : course.Cost). c.alone) (region-as (λ c. c.bytes) is-bytes code n [] (length code.instrs))
