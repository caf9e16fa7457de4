-- Code as a course of places with loops round them; so the nests of its table are those of a course.
use Rattle.std.proofs.Common.{◌≡◌, ℕ, zero, suc, List, ◌∷◌, length, Option, Some, None, refl, sym, ap, ◌∙◌}
use Rattle.std.specs.Prelude.{slice_get, Bool}
use Rattle.code_rules.specs.Inner.Course.{Cost, Bracket, level, opens_over_part, opens_over_data, ends, Course, nothing}
use Rattle.code_rules.specs.Inner.Course.{nest}
use Rattle.code_rules.proofs.Courses.Nests.{opened-from}
use Rattle.template_code.specs.Code.{StackCode}
use Rattle.template_code.specs.Instructions.{flow}
use Rattle.template_code.specs.declared.flow.Flow.{Flow}
use Rattle.template_code.specs.declared.instr.Instr.{Instr}
use Rattle.code_rules.specs.Costs.{goes_over_part}
use Rattle.code_rules.specs.Table.{nest_after, entry_at}
use Rattle.code_rules.specs.Inner.Course as course

abbrev pub opening : Bool → Bracket
opening Bool.true = opens_over_part
opening Bool.false = opens_over_data

abbrev pub bracket_by : Flow → Bool → Bracket
bracket_by (Flow.Open a) is_part = opening is_part
bracket_by (Flow.Close a) is_part = ends
bracket_by f is_part = level

abbrev pub bracket_of : StackCode → ℕ → Option Instr → Bracket
bracket_of code index None = level
bracket_of code index (Some i) = bracket_by (flow i) (goes_over_part code index)

-- the course of code, at a size of all data, where its instructions cost that
abbrev pub course_of : StackCode → ℕ → (ℕ → Cost) → Course
course_of code n cost = record {
  places = length code.instrs;
  size = n;
  bracket = λ index. bracket_of code index (slice_get code.instrs index);
  cost = cost;
}

after-opening : (is_part : Bool) (index : ℕ) (ns : List ℕ) →
    course.nest_after (opening is_part) index ns ≡ index ∷ ns
after-opening Bool.true index ns = refl
after-opening Bool.false index ns = refl

after-by : (f : Flow) (is_part : Bool) (index : ℕ) (ns : List ℕ) →
    course.nest_after (bracket_by f is_part) index ns ≡ nest_after f index ns
after-by Flow.Straight is_part index ns = refl
after-by (Flow.Jump a) is_part index ns = refl
after-by (Flow.Branch a) is_part index ns = refl
after-by (Flow.Open a) is_part index ns = after-opening is_part index ns
after-by (Flow.Close a) is_part index ns = refl
after-by Flow.End is_part index ns = refl

-- the nests of its table are those of the course
pub same-nests : (code : StackCode) (n : ℕ) (cost : ℕ → Cost) (index : ℕ) →
    nest (course_of code n cost) index ≡ (entry_at code index).nest
same-nests code n cost zero = refl
same-nests code n cost (suc index) = by (slice_get code.instrs index) refl (same-nests code n cost index)
  where
    by : (o : Option Instr) → slice_get code.instrs index ≡ o →
        nest (course_of code n cost) index ≡ (entry_at code index).nest →
        nest (course_of code n cost) (suc index) ≡ (entry_at code (suc index)).nest
    by None e same = rw e same
    by (Some i) e same =
        rw e (after-by (flow i) (goes_over_part code index) index (nest (course_of code n cost) index)
        ∙ ap (nest_after (flow i) index) same)

-- the nest at the `Each` of the innermost loop is that of the loops round it
pub opener-nest : (code : StackCode) (index opener : ℕ) (outer : List ℕ) →
    (entry_at code index).nest ≡ opener ∷ outer → (entry_at code opener).nest ≡ outer
opener-nest code index opener outer at =
    sym (same-nests code 0 (λ i. nothing) opener)
    ∙ opened-from (course_of code 0 (λ i. nothing)) index opener outer
    (same-nests code 0 (λ i. nothing) index ∙ at)
