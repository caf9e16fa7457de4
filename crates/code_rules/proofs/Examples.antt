-- Worked examples of code without loops, which the checker computes.
use Rattle.std.specs.Prelude.{◌≡◌, ℕ, zero, suc, List, [], ◌∷◌, ◌++◌, replicate, Option, Some, None, codes, pos}
use Rattle.std.proofs.Common.{refl, sym, ap, length, ◌^◌, ◌-◌, Bool, true, false, true≢false}
use Rattle.data_tree.specs.Tree.{Tree, text, nothing}
use Rattle.helper_set.specs.Values.{a_datum}
use Rattle.helper_set.specs.declared.helper.Helper.TheVariants.{Not}
use Rattle.template_code.specs.Code.{StackCode}
use Rattle.template_code.specs.Machine.{advance, first, IsTrap, State, Runs}
use Rattle.template_code.specs.declared.instr.Instr.{Instr}
use Rattle.template_code.specs.declared.instr.Instr.TheVariants.{Emit, Root, Text, Number, Truth, Show, Test, Call}
use Rattle.template_code.specs.declared.instr.Instr.TheVariants.{Print, Jump, Branch, Halt}
use Rattle.template_code.specs.declared.limits.TheConstants.{MAX_INSTRUCTIONS}
use Rattle.code_rules.specs.Polynomial.{as_printed}
use Rattle.code_rules.specs.Table.{TableEntry, entry_at}
use Rattle.code_rules.specs.Rules.{broken_by}
use Rattle.code_rules.specs.Regions.{budget}
use Rattle.code_rules.specs.Verdict.{verdict}
use Rattle.code_rules.specs.declared.rule.Rule.{Rule}
use Rattle.code_rules.specs.declared.rule.Rule.TheVariants.{V1, V2, V3, V5, V6, V7, V8, V12, V13}

-- with one empty path and one empty text in the tables
abbrev pub with_tables : List Instr → StackCode
with_tables is = record { instrs = is; texts = [] ∷ []; paths = [] ∷ [] }

abbrev pub judged : List Instr → ℕ → Option Rule
judged is index = verdict (with_tables is) (entry_at (with_tables is)) index

-- the verdicts at the first n indices
abbrev pub verdicts : List Instr → ℕ → List (Option Rule)
verdicts is zero = []
verdicts is (suc n) = verdicts is n ++ judged is n ∷ []

abbrev one_value : StackCode
one_value = with_tables (Root 0 ∷ Show ∷ Print ∷ Halt ∷ [])

budget_of_one_value : budget one_value ≡ record { steps = 4 ∷ []; bytes = 0 ∷ 1 ∷ [] }
budget_of_one_value = refl

run_of_one_value : Runs one_value (text (codes "Ann")) 4 (codes "Ann")
run_of_one_value = (record { index = 3; stack = []; loops = []; output = codes "Ann" }, (3, refl, refl, refl), refl)

abbrev hello : StackCode
hello = record {
  instrs = Emit 0 ∷ Root 0 ∷ Show ∷ Print ∷ Halt ∷ [];
  texts = codes "Hello " ∷ [];
  paths = [] ∷ [];
}

budget_of_hello : budget hello ≡ record { steps = 5 ∷ []; bytes = 6 ∷ 1 ∷ [] }
budget_of_hello = refl

-- the empty template
budget_of_nothing : budget (with_tables (Halt ∷ [])) ≡ record { steps = 1 ∷ []; bytes = [] }
budget_of_nothing = refl

printed_of_nothing : as_printed (budget (with_tables (Halt ∷ []))).bytes ≡ 0 ∷ []
printed_of_nothing = refl

abbrev is_halt : Option Instr → Bool
is_halt None = false
is_halt (Some Halt) = true
is_halt (Some i) = false

-- a value isn't a text: no step at 1
abbrev unshown : StackCode
unshown = with_tables (Root 0 ∷ Print ∷ Halt ∷ [])

trap_of_unshown : (root : Tree) → (s : State) × (advance unshown root 1 first ≡ Some s) × (s.index ≡ 1)
    × IsTrap unshown root s
trap_of_unshown root = (
  record { index = 1; stack = a_datum root ∷ []; loops = []; output = [] },
  refl,
  refl,
  (refl, λ h. true≢false (sym (ap is_halt h))),
)

-- after the last instruction there is no step
abbrev endless : StackCode
endless = with_tables (Emit 0 ∷ [])

trap_of_endless : (root : Tree) → (s : State) × (advance endless root 1 first ≡ Some s) × (s.index ≡ 1)
    × IsTrap endless root s
trap_of_endless root = (
  record { index = 1; stack = []; loops = []; output = [] },
  refl,
  refl,
  (refl, λ h. true≢false (sym (ap is_halt h))),
)

-- accepted: no verdict at any index, nor after the last instruction
one_value_accepted : verdicts (Root 0 ∷ Show ∷ Print ∷ Halt ∷ []) 5
    ≡ None ∷ None ∷ None ∷ None ∷ None ∷ []
one_value_accepted = refl

halt_accepted : verdicts (Halt ∷ []) 2 ≡ None ∷ None ∷ []
halt_accepted = refl

slots_32_accepted : verdicts (replicate 32 (Root 0) ++ (Show ∷ [])) 33 ≡ replicate 32 None ++ Some V12 ∷ []
slots_32_accepted = refl

no_code : verdicts [] 2 ≡ Some V1 ∷ None ∷ []
no_code = refl

-- whatever the instruction is
index_4096 : (code : StackCode) (sources : List (List ℕ)) (i : Instr) (e : TableEntry) →
    broken_by code MAX_INSTRUCTIONS sources i e ≡ Some V1
index_4096 code sources i e = refl

text_past_the_table : verdicts (Emit 1 ∷ Halt ∷ []) 1 ≡ Some V2 ∷ []
text_past_the_table = refl

path_past_the_table : verdicts (Root 1 ∷ Halt ∷ []) 1 ≡ Some V2 ∷ []
path_past_the_table = refl

nothing_to_print : verdicts (Print ∷ Halt ∷ []) 1 ≡ Some V5 ∷ []
nothing_to_print = refl

nothing_to_show : verdicts (Show ∷ Halt ∷ []) 1 ≡ Some V5 ∷ []
nothing_to_show = refl

print_of_data : verdicts (Root 0 ∷ Print ∷ Halt ∷ []) 2 ≡ None ∷ Some V6 ∷ []
print_of_data = refl

show_of_text : verdicts (Root 0 ∷ Show ∷ Show ∷ Halt ∷ []) 3 ≡ None ∷ None ∷ Some V6 ∷ []
show_of_text = refl

slot_33 : verdicts (replicate 33 (Root 0) ++ Halt ∷ []) 33 ≡ replicate 32 None ++ Some V7 ∷ []
slot_33 = refl

slot_left : verdicts (Root 0 ∷ Halt ∷ []) 2 ≡ None ∷ Some V8 ∷ []
slot_left = refl

no_end : verdicts (Emit 0 ∷ []) 1 ≡ Some V12 ∷ []
no_end = refl

early_end : verdicts (Halt ∷ Halt ∷ []) 1 ≡ Some V12 ∷ []
early_end = refl

-- where one instruction breaks several rules the first is reported
path_before_end : verdicts (Root 1 ∷ []) 1 ≡ Some V2 ∷ []
path_before_end = refl

missing_before_end : verdicts (Print ∷ []) 1 ≡ Some V5 ∷ []
missing_before_end = refl

kind_before_end : verdicts (Root 0 ∷ Print ∷ []) 2 ≡ None ∷ Some V6 ∷ []
kind_before_end = refl

slot_33_before_end : verdicts (replicate 33 (Root 0)) 33 ≡ replicate 32 None ++ Some V7 ∷ []
slot_33_before_end = refl

left_before_end : verdicts (Root 0 ∷ Halt ∷ Halt ∷ []) 2 ≡ None ∷ Some V8 ∷ []
left_before_end = refl

-- the kind of the top is judged, whatever lies below it
text_below_data : verdicts (Root 0 ∷ Show ∷ Root 0 ∷ Print ∷ Halt ∷ []) 4
    ≡ None ∷ None ∷ None ∷ Some V6 ∷ []
text_below_data = refl

-- a text that is one byte too long for a budget, and one that just fits
abbrev one_text : List ℕ → StackCode
one_text bytes = record { instrs = Emit 0 ∷ Halt ∷ []; texts = bytes ∷ []; paths = [] }

too_long : (bytes : List ℕ) → length bytes ≡ 2 ^ 63 → verdict (one_text bytes) (entry_at (one_text bytes)) 0
    ≡ Some V13
too_long bytes h = rw h refl

just_fits : (bytes : List ℕ) → length bytes ≡ 2 ^ 63 - 1 →
    verdict (one_text bytes) (entry_at (one_text bytes)) 0 ≡ None
just_fits bytes h = rw h refl

-- at the last index V12 comes before V13
abbrev without_end : List ℕ → StackCode
without_end bytes = record { instrs = Emit 0 ∷ []; texts = bytes ∷ []; paths = [] }

too_long_at_the_end : (bytes : List ℕ) → length bytes ≡ 2 ^ 63 →
    verdict (without_end bytes) (entry_at (without_end bytes)) 0 ≡ Some V12
too_long_at_the_end bytes h = refl

-- two that fit, of which the second takes the budget over the limit
abbrev two_texts : List ℕ → StackCode
two_texts bytes = record { instrs = Emit 0 ∷ Emit 0 ∷ Halt ∷ []; texts = bytes ∷ []; paths = [] }

first_fits : (bytes : List ℕ) → length bytes ≡ 2 ^ 62 → verdict (two_texts bytes) (entry_at (two_texts bytes)) 0
    ≡ None
first_fits bytes h = rw h refl

second_is_too_much : (bytes : List ℕ) → length bytes ≡ 2 ^ 62 →
    verdict (two_texts bytes) (entry_at (two_texts bytes)) 1 ≡ Some V13
second_is_too_much bytes h = rw h refl

-- a jump goes to a later instruction of the code
jump_to_itself : verdicts (Jump 0 ∷ Halt ∷ []) 1 ≡ Some V3 ∷ []
jump_to_itself = refl

jump_back : verdicts (Root 0 ∷ Show ∷ Print ∷ Jump 1 ∷ Halt ∷ []) 5
    ≡ None ∷ None ∷ None ∷ Some V3 ∷ None ∷ []
jump_back = refl

jump_past_the_end : verdicts (Jump 2 ∷ Halt ∷ []) 1 ≡ Some V3 ∷ []
jump_past_the_end = refl

branch_past_the_end : verdicts (Truth true ∷ Branch 3 ∷ Halt ∷ []) 2 ≡ None ∷ Some V3 ∷ []
branch_past_the_end = refl

jump_at_the_end : verdicts (Jump 1 ∷ []) 1 ≡ Some V3 ∷ []
jump_at_the_end = refl

-- the instruction after a jump is judged too, with an empty stack
print_after_a_jump : verdicts (Jump 2 ∷ Print ∷ Halt ∷ []) 3 ≡ None ∷ Some V5 ∷ None ∷ []
print_after_a_jump = refl

slot_left_at_a_jump : verdicts (Root 0 ∷ Jump 2 ∷ Halt ∷ []) 3 ≡ None ∷ Some V8 ∷ None ∷ []
slot_left_at_a_jump = refl

slot_left_after_a_branch
    : verdicts (Root 0 ∷ Truth true ∷ Branch 3 ∷ Halt ∷ []) 3 ≡ None ∷ None ∷ Some V8 ∷ []
slot_left_after_a_branch = refl

-- a slot where a jump goes to
slot_at_a_target : verdicts (Truth true ∷ Branch 3 ∷ Root 0 ∷ Show ∷ Print ∷ Halt ∷ []) 4
    ≡ None ∷ None ∷ None ∷ Some V8 ∷ []
slot_at_a_target = refl

branch_of_data : verdicts (Root 0 ∷ Branch 2 ∷ Halt ∷ []) 2 ≡ None ∷ Some V6 ∷ []
branch_of_data = refl

not_of_text : verdicts (Text 0 ∷ Call Not ∷ Halt ∷ []) 2 ≡ None ∷ Some V6 ∷ []
not_of_text = refl

text_that_is_not_there : verdicts (Text 1 ∷ Halt ∷ []) 1 ≡ Some V2 ∷ []
text_that_is_not_there = refl

-- a text that is written where a value counts as false
abbrev unless_value : StackCode
unless_value = with_tables (Root 0 ∷ Test ∷ Call Not ∷ Branch 5 ∷ Emit 0 ∷ Halt ∷ [])

unless_value_accepted : verdicts unless_value.instrs 7 ≡ replicate 7 None
unless_value_accepted = refl

-- a branch over a text, whose bytes count whether it is written or not
abbrev over_a_text : StackCode
over_a_text = record {
  instrs = Truth true ∷ Branch 3 ∷ Emit 0 ∷ Halt ∷ [];
  texts = codes "abc" ∷ [];
  paths = [];
}

over_a_text_accepted : verdict over_a_text (entry_at over_a_text) 1 ≡ None
over_a_text_accepted = refl

budget_over_a_text : budget over_a_text ≡ record { steps = 4 ∷ []; bytes = 3 ∷ [] }
budget_over_a_text = refl

run_over_a_text : Runs over_a_text nothing 4 (codes "abc")
run_over_a_text = (record { index = 3; stack = []; loops = []; output = codes "abc" }, (3, refl, refl, refl), refl)

-- where a value counts as true, two bytes and the value, else four bytes
abbrev if_value : StackCode
if_value = record {
  instrs = Root 0 ∷ Test ∷ Branch 8 ∷ Emit 0 ∷ Root 1 ∷ Show ∷ Print ∷ Jump 9 ∷ Emit 1 ∷ Halt ∷ [];
  texts = codes "Q=" ∷ codes "none" ∷ [];
  paths = [] ∷ [] ∷ [];
}

abbrev pub judged_to : StackCode → ℕ → List (Option Rule)
judged_to code zero = []
judged_to code (suc n) = judged_to code n ++ verdict code (entry_at code) n ∷ []

if_value_accepted : judged_to if_value 11 ≡ replicate 11 None
if_value_accepted = refl

budget_of_if_value : as_printed (budget if_value).steps ≡ 10 ∷ []
budget_of_if_value = refl

bytes_of_if_value : as_printed (budget if_value).bytes ≡ 6 ∷ 1 ∷ []
bytes_of_if_value = refl

run_where_true : Runs if_value (text (codes "a")) 9 (codes "Q=a")
run_where_true = (record { index = 9; stack = []; loops = []; output = codes "Q=a" }, (8, refl, refl, refl), refl)

run_where_false : Runs if_value nothing 5 (codes "none")
run_where_false = (record { index = 9; stack = []; loops = []; output = codes "none" }, (4, refl, refl, refl), refl)

-- a literal number has the bound of any number
bytes_of_a_number : as_printed (budget (with_tables (Number (pos 5) ∷ Show ∷ Print ∷ Halt ∷ []))).bytes
    ≡ 20 ∷ []
bytes_of_a_number = refl

bytes_of_a_truth : as_printed (budget (with_tables (Root 0 ∷ Test ∷ Show ∷ Print ∷ Halt ∷ []))).bytes
    ≡ 5 ∷ []
bytes_of_a_truth = refl
