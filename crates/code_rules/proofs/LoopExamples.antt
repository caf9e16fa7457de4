-- Worked examples of loops, escapes, and of costs that are too large, which the checker computes.
use Rattle.std.specs.Prelude.{◌≡◌, ℕ, List, [], ◌∷◌, ◌++◌, replicate, Some, None, codes}
use Rattle.std.specs.Fmt.{digits}
use Rattle.std.proofs.Common.{refl, length, ◌^◌, true}
use Rattle.data_tree.specs.Tree.{Tree, text, nothing, list, fields, no_items, item, no_members, member}
use Rattle.data_tree.specs.declared.step.Step.TheVariants as steps
use Rattle.helper_set.specs.declared.helper.Helper.TheVariants.{Upper, Not, Base64, UrlEncode, DefaultIfEmpty}
use Rattle.template_code.specs.Code.{StackCode}
use Rattle.helper_set.specs.Escape.{html_escaped}
use Rattle.template_code.specs.Machine.{Runs}
use Rattle.template_code.specs.declared.instr.Instr.{Instr}
use Rattle.template_code.specs.declared.instr.Instr.TheVariants.{Emit, Root, Item, Index, Key, First, Last, Text}
use Rattle.template_code.specs.declared.instr.Instr.TheVariants.{Truth, Show, Call, Escape, Print, Jump, Branch}
use Rattle.template_code.specs.declared.instr.Instr.TheVariants.{Each, Next, Halt}
use Rattle.code_rules.specs.Table.{entry_at}
use Rattle.code_rules.specs.Regions.{budget}
use Rattle.code_rules.specs.Verdict.{verdict}
use Rattle.code_rules.specs.Shown.Laws.{coarse_budget}
use Rattle.code_rules.specs.declared.rule.Rule.TheVariants.{V3, V4, V6, V8, V9, V10, V11, V13}
use Rattle.code_rules.proofs.Examples.{with_tables, judged, verdicts, judged_to}

-- a list of two texts, and an object of one name and one text
abbrev a_and_b : Tree
a_and_b = list (item (text (codes "a")) (item (text (codes "b")) no_items))

abbrev named_b : Tree
named_b = fields (member (codes "b") (text (codes "x")) no_members)

-- each item and a comma
abbrev each_item : StackCode
each_item = record {
  instrs = Root 0 ∷ Each 7 ∷ Item 0 0 ∷ Show ∷ Print ∷ Emit 0 ∷ Next 2 ∷ Halt ∷ [];
  texts = codes "," ∷ [];
  paths = [] ∷ [];
}

each_item_accepted : judged_to each_item 9 ≡ replicate 9 None
each_item_accepted = refl

budget_of_each_item : budget each_item ≡ record { steps = 3 ∷ 5 ∷ []; bytes = 0 ∷ 2 ∷ [] }
budget_of_each_item = refl

coarse_budget_of_each_item : coarse_budget each_item ≡ record { steps = 3 ∷ 5 ∷ []; bytes = 0 ∷ 1 ∷ 1 ∷ [] }
coarse_budget_of_each_item = refl

run_of_each_item : Runs each_item a_and_b 13 (codes "a,b,")
run_of_each_item = (
  record { index = 7; stack = []; loops = []; output = codes "a,b," },
  (12, refl, refl, refl),
  refl,
)

run_of_no_item : Runs each_item nothing 3 []
run_of_no_item = (record { index = 7; stack = []; loops = []; output = [] }, (2, refl, refl, refl), refl)

-- the index of each item, a colon and the item, with a semicolon between them; or a text where there is no item
abbrev each_index : StackCode
each_index = record {
  instrs =
      Root 0 ∷ Each 15 ∷ Index 0 ∷ Show ∷ Print ∷ Emit 0 ∷ Item 0 0 ∷ Show ∷ Print ∷ Last 0
      ∷ Call Not ∷ Branch 13
      ∷ Emit 1 ∷ Next 2 ∷ Jump 16 ∷ Emit 2 ∷ Halt ∷ [];
  texts = codes ":" ∷ codes ";" ∷ codes "none" ∷ [];
  paths = [] ∷ [];
}

each_index_accepted : judged_to each_index 18 ≡ replicate 18 None
each_index_accepted = refl

budget_of_each_index : budget each_index ≡ record { steps = 5 ∷ 12 ∷ []; bytes = 4 ∷ 23 ∷ [] }
budget_of_each_index = refl

coarse_bytes_of_each_index : (coarse_budget each_index).bytes ≡ 4 ∷ 22 ∷ 1 ∷ []
coarse_bytes_of_each_index = refl

run_of_each_index : Runs each_index a_and_b 27 (codes "0:a;1:b")
unfolding digits
run_of_each_index = (
  record { index = 16; stack = []; loops = []; output = codes "0:a;1:b" },
  (26, refl, refl, refl),
  refl,
)

run_of_no_index : Runs each_index nothing 4 (codes "none")
run_of_no_index = (
  record { index = 16; stack = []; loops = []; output = codes "none" },
  (3, refl, refl, refl),
  refl,
)

-- the item of an outer loop and that of an inner one, over two lists of the root
abbrev each_pair : StackCode
each_pair = record {
  instrs =
      Root 0 ∷ Each 13 ∷ Root 1 ∷ Each 12 ∷ Item 1 2 ∷ Show ∷ Print ∷ Item 0 2 ∷ Show ∷ Print
      ∷ Emit 0 ∷ Next 4
      ∷ Next 2 ∷ Halt ∷ [];
  texts = codes " " ∷ [];
  paths = (steps.Name (codes "a") ∷ []) ∷ (steps.Name (codes "b") ∷ []) ∷ [] ∷ [];
}

abbrev two_lists : Tree
two_lists =
    fields (member (codes "a") (list (item (text (codes "1")) (item (text (codes "2")) no_items)))
    (member (codes "b") (list (item (text (codes "x")) no_items)) no_members))

each_pair_accepted : judged_to each_pair 15 ≡ replicate 15 None
each_pair_accepted = refl

budget_of_each_pair : budget each_pair ≡ record { steps = 3 ∷ 3 ∷ 8 ∷ []; bytes = 0 ∷ 0 ∷ 2 ∷ 1 ∷ [] }
budget_of_each_pair = refl

coarse_bytes_of_each_pair : (coarse_budget each_pair).bytes ≡ 0 ∷ 0 ∷ 1 ∷ 2 ∷ []
coarse_bytes_of_each_pair = refl

run_of_each_pair : Runs each_pair two_lists 25 (codes "1x 2x ")
run_of_each_pair = (
  record { index = 13; stack = []; loops = []; output = codes "1x 2x " },
  (24, refl, refl, refl),
  refl,
)

-- a loop over each item of a loop: all of it together is no more than the data
abbrev each_part : StackCode
each_part = record {
  instrs = Root 0 ∷ Each 9 ∷ Item 0 1 ∷ Each 8 ∷ Item 0 1 ∷ Show ∷ Print ∷ Next 4
      ∷ Next 2 ∷ Halt ∷ [];
  texts = [];
  paths = [] ∷ [] ∷ [];
}

each_part_accepted : judged_to each_part 11 ≡ replicate 11 None
each_part_accepted = refl

budget_of_each_part : budget each_part ≡ record { steps = 3 ∷ 7 ∷ []; bytes = 0 ∷ 1 ∷ [] }
budget_of_each_part = refl

coarse_budget_of_each_part
    : coarse_budget each_part ≡ record { steps = 3 ∷ 3 ∷ 4 ∷ []; bytes = 0 ∷ 0 ∷ 0 ∷ 1 ∷ [] }
coarse_budget_of_each_part = refl

run_of_each_part : Runs each_part (fields (member (codes "q") a_and_b no_members)) 14 (codes "ab")
run_of_each_part = (
  record { index = 9; stack = []; loops = []; output = codes "ab" },
  (13, refl, refl, refl),
  refl,
)

-- three loops in one another, each over the root, and a text
abbrev three_loops : StackCode
three_loops = record {
  instrs = Root 0 ∷ Each 10 ∷ Root 0 ∷ Each 9 ∷ Root 0 ∷ Each 8 ∷ Emit 0 ∷ Next 6 ∷ Next 4
      ∷ Next 2 ∷ Halt ∷ [];
  texts = codes "x" ∷ [];
  paths = [] ∷ [];
}

three_loops_accepted : judged_to three_loops 12 ≡ replicate 12 None
three_loops_accepted = refl

budget_of_three_loops : budget three_loops
    ≡ record { steps = 3 ∷ 3 ∷ 3 ∷ 2 ∷ []; bytes = 0 ∷ 0 ∷ 0 ∷ 1 ∷ [] }
budget_of_three_loops = refl

run_of_three_loops : Runs three_loops a_and_b 37 (codes "xxxxxxxx")
run_of_three_loops = (
  record { index = 10; stack = []; loops = []; output = codes "xxxxxxxx" },
  (36, refl, refl, refl),
  refl,
)

-- whether the loop is at its first item
abbrev each_first : StackCode
each_first = with_tables (Root 0 ∷ Each 6 ∷ First 0 ∷ Show ∷ Print ∷ Next 2 ∷ Halt ∷ [])

run_of_each_first : Runs each_first a_and_b 11 (codes "truefalse")
run_of_each_first = (
  record { index = 6; stack = []; loops = []; output = codes "truefalse" },
  (10, refl, refl, refl),
  refl,
)

-- the name of an object's item, and none of a list's
abbrev each_key : StackCode
each_key = with_tables (Root 0 ∷ Each 5 ∷ Key 0 ∷ Print ∷ Next 2 ∷ Halt ∷ [])

budget_of_each_key : budget each_key ≡ record { steps = 3 ∷ 3 ∷ []; bytes = 0 ∷ 0 ∷ 1 ∷ [] }
budget_of_each_key = refl

run_of_each_key : Runs each_key named_b 6 (codes "b")
run_of_each_key = (
  record { index = 5; stack = []; loops = []; output = codes "b" },
  (5, refl, refl, refl),
  refl,
)

run_of_no_key : Runs each_key a_and_b 9 []
run_of_no_key = (record { index = 5; stack = []; loops = []; output = [] }, (8, refl, refl, refl), refl)

-- a helper's result grows from its arguments: 2b + 4 for `base64`, of each item and of a value,
budget_of_each_base64 :
    budget (with_tables (Root 0 ∷ Each 7 ∷ Item 0 0 ∷ Show ∷ Call Base64 ∷ Print ∷ Next 2 ∷ Halt ∷ []))
    ≡ record { steps = 3 ∷ 5 ∷ []; bytes = 0 ∷ 6 ∷ [] }
budget_of_each_base64 = refl

budget_of_base64 : budget (with_tables (Root 0 ∷ Show ∷ Call Upper ∷ Call Base64 ∷ Print ∷ Halt ∷ []))
    ≡ record { steps = 6 ∷ []; bytes = 4 ∷ 2 ∷ [] }
budget_of_base64 = refl

-- and the sum of both for `defaultIfEmpty`
budget_of_default :
    budget (with_tables (Root 0 ∷ Show ∷ Root 0 ∷ Show ∷ Call DefaultIfEmpty ∷ Print ∷ Halt ∷ []))
    ≡ record { steps = 7 ∷ []; bytes = 0 ∷ 2 ∷ [] }
budget_of_default = refl

-- the item of the outer loop, once for each part of it
budget_of_outer_for_parts :
    budget (with_tables (Root 0 ∷ Each 9 ∷ Item 0 0 ∷ Each 8 ∷ Item 1 0 ∷ Show ∷ Print ∷ Next 4
    ∷ Next 2 ∷ Halt ∷ []))
    ≡ record { steps = 3 ∷ 7 ∷ []; bytes = 0 ∷ 0 ∷ 1 ∷ [] }
budget_of_outer_for_parts = refl

-- text that is escaped is up to six times as long
abbrev escaped_value : StackCode
escaped_value = with_tables (Root 0 ∷ Show ∷ Escape ∷ Print ∷ Halt ∷ [])

budget_of_escaped_value : budget escaped_value ≡ record { steps = 5 ∷ []; bytes = 0 ∷ 6 ∷ [] }
budget_of_escaped_value = refl

run_of_escaped_value : Runs escaped_value (text (codes "<a>")) 5 (codes "&lt;a&gt;")
run_of_escaped_value = (
  record { index = 4; stack = []; loops = []; output = codes "&lt;a&gt;" },
  (4, refl, refl, refl),
  refl,
)

escaped_characters : html_escaped (codes "a&<>\"'`=b") ≡ codes "a&amp;&lt;&gt;&quot;&#x27;&#x60;&#x3D;b"
escaped_characters = refl

escape_of_data : verdicts (Root 0 ∷ Escape ∷ Print ∷ Halt ∷ []) 2 ≡ None ∷ Some V6 ∷ []
escape_of_data = refl

each_of_text : verdicts (Text 0 ∷ Each 3 ∷ Next 2 ∷ Halt ∷ []) 2 ≡ None ∷ Some V6 ∷ []
each_of_text = refl

each_past_the_end : verdicts (Root 0 ∷ Each 3 ∷ Next 2 ∷ []) 2 ≡ None ∷ Some V3 ∷ []
each_past_the_end = refl

-- a jump into a loop
jump_into_a_loop : verdicts (Jump 3 ∷ Root 0 ∷ Each 5 ∷ Emit 0 ∷ Next 3 ∷ Halt ∷ []) 4
    ≡ None ∷ None ∷ None ∷ Some V4 ∷ []
jump_into_a_loop = refl

-- a jump out of a loop
jump_out_of_a_loop : verdicts (Root 0 ∷ Each 5 ∷ Truth true ∷ Branch 5 ∷ Next 2 ∷ Halt ∷ []) 6
    ≡ None ∷ None ∷ None ∷ None ∷ None ∷ Some V4 ∷ []
jump_out_of_a_loop = refl

-- `Each` goes into its own loop where there is no item
each_into_its_loop : verdicts (Root 0 ∷ Each 3 ∷ Emit 0 ∷ Next 2 ∷ Halt ∷ []) 4
    ≡ None ∷ None ∷ None ∷ Some V4 ∷ []
each_into_its_loop = refl

-- into another loop of the same depth
jump_into_another_loop :
    verdicts (Root 0 ∷ Each 6 ∷ Truth true ∷ Branch 8 ∷ Emit 0 ∷ Next 2 ∷ Root 0 ∷ Each 10 ∷ Emit 0
    ∷ Next 8 ∷ Halt
    ∷ []) 9 ≡ replicate 8 None ++ Some V4 ∷ []
jump_into_another_loop = refl

slot_at_the_end_of_a_loop : verdicts (Root 0 ∷ Each 4 ∷ Root 0 ∷ Next 2 ∷ Halt ∷ []) 4
    ≡ None ∷ None ∷ None ∷ Some V8 ∷ []
slot_at_the_end_of_a_loop = refl

slot_below_a_loop : verdicts (Root 0 ∷ Root 0 ∷ Each 4 ∷ Next 3 ∷ Halt ∷ []) 3
    ≡ None ∷ None ∷ Some V8 ∷ []
slot_below_a_loop = refl

loop_5 :
    verdicts (Root 0 ∷ Each 15 ∷ Root 0 ∷ Each 14 ∷ Root 0 ∷ Each 13 ∷ Root 0 ∷ Each 12 ∷ Root 0
    ∷ Each 11 ∷ Next 10
    ∷ Next 8 ∷ Next 6 ∷ Next 4 ∷ Next 2 ∷ Halt ∷ []) 10 ≡ replicate 9 None ++ Some V9 ∷ []
loop_5 = refl

next_without_a_loop : verdicts (Next 0 ∷ Halt ∷ []) 1 ≡ Some V10 ∷ []
next_without_a_loop = refl

next_to_another_place : verdicts (Root 0 ∷ Each 4 ∷ Emit 0 ∷ Next 3 ∷ Halt ∷ []) 4
    ≡ None ∷ None ∷ None ∷ Some V10 ∷ []
next_to_another_place = refl

halt_in_a_loop : verdicts (Root 0 ∷ Each 2 ∷ Halt ∷ []) 3 ≡ None ∷ None ∷ Some V4 ∷ []
halt_in_a_loop = refl

halt_in_an_open_loop : verdicts (Root 0 ∷ Each 4 ∷ Emit 0 ∷ Halt ∷ Halt ∷ []) 4
    ≡ None ∷ None ∷ None ∷ Some V10 ∷ []
halt_in_an_open_loop = refl

index_without_a_loop : verdicts (Index 0 ∷ Show ∷ Print ∷ Halt ∷ []) 1 ≡ Some V11 ∷ []
index_without_a_loop = refl

item_of_an_outer_loop : verdicts (Root 0 ∷ Each 4 ∷ Item 1 0 ∷ Next 2 ∷ Halt ∷ []) 3
    ≡ None ∷ None ∷ Some V11 ∷ []
item_of_an_outer_loop = refl

-- a path that is `urlEncode`d 39 times has three times the coefficient each time
abbrev encoded : ℕ → List Instr
encoded n = Root 0 ∷ Show ∷ replicate n (Call UrlEncode)

budget_of_encoded_39 : budget (with_tables (encoded 39 ++ Print ∷ Halt ∷ []))
    ≡ record { steps = 43 ∷ []; bytes = 0 ∷ 4052555153018976267 ∷ [] }
budget_of_encoded_39 = refl

encoded_39_accepted : verdicts (encoded 39 ++ Print ∷ Halt ∷ []) 44 ≡ replicate 44 None
encoded_39_accepted = refl

encoded_40 : verdicts (encoded 40 ++ Print ∷ Halt ∷ []) 42 ≡ replicate 41 None ++ Some V13 ∷ []
encoded_40 = refl

-- written three times it is too much at the third `Print`, and not before
abbrev thrice : List Instr
thrice = (encoded 39 ++ Print ∷ []) ++ ((encoded 39 ++ Print ∷ []) ++ (encoded 39 ++ Print ∷ Halt ∷ []))

third_print : verdicts thrice 126 ≡ replicate 125 None ++ Some V13 ∷ []
third_print = refl

-- the coefficient of m is too large
encoded_item_40 :
    judged (Root 0 ∷ Each 46 ∷ Item 0 0 ∷ Show
    ∷ (replicate 40 (Call UrlEncode) ++ Print ∷ Next 2 ∷ Halt ∷ [])) 43
    ≡ Some V13
encoded_item_40 = refl

-- 8 * 6^23 + 4 bytes and 6^24 * m: both fit, and their sum, where the loop closes, doesn't
abbrev text_and_item : List Instr
text_and_item =
    Root 0 ∷ Each 57 ∷ Text 0 ∷ Call Base64
    ∷ (replicate 23 Escape ++ Call Base64 ∷ Print ∷ Item 0 0 ∷ Show
    ∷ (replicate 24 Escape ++ Print ∷ Next 2 ∷ Halt ∷ []))

both_fit : judged text_and_item 55 ≡ None
both_fit = refl

sum_is_too_much : judged text_and_item 56 ≡ Some V13
sum_is_too_much = refl

-- a loop's turns are what takes the region round it over the limit, at its `Next`
abbrev long_in_a_loop : List ℕ → StackCode
long_in_a_loop bytes = record {
  instrs = Emit 0 ∷ Root 0 ∷ Each 5 ∷ Emit 0 ∷ Next 3 ∷ Root 0 ∷ Each 9 ∷ Emit 0
      ∷ Next 7 ∷ Halt ∷ [];
  texts = bytes ∷ [];
  paths = [] ∷ [];
}

long_in_one_loop : (bytes : List ℕ) → length bytes ≡ 2 ^ 62 →
    verdict (long_in_a_loop bytes) (entry_at (long_in_a_loop bytes)) 4 ≡ None
long_in_one_loop bytes h = rw h refl

long_in_two_loops : (bytes : List ℕ) → length bytes ≡ 2 ^ 62 →
    verdict (long_in_a_loop bytes) (entry_at (long_in_a_loop bytes)) 8 ≡ Some V13
long_in_two_loops bytes h = rw h refl
