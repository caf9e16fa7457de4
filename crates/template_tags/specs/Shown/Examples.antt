-- Contents of tags, with the blocks that are open, and what they say or which error they have.
use Rattle.std.specs.Prelude.{◌≡◌, ℕ, pos, neg_ℤ, true, false, List, [], ◌∷◌, Some, None, Ok, Err, codes}
use Rattle.data_tree.specs.declared.step.Step.{Step}
use Rattle.data_tree.specs.declared.step.Step.TheVariants.{Name, Index}
use Rattle.helper_set.specs.declared.helper.Helper.TheVariants.{Upper, Lower, Eq, Not}
use Rattle.template_words.specs.declared.error.TagError.{TagError}
use Rattle.template_words.specs.declared.error.TagError.TheVariants.{UnexpectedClose, UnknownHelper, WrongArguments}
use Rattle.template_words.specs.declared.error.TagError.TheVariants.{TooDeep, BadPath, UnsupportedTag}
use Rattle.template_tags.specs.Expression.{Expression, datum, index, text_literal, number, truth, call, call_two}
use Rattle.template_tags.specs.Said.{tag_said}
use Rattle.template_tags.specs.Tags.{Tag, print, open_if, open_each, begin_else, close}
use Rattle.template_tags.specs.declared.expression.Datum.{Datum}
use Rattle.template_tags.specs.declared.expression.Datum.TheVariants.{Nothing, Root, Item, BodyPath}
use Rattle.template_tags.specs.declared.level.Block.{Block}
use Rattle.template_tags.specs.declared.level.Block.TheVariants.{If, Unless, Each}
use Rattle.template_tags.specs.declared.level.Level.{Level}
use Rattle.template_tags.specs.declared.tag.Opening.TheVariants.{Double, Triple}

-- ---- open blocks

abbrev pub open_block : Block → List Level → List Level
open_block block levels = record { left = 0; block = block; parameter = None; in_else = false } ∷ levels

abbrev pub open_loop : List ℕ → List Level → List Level
open_loop name levels = record { left = 0; block = Each; parameter = Some name; in_else = false } ∷ levels

abbrev pub open_else : Block → List Level → List Level
open_else block levels = record { left = 0; block = block; parameter = None; in_else = true } ∷ levels

-- an `if` in a loop over `v`
abbrev pub in_loop : List Level
in_loop = open_block If (open_loop (codes "v") [])

abbrev pub four_loops : List Level
four_loops = open_block Each (open_block Each (open_block Each (open_block Each [])))

-- ---- what is said

abbrev pub Says : List ℕ → List Level → Tag → Type 0
Says content levels tag = tag_said Double content levels ≡ Ok tag

abbrev pub Fails : List ℕ → List Level → TagError → Type 0
Fails content levels error = tag_said Double content levels ≡ Err error

abbrev pub from_root : List ℕ → List Step → Datum
from_root name steps = Root (Name (codes "request") ∷ Name name ∷ steps)

abbrev pub field : ℕ → List ℕ → Expression
field up name = datum (Item up (Name name ∷ []))

-- as many `upper` round an argument as there are parentheses; the other parentheses are at the end of the content
pub record ArePrints : Type 0 where
  pub root : Says (codes "request.path.[1]") [] (print (datum (from_root (codes "path") (Index 1 ∷ []))))
  pub no_loop : Says (codes " x ") [] (print (datum Nothing))
  pub item : Says (codes "this") in_loop (print (datum (Item 0 [])))
  pub field_of_item : Says (codes "x.0") in_loop (print (datum (Item 0 (Name (codes "x") ∷ Index 0 ∷ []))))
  pub parameter : Says (codes "v.x") (open_block Each in_loop) (print (field 1 (codes "x")))
  pub field_like_parameter : Says (codes "../v") (open_block Each in_loop) (print (field 1 (codes "v")))
  pub inner_parameter : Says (codes "v") (open_loop (codes "v") in_loop) (print (datum (Item 0 [])))
  pub numeral_parameter : Says (codes "1.x") (open_loop (codes "1") []) (print (field 0 (codes "x")))
  pub helper_parameter : Says (codes "upper.x") (open_loop (codes "upper") []) (print (field 0 (codes "x")))
  pub else_path : Says (codes "else.x") (open_loop (codes "else") []) (print (field 0 (codes "x")))
  pub beyond_loops : Says (codes "../x") in_loop (print (datum Nothing))
  pub root_from_within : Says (codes "../request.body") in_loop (print (datum (from_root (codes "body") [])))
  pub loop_word : Says (codes "@index") in_loop (print index)
  pub word_without_loop : Says (codes "@index") (open_else Each []) (print (datum Nothing))
  pub call_of_text : Says (codes "upper \"a b\"") [] (print (call Upper (text_literal (codes "a b"))))
  pub call_of_number : Says (codes "eq -007 true") [] (print (call_two Eq (number (neg_ℤ (pos 7))) (truth true)))
  pub inner_call : Says (codes "upper ( lower x )") in_loop (print (call Upper (call Lower (field 0 (codes "x")))))
  pub body : Says (codes "jsonPath request.[body] '$.a[0]'") [] (print (datum (BodyPath (codes "$.a[0]"))))
  pub eight_groups : Says (codes "not (not (not (not (not (not (not (not (not 1))))))))") []
      (print (call Not (call Not (call Not (call Not (call Not (call Not (call Not (call Not
      (call Not (number (pos 1))))))))))))
  pub three_braces : tag_said Triple (codes "else") in_loop ≡ Ok (print (field 0 (codes "else")))

pub record AreBlocks : Type 0 where
  pub test : Says (codes "#if x") in_loop (open_if false (field 0 (codes "x")))
  pub negated : Says (codes " #unless (eq 1 2) ") [] (open_if true (call_two Eq (number (pos 1)) (number (pos 2))))
  pub loop : Says (codes "#each request.query.q") []
      (open_each (from_root (codes "query") (Name (codes "q") ∷ [])) None)
  pub named_loop : Says (codes "#each as as |as|") in_loop
      (open_each (Item 0 (Name (codes "as") ∷ [])) (Some (codes "as")))
  pub body_loop : Says (codes "#each (jsonPath request.body \"$\")") [] (open_each (BodyPath (codes "$")) None)
  pub word_as_loop : Says (codes "#each @index") [] (open_each Nothing None)
  pub fourth_else : Says (codes "#each x") (open_else Each in_loop) (open_each (Item 0 (Name (codes "x") ∷ [])) None)
  pub first_else : Says (codes "else") in_loop begin_else
  pub closed : Says (codes "/if ") in_loop close
  pub closed_after_else : Says (codes "/unless") (open_else Unless []) close

-- the errors in the order in which they are reported
pub record AreErrors : Type 0 where
  pub empty : Fails (codes " ") [] UnsupportedTag
  pub partial : Fails (codes "> p") [] UnsupportedTag
  pub unknown_block : Fails (codes "# if x") [] UnsupportedTag
  pub else_with_words : Fails (codes "else if x") in_loop UnsupportedTag
  pub else_with_group : Fails (codes "else ()") in_loop UnsupportedTag
  pub literal_alone : Fails (codes "1") (open_loop (codes "1") []) UnsupportedTag
  pub group_alone : Fails (codes "(foo)") [] UnsupportedTag
  pub hash_argument : Fails (codes "upper (lower x=1)") [] UnsupportedTag
  pub other_at_word : Fails (codes "1 @index.x") in_loop UnsupportedTag
  pub two_parameters : Fails (codes "#each q as |v w|") [] UnsupportedTag
  pub taken_parameter : Fails (codes "#each q as |this|") [] UnsupportedTag
  pub parameter_of_if : Fails (codes "#if q as |v|") [] UnsupportedTag
  pub reserved : Fails (codes "upper a! request.id") [] UnsupportedTag
  pub reserved_parameter : Fails (codes "parameters.x") (open_loop (codes "parameters") []) UnsupportedTag
  pub close_with_words : Fails (codes "/if x") in_loop UnsupportedTag
  pub other_close_with_words : Fails (codes "/each x") in_loop UnexpectedClose
  pub other_close : Fails (codes "/unless") in_loop UnexpectedClose
  pub name_of_close : Fails (codes "/ if") in_loop UnexpectedClose
  pub close_of_none : Fails (codes "/if") [] UnexpectedClose
  pub else_of_none : Fails (codes "else") [] UnexpectedClose
  pub second_else : Fails (codes "else") (open_else If []) UnexpectedClose
  pub no_helper : Fails (codes "a! 1") [] UnknownHelper
  pub foreign_alone : Fails (codes "now") [] UnknownHelper
  pub foreign_argument : Fails (codes "#if now") [] UnknownHelper
  pub group_of_no_helper : Fails (codes "upper(x)") [] UnknownHelper
  pub group_as_helper : Fails (codes "upper ((lower x))") [] UnknownHelper
  pub groups_alone : Fails (codes "(a)(b)") [] UnknownHelper
  pub block_in_three_braces : tag_said Triple (codes "#if x") [] ≡ Err UnknownHelper
  pub malformed : Fails (codes "a[b c") [] BadPath
  pub bracket_first : Fails (codes "[a b]") [] BadPath
  pub no_space : Fails (codes "upper(lower x)") [] BadPath
  pub no_space_after_text : Fails (codes "upper \"a\"b") [] BadPath
  pub malformed_hash : Fails (codes "upper x = 1") [] BadPath
  pub spaced_bars : Fails (codes "#each q as | x |") [] BadPath
  pub no_name_in_bars : Fails (codes "#each q as ||") [] BadPath
  pub no_json_path : Fails (codes "jsonPath x '$.a['") [] BadPath
  pub helper_alone : Fails (codes "upper") [] WrongArguments
  pub empty_group : Fails (codes "upper ()") [] WrongArguments
  pub two_for_one : Fails (codes "upper a b") [] WrongArguments
  pub path_for_text : Fails (codes "jsonPath request.body x") [] WrongArguments
  pub other_path : Fails (codes "jsonPath request.url '$'") [] WrongArguments
  pub no_test : Fails (codes "#if") [] WrongArguments
  pub no_data : Fails (codes "#each @index") in_loop WrongArguments
  pub no_loop_before_bars : Fails (codes "#each as |x|") [] WrongArguments
  pub quoted_bars : Fails (codes "#each q as \"|x|\"") [] WrongArguments
  pub deep_no_data : Fails (codes "#each (not (not (not (not (not (not (not (not (not 1)))))))))") [] WrongArguments
  pub fifth_loop : Fails (codes "#each x") four_loops TooDeep
  pub ninth_group : Fails (codes "not (not (not (not (not (not (not (not (not (not 1)))))))))") [] TooDeep
  pub ninth_group_in_test : Fails (codes "#if (not (not (not (not (not (not (not (not (not 1)))))))))") [] TooDeep

-- parentheses that don't match only separate words
pub record AreUnmatched : Type 0 where
  pub no_helper_before : Fails (codes "foo ) 1") [] UnknownHelper
  pub no_helper_after : Fails (codes "foo 1 )") [] UnknownHelper
  pub no_helper_open : Fails (codes "foo ( 1") [] UnknownHelper
  pub literal_with_words : Fails (codes "\"a\" ) 1") [] UnknownHelper
  pub helper_inside : Fails (codes "(upper x") [] BadPath
  pub literal : Fails (codes "\"a\")") [] BadPath
  pub literal_after : Fails (codes ")\"a\"") [] BadPath
  pub alone : Fails (codes "foo (") [] BadPath
  pub no_word : Fails (codes ") (") [] BadPath
  pub group_beside : Fails (codes "upper ((lower x)") [] BadPath
  pub foreign : Fails (codes "upper (now") [] UnknownHelper
  pub hash_argument : Fails (codes "upper (a=b") [] UnsupportedTag
  -- where they match, it is the first word of its group
  pub no_hash_argument : Fails (codes "upper (a=b)") [] UnknownHelper
  pub other_at_word : Fails (codes "@foo )") [] UnsupportedTag
  pub reserved : Fails (codes "upper request.id)") [] UnsupportedTag
  pub in_test : Fails (codes "#if (upper x") [] BadPath
  pub in_loop : Fails (codes "#each )x") [] BadPath
  pub in_else : Fails (codes "else (") (open_block If []) BadPath
  pub word_in_else : Fails (codes "else (x") (open_block If []) UnsupportedTag
  pub in_else_of_none : Fails (codes "else )") [] UnexpectedClose
  pub else_inside : Fails (codes "(else") (open_block If []) BadPath
  pub in_close : Fails (codes "/if )") (open_block If []) BadPath
  pub other_block_in_three_braces : tag_said Triple (codes "#foo") [] ≡ Err UnsupportedTag
  pub other_block_with_words : tag_said Triple (codes "#foo x") [] ≡ Err UnsupportedTag
