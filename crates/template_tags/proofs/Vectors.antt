-- The examples, computed.
use Rattle.std.proofs.Common.{refl}
use Rattle.template_words.specs.PathReads.{reference_from, step_of}
use Rattle.template_tags.specs.Shown.Examples.{ArePrints, AreBlocks, AreErrors, AreUnmatched}
use Rattle.template_tags.specs.Said.{tag_said}
use Rattle.template_tags.specs.Words.{word_of}

pub are_prints : ArePrints
unfolding tag_said word_of reference_from step_of
are_prints = record {
  root = refl;
  no_loop = refl;
  item = refl;
  field_of_item = refl;
  parameter = refl;
  field_like_parameter = refl;
  inner_parameter = refl;
  numeral_parameter = refl;
  helper_parameter = refl;
  else_path = refl;
  beyond_loops = refl;
  root_from_within = refl;
  loop_word = refl;
  word_without_loop = refl;
  call_of_text = refl;
  call_of_number = refl;
  inner_call = refl;
  body = refl;
  eight_groups = refl;
  three_braces = refl;
}

pub are_blocks : AreBlocks
unfolding tag_said word_of reference_from step_of
are_blocks = record {
  test = refl;
  negated = refl;
  loop = refl;
  named_loop = refl;
  body_loop = refl;
  word_as_loop = refl;
  fourth_else = refl;
  first_else = refl;
  closed = refl;
  closed_after_else = refl;
}

pub are_errors : AreErrors
unfolding tag_said word_of reference_from step_of
are_errors = record {
  empty = refl;
  partial = refl;
  unknown_block = refl;
  else_with_words = refl;
  else_with_group = refl;
  literal_alone = refl;
  group_alone = refl;
  hash_argument = refl;
  other_at_word = refl;
  two_parameters = refl;
  taken_parameter = refl;
  parameter_of_if = refl;
  reserved = refl;
  reserved_parameter = refl;
  close_with_words = refl;
  other_close_with_words = refl;
  other_close = refl;
  name_of_close = refl;
  close_of_none = refl;
  else_of_none = refl;
  second_else = refl;
  no_helper = refl;
  foreign_alone = refl;
  foreign_argument = refl;
  group_of_no_helper = refl;
  group_as_helper = refl;
  groups_alone = refl;
  block_in_three_braces = refl;
  malformed = refl;
  bracket_first = refl;
  no_space = refl;
  no_space_after_text = refl;
  malformed_hash = refl;
  spaced_bars = refl;
  no_name_in_bars = refl;
  no_json_path = refl;
  helper_alone = refl;
  empty_group = refl;
  two_for_one = refl;
  path_for_text = refl;
  other_path = refl;
  no_test = refl;
  no_data = refl;
  no_loop_before_bars = refl;
  quoted_bars = refl;
  deep_no_data = refl;
  fifth_loop = refl;
  ninth_group = refl;
  ninth_group_in_test = refl;
}

pub are_unmatched : AreUnmatched
unfolding tag_said word_of reference_from step_of
are_unmatched = record {
  no_helper_before = refl;
  no_helper_after = refl;
  no_helper_open = refl;
  literal_with_words = refl;
  helper_inside = refl;
  literal = refl;
  literal_after = refl;
  alone = refl;
  no_word = refl;
  group_beside = refl;
  foreign = refl;
  hash_argument = refl;
  no_hash_argument = refl;
  other_at_word = refl;
  reserved = refl;
  in_test = refl;
  in_loop = refl;
  in_else = refl;
  word_in_else = refl;
  in_else_of_none = refl;
  else_inside = refl;
  in_close = refl;
  other_block_in_three_braces = refl;
  other_block_with_words = refl;
}
