-- The texts of the examples, computed.
use Rattle.std.proofs.Common.{refl}
use Rattle.template_tree.specs.Shown.TextExamples.{AreTexts}

pub are_texts : AreTexts
are_texts = record {
  empty = refl;
  first_part = refl;
  else_part = refl;
  empty_value = refl;
  loop = refl;
  no_turn = refl;
  loop_words = refl;
  else_of_loop = refl;
  inner_loop = refl;
  keys = refl;
  escaped = refl;
  calls = refl;
  negated = refl;
  compared = refl;
  counted_items = refl;
  index_in_loop = refl;
  default = refl;
  body = refl;
  no_body = refl;
  out_of_loops = refl;
}
