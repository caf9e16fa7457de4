use Rattle.data_tree.specs.Tree.{nothing, truth, number, text}
use Rattle.std.proofs.Common.{true, false, arith}
use Rattle.json_match.proofs.counts.Counts.add.Goals as goal

pub overflow_add-self : goal.overflow_add-self
overflow_add-self c = let room = c.requires nothing in omega (arith, room)

pub overflow_add-self-in-Truth-true : goal.overflow_add-self-in-Truth-true
overflow_add-self-in-Truth-true c = let room = c.requires (truth true) in omega (arith, room)

pub overflow_add-self-in-Truth-false : goal.overflow_add-self-in-Truth-false
overflow_add-self-in-Truth-false c = let room = c.requires (truth false) in omega (arith, room)

pub add_number-requires : goal.add_number-requires
add_number-requires c = λ n. c.requires (number n)

pub add_text-requires : goal.add_text-requires
add_text-requires c = c.requires (text c.as_str.result.now)
