use Rattle.std.proofs.Common.{◌≡◌, ◌+◌, take}
use Rattle.std.specs.List.{range_with_len}
use Rattle.shared_book.proofs.counted.miscounted.Given as goal

abbrev pub invariant-loop-i : goal.invariant-loop-i
invariant-loop-i l = take l.i l.numbers ≡ range_with_len (l.start + 1) l.i
