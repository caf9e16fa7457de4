use Rattle.std.proofs.Common.{◌≡◌, take}
use Rattle.plain_text.proofs.items.Items.same.Given as goal

abbrev pub invariant-loop-i : goal.invariant-loop-i
invariant-loop-i g l = take l.i l.fn.self ≡ take l.i l.fn.other
