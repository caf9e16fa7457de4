use Rattle.std.proofs.Common.{◌≡◌, take}
use Rattle.recorder.proofs.exchanges.Exchanges.try_clone.Given as goal

abbrev pub invariant-loop-item : goal.invariant-loop-item
invariant-loop-item l = l.items.items ≡ take l.item-index l.item-items
