use Rattle.std.proofs.Common.{◌≡◌, take}
use Rattle.recorder.specs.Stubs.{keys_of}
use Rattle.recorded_stubs.specs.Inner.Lent.{lent}
use Rattle.recorded_stubs.proofs.stubs.keys_of.Given as goal

abbrev pub invariant-loop-exchange : goal.invariant-loop-exchange
invariant-loop-exchange l = l.keys.items ≡ keys_of l.captured (lent (take l.exchange-index l.exchanges))
