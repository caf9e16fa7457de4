use Rattle.std.proofs.Common.{◌≡◌, take}
use Rattle.recorder.specs.Stubs.{kept_of}
use Rattle.recorded_stubs.specs.Inner.Lent.{lent}
use Rattle.recorded_stubs.proofs.kept.kept_of.Given as goal

abbrev pub invariant-loop-shared : goal.invariant-loop-shared
invariant-loop-shared l = lent l.kept.items ≡ kept_of l.captured (take l.shared-index l.exchanges)
