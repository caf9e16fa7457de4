use Rattle.std.proofs.Common.{◌≡◌, map, take}
use Rattle.har_export.proofs.entries.with_moments.Given as goal

abbrev pub invariant-loop-shared : goal.invariant-loop-shared
invariant-loop-shared l = map (λ t. t.exchange) l.timed.items ≡ take l.shared-index l.fn.exchanges
