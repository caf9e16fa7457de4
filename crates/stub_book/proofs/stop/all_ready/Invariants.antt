use Rattle.std.proofs.Common.{◌≡◌, ◌++◌}
use Rattle.std.specs.Vec.Iter.{into_iter_items}
use Rattle.request_journal.specs.Legal.{identified}
use Rattle.stub_book.proofs.stop.all_ready.Given as goal

-- what is ready, followed by what is left, is the whole
abbrev pub invariant-loop-spec : goal.invariant-loop-spec
invariant-loop-spec l = identified l.fn.specs.items ≡ l.ready.items ++ identified (into_iter_items l.spec-iterator)
