use Rattle.std.proofs.lemmas.List.Elements.{All-same}
use Rattle.stub_book.proofs.RecordedLemmas.{recorded_lack_only_memory}
use Rattle.stub_book.specs.Inner.Recorded.{LacksOnlyMemory}
use Rattle.stub_book.proofs.stop.additions_of.Goals as goal

pub all_ready-requires : goal.all_ready-requires
all_ready-requires c =
    All-same LacksOnlyMemory c.in_ok-recorded.recorded.mappings.items _ c.in_ok-recorded.ensures.mappings
    (recorded_lack_only_memory c.as_slice-2.result.now c.as_slice.result.now c.args.session.now.repeats c.args.number)
