use Rattle.std.proofs.Common.{length, arith}
use Rattle.std.proofs.lemmas.List.{at_drop_all}
use Rattle.request_journal.specs.Past.{placed_from}
use Rattle.mapping_store.proofs.CountLemmas.{length-placed}
use Rattle.mapping_store.proofs.counts.count_ids.Goals as goal

pub returns-clause-count : goal.returns-clause-count
returns-clause-count c = λ number index.
    let i = c.loop-i.i in
    let mappings = c.args.mappings.now in
    omega (
      arith,
      c.loop-i.invariant.counted,
      at_drop_all (λ l. length (placed_from 0 i l)) mappings i (omega arith),
      length-placed 0 0 number index mappings,
    )
