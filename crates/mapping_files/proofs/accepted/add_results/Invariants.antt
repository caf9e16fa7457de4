use Rattle.std.proofs.Common.{◌≡◌, ◌++◌, length}
use Rattle.std.specs.Vec.Iter.{into_iter_items, into_iter_len}
use Rattle.mapping_files.specs.Served.{accepted_of}
use Rattle.mapping_files.proofs.accepted.add_results.Given as goal

-- the mappings so far, and those of the results that are left
abbrev pub invariant-loop-result : goal.invariant-loop-result
invariant-loop-result l = record {
  counted : into_iter_len l.result-iterator ≡ length (into_iter_items l.result-iterator);
  whole : l.initial.accepted.mappings.items ++ accepted_of l.fn.results.items
      ≡ l.accepted.mappings.items ++ accepted_of (into_iter_items l.result-iterator);
}
