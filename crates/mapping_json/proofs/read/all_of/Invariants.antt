use Rattle.std.proofs.Common.{◌≡◌, ◌++◌, Ok, map, length}
use Rattle.std.specs.Vec.Iter.{into_iter_items, into_iter_len}
use Rattle.mapping_json.proofs.read.all_of.Given as goal

-- the mappings so far, and the results that are left
abbrev pub invariant-loop-result : goal.invariant-loop-result
invariant-loop-result l = record {
  counted : into_iter_len l.result-iterator ≡ length (into_iter_items l.result-iterator);
  whole : l.fn.results.items ≡ map Ok l.mappings.items ++ into_iter_items l.result-iterator;
}
