use Rattle.std.proofs.Common.{arith, rules}
use Rattle.std.specs.Ordering.{is_lt}
use Rattle.std.proofs.lemmas.List.Sorted.{IsPartitionPoint-from_clause}
use Rattle.mapping_store.specs.Kept.{key_order}
use Rattle.mapping_store.proofs.BestLemmas.{parted_below}
use Rattle.mapping_store.proofs.eligible.start_of.Goals as goal

pub returns-clause-before : goal.returns-clause-before
returns-clause-before c = λ k d from less.
    let point = IsPartitionPoint-from_clause (λ e. is_lt (key_order e.key c.args.key))
    c.args.entries.now c.partition_point.result
    c.partition_point.ensures.partitioned (parted_below c.args.entries.now c.args.key c.requires)
    (λ a r q k. search rules) in
    point.0 k d (omega arith) less

pub returns-clause-from : goal.returns-clause-from
returns-clause-from c = λ k d from less.
    let point = IsPartitionPoint-from_clause (λ e. is_lt (key_order e.key c.args.key))
    c.args.entries.now c.partition_point.result
    c.partition_point.ensures.partitioned (parted_below c.args.entries.now c.args.key c.requires)
    (λ a r q k. search rules) in
    point.1 k d from less
