use Rattle.std.proofs.Common.{◌≡◌, ◌≤◌, List, length, AllPairs, IsPermutation, ◌∷◌, rules, subst, sym}
use Rattle.std.specs.List.{insert}
use Rattle.std.specs.Ordering.{is_lt}
use Rattle.std.proofs.lemmas.List.Sorted.{IsPermutation-insert, IsPartitionPoint-from_clause}
use Rattle.mapping_store.specs.declared.entry.Entry.{Entry}
use Rattle.mapping_store.specs.Kept.{order, IsBefore}
use Rattle.mapping_store.proofs.OrderLemmas.{parted_by, in_order_after}
use Rattle.mapping_store.proofs.entries.put_in.Goals as goal

pub returns-clause-put : goal.returns-clause-put
returns-clause-put c =
    let items : c.insert.new.self.items ≡ insert c.args.entries.now.items c.partition_point-at.result c.args.entry =
    search rules in
    subst (λ l. IsPermutation (c.args.entry ∷ c.args.entries.now.items) l) (sym items)
    (IsPermutation-insert c.args.entries.now.items c.partition_point-at.result c.args.entry)

pub returns-clause-in_order : goal.returns-clause-in_order
returns-clause-in_order c =
    let xs : List Entry = c.args.entries.now.items in
    let items : c.insert.new.self.items ≡ insert xs c.partition_point-at.result c.args.entry = search rules in
    let within : c.partition_point-at.result ≤ length xs = search rules in
    let point = IsPartitionPoint-from_clause (λ e. is_lt (order e c.args.entry)) xs c.partition_point-at.result
    (rw c.as_slice.ensures.value at c.partition_point-at.ensures.partitioned)
    (parted_by xs c.args.entry c.requires.in_order) (λ a r q k. search rules) in
    subst (λ l. AllPairs IsBefore l) (sym items)
    (in_order_after xs c.partition_point-at.result c.args.entry within c.requires.in_order point)
