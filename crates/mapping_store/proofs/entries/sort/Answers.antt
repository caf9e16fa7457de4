use Rattle.std.proofs.Common.{◌≡◌, List, AllPairs, length, drop, sym, ap, subst, arith, rules}
use Rattle.std.proofs.lemmas.List.{take_at}
use Rattle.mapping_store.specs.declared.entry.Entry.{Entry}
use Rattle.mapping_store.specs.Kept.{IsBefore}
use Rattle.mapping_store.proofs.OrderLemmas.{order_total}
use Rattle.mapping_store.proofs.RankLemmas.{sorted_by}
use Rattle.mapping_store.proofs.entries.sort.Goals as goal

pub returns-clause-in_order : goal.returns-clause-in_order
returns-clause-in_order c =
    let old : List Entry = c.args.entries.now.items in
    let sorted : List Entry = c.sort_unstable_by.new.self in
    let len : length sorted ≡ c.args.entries.now.len =
    omega (arith, c.sort_unstable_by.ensures.len, ap length c.as_mut_slice.ensures.value, c.args.entries.now.ok.0) in
    subst (AllPairs IsBefore) (sym (take_at sorted (drop (length sorted) old) c.args.entries.now.len len))
    (sorted_by order_total sorted c.sort_unstable_by.ensures.sorted (λ a r q k. search rules))
