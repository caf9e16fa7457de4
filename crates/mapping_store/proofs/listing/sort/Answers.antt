use Rattle.std.proofs.Common.{◌≡◌, List, AllPairs, length, drop, sym, ap, subst, arith, rules}
use Rattle.std.proofs.lemmas.List.{take_at}
use Rattle.request_journal.specs.Choice.{IsNewer}
use Rattle.request_journal.specs.Past.{Placed}
use Rattle.mapping_store.proofs.RankLemmas.{sorted_by}
use Rattle.mapping_store.proofs.ListingLemmas.{age_total, none_newer}
use Rattle.mapping_store.proofs.listing.sort.Goals as goal

pub returns-clause-newest_first : goal.returns-clause-newest_first
returns-clause-newest_first c =
    let old : List Placed = c.args.listed.now.items in
    let sorted : List Placed = c.sort_unstable_by.new.self in
    let len : length sorted ≡ c.args.listed.now.len =
    omega (arith, c.sort_unstable_by.ensures.len, ap length c.as_mut_slice.ensures.value, c.args.listed.now.ok.0) in
    subst (AllPairs (λ (a b : Placed). ¬ (IsNewer b.place a.place)))
    (sym (take_at sorted (drop (length sorted) old) c.args.listed.now.len len))
    (none_newer sorted (sorted_by age_total sorted c.sort_unstable_by.ensures.sorted (λ a r q k. search rules)))
