-- The order of choice among entries, and what comes before what.
use Rattle.std.proofs.Common.{◌≡◌, ℕ, ◌≤◌, true, false, List, length, get_or, sym, ap, subst}
use Rattle.std.proofs.Common.{arith, ◌⊎◌, inl, inr, ℤ, ◌<ℤ◌}
use Rattle.mapping_model.specs.Priority.{priority_of}
use Rattle.std.specs.Cmp.{IsTotalOrder}
use Rattle.std.specs.List.{AllPairs, insert}
use Rattle.std.specs.List.Sorted.{IsPartitionedBy, IsPartitionPoint}
use Rattle.std.specs.Ordering.{is_gt, is_lt}
use Rattle.std.proofs.lemmas.Bool.{cases_order}
use Rattle.std.proofs.lemmas.Cmp.{then_total, on_total, back_total, nat_cmp_total, int_cmp_total, tied_itself}
use Rattle.request_journal.specs.Choice.{WinsOver}
use Rattle.request_journal.specs.declared.mapping.Mapping.{Mapping}
use Rattle.mapping_store.specs.declared.entry.Entry.{Entry}
use Rattle.mapping_store.specs.Kept.{choice_order, hash_in, key_order, kind_of, order, placed_of, Fits, IsBefore}
use Rattle.mapping_store.specs.Kept.{IsFirst}
use Rattle.mapping_store.proofs.ListLemmas.{AllPairs-insert}
use Rattle.mapping_store.proofs.RankLemmas.{less_than, from_less, from_not_less, not_over, Newer}

pub choice_total : IsTotalOrder choice_order
choice_total =
    then_total (on_total (λ (e : Entry). e.priority) int_cmp_total)
    (then_total (on_total (λ (e : Entry). e.event) (back_total nat_cmp_total))
    (on_total (λ (e : Entry). e.index) (back_total nat_cmp_total)))

pub key_total : IsTotalOrder key_order
key_total = then_total (on_total kind_of nat_cmp_total) (on_total hash_in nat_cmp_total)

pub order_total : IsTotalOrder order
order_total = then_total (on_total (λ (e : Entry). e.key) key_total) choice_total

-- those that win over an entry come first
pub parted_by : (xs : List Entry) (y : Entry) → AllPairs IsBefore xs → IsPartitionedBy (λ e. is_lt (order e y)) xs
parted_by xs y pairs i j d le l wins =
    elim (cases_order i j) as (λ _. is_lt (order (get_or xs i d) y) ≡ true) [
      | inl same ↦ subst (λ k. is_lt (order (get_or xs k d) y) ≡ true) (sym same) wins
      | inr other ↦ elim other as (λ _. is_lt (order (get_or xs i d) y) ≡ true) [
        | inl below ↦ less_than order_total (get_or xs i d) (get_or xs j d) y (pairs i j d below l) wins
        | inr above ↦ absurd (omega arith)
      ]
    ]

-- where the search parts the entries, one more may stand
pub in_order_after : (xs : List Entry) (i : ℕ) (y : Entry) → i ≤ length xs → AllPairs IsBefore xs
    → IsPartitionPoint (λ e. is_lt (order e y) ≡ true) (λ e. is_lt (order e y) ≡ false) xs i
    → AllPairs IsBefore (insert xs i y)
in_order_after xs i y l pairs point =
    AllPairs-insert IsBefore xs i y l pairs
    (λ k d lt. from_less order_total (get_or xs k d) y (point.0 k d (omega arith) lt))
    (λ k d le lt. from_not_less order_total (get_or xs k d) y (point.1 k d le lt))

abbrev Wins : Entry → Entry → ℤ → ℤ → Type 0
Wins a b p r = (p <ℤ r) ⊎ ((p ≡ r) × Newer a.event a.index b.event b.index)

-- an entry that isn't beaten by another isn't won over by it
pub not_won : (defaults : List Mapping) (a b : Entry) → Fits defaults a → Fits defaults b
    → IsFirst a b → ¬ (WinsOver (placed_of b) (placed_of a))
not_won defaults a b f g h wins =
    not_over a.priority b.priority a.event b.event a.index b.index h
    (subst (λ p. Wins b a p a.priority) (sym g.priority)
    (subst (λ p. Wins b a (priority_of b.seen.value.priority) p) (sym f.priority) wins))

pub not_beaten_itself : (e : Entry) → IsFirst e e
not_beaten_itself e = ap is_gt (tied_itself choice_total e)
