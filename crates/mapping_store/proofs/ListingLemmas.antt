-- The newest mappings come first.
use Rattle.std.proofs.Common.{◌≡◌, false, List, get_or}
use Rattle.std.specs.Cmp.{IsTotalOrder}
use Rattle.std.specs.List.{AllPairs}
use Rattle.std.specs.Ordering.{is_gt}
use Rattle.std.proofs.lemmas.Cmp.{then_total, on_total, back_total, nat_cmp_total}
use Rattle.request_journal.specs.Choice.{IsNewer}
use Rattle.request_journal.specs.Past.{Placed}
use Rattle.mapping_store.proofs.RankLemmas.{not_newer}
use Rattle.mapping_store.specs.Inner.Entries.{by_age}

pub age_total : IsTotalOrder by_age
age_total =
    then_total (on_total (λ (p : Placed). p.place.event) (back_total nat_cmp_total))
    (on_total (λ (p : Placed). p.place.index) (back_total nat_cmp_total))

-- a list that was sorted has no later one that is newer
pub none_newer : (ps : List Placed) → AllPairs (λ a b. is_gt (by_age a b) ≡ false) ps
    → AllPairs (λ a b. ¬ (IsNewer b.place a.place)) ps
none_newer ps sorted i j d l within =
    not_newer (get_or ps i d).place.event (get_or ps j d).place.event (get_or ps i d).place.index
    (get_or ps j d).place.index (sorted i j d l within)
