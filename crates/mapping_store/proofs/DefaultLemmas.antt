-- Look-ups by id, from the first mapping on.
use Rattle.std.proofs.Common.{◌≡◌, ◌≢◌, ℕ, ◌+◌, ◌<◌, true, ◌||◌, not, List, [], ◌∷◌, map, length, get_or, drop, refl}
use Rattle.std.proofs.Common.{sym, ap, ◌∙◌}
use Rattle.std.specs.List.{list_any}
use Rattle.std.specs.Str.{bytes_eq}
use Rattle.std.proofs.lemmas.Bool.{false_from_ne_true}
use Rattle.std.proofs.lemmas.List.{at_drop_more}
use Rattle.std.proofs.lemmas.Slice.Eq.{bytes_eq-Decides}
use Rattle.request_journal.specs.Past.{has_id}
use Rattle.request_journal.specs.declared.mapping.Mapping.{Mapping}
use Rattle.mapping_store.specs.Ids.{lasts_among}
use Rattle.mapping_store.specs.Kept.{lasts_of}
use Rattle.mapping_store.proofs.DifferLemmas.{any_map}
use Rattle.mapping_store.proofs.IdLemmas.{same_id}

has_id_more : (ms : List Mapping) (i : ℕ) (m : Mapping) (id : List ℕ) → i < length ms → m ≡ get_or ms i m
    → has_id (drop i ms) id ≡ (bytes_eq m.id id || has_id (drop (i + 1) ms) id)
has_id_more ms i m id l read =
    at_drop_more (λ ns. has_id ns id) ms i m l
    ∙ ap (λ (n : Mapping). bytes_eq n.id id || has_id (drop (i + 1) ms) id) (sym read)

pub has_id_here : (ms : List Mapping) (i : ℕ) (m : Mapping) (id : List ℕ) → i < length ms → m ≡ get_or ms i m
    → m.id ≡ id → has_id (drop i ms) id ≡ true
has_id_here ms i m id l read is =
    has_id_more ms i m id l read ∙ ap (λ b. b || has_id (drop (i + 1) ms) id) (same_id m.id id is)

pub has_id_later : (ms : List Mapping) (i : ℕ) (m : Mapping) (id : List ℕ) → i < length ms → m ≡ get_or ms i m
    → m.id ≢ id → has_id (drop i ms) id ≡ has_id (drop (i + 1) ms) id
has_id_later ms i m id l read differ =
    has_id_more ms i m id l read
    ∙ ap (λ b. b || has_id (drop (i + 1) ms) id)
    (false_from_ne_true (bytes_eq m.id id) (λ e. differ ((bytes_eq-Decides m.id id).0 e)))

pub lasts_of_ids : (ms : List Mapping) → lasts_among (map (λ m. m.id) ms) ≡ lasts_of ms
lasts_of_ids [] = refl
lasts_of_ids (m ∷ ms) =
    let here : list_any (λ o. bytes_eq o m.id) (map (λ n. n.id) ms) ≡ has_id ms m.id =
    any_map (λ (n : Mapping). n.id) (λ o. bytes_eq o m.id) ms in
    (λ i. not (here i) ∷ lasts_of_ids ms i)
