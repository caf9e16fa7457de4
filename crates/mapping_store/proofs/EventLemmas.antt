-- What the events that change mappings leave.
use Rattle.std.proofs.Common.{◌≡◌, ◌≢◌, ℕ, Bool, true, false, not, ◌||◌, cond, List, [], ◌∷◌}
use Rattle.std.proofs.Common.{map, Some, None, refl, sym, unwrap_or}
use Rattle.std.specs.List.{All, filter}
use Rattle.std.specs.List.Sorted.{IsPermutation}
use Rattle.std.specs.Option.{option_or}
use Rattle.std.specs.Str.{bytes_eq}
use Rattle.std.proofs.lemmas.List.Elements.{All-head, All-tail}
use Rattle.std.proofs.lemmas.List.Sorted.{IsPermutation-map}
use Rattle.mapping_model.specs.declared.mapping_spec.MappingSpec.{MappingSpec}
use Rattle.request_journal.specs.Live.{edited, left_by, removes, is_removed}
use Rattle.request_journal.specs.Past.{Placed}
use Rattle.request_journal.specs.declared.event.Event.{Event}
use Rattle.request_journal.specs.declared.event.Event.TheVariants as event
use Rattle.mapping_store.proofs.IdLemmas.{same_id, other_id}
use Rattle.mapping_store.proofs.ListLemmas.{IsPermutation-filter}

-- ---- what an event leaves

-- an event that edits nothing
pub left_plain : (e : Event) → ((p : Placed) → edited (e ∷ []) p ≡ p) → (ps : List Placed)
    → left_by (e ∷ []) ps ≡ filter (λ p. not (removes e p.mapping.id)) ps
left_plain e keeps [] = refl
left_plain e keeps (p ∷ ps) =
    let rest : List Placed = filter (λ q. not (is_removed (e ∷ []) q.mapping.id)) ps in
    let left : List Placed = filter (λ q. not (removes e q.mapping.id)) ps in
    elim (removes e p.mapping.id)
    as (λ b. map (edited (e ∷ [])) (cond (not (b || false)) (p ∷ rest) rest) ≡ cond (not b) (p ∷ left) left) [
      | true ↦ left_plain e keeps ps
      | false ↦ λ i. keeps p i ∷ left_plain e keeps ps i
    ]

-- an edit of an id that no mapping has
pub left_others : (id : List ℕ) (spec : MappingSpec) (ps : List Placed) → All (λ p. p.mapping.id ≢ id) ps
    → left_by (event.Edit id spec ∷ []) ps ≡ ps
left_others id spec [] h = refl
left_others id spec (p ∷ ps) h =
    let differ : p.mapping.id ≢ id = All-head (λ (q : Placed). q.mapping.id ≢ id) p ps h in
    let same : (bytes_eq id p.mapping.id) ≡ false = not_same id p.mapping.id differ in
    λ i. record {
      place = p.place;
      mapping = record {
        id = p.mapping.id;
        spec = unwrap_or (option_or None (cond (same i) (Some spec) None)) p.mapping.spec;
      };
    } ∷ left_others id spec ps (All-tail (λ (q : Placed). q.mapping.id ≢ id) p ps h) i
  where
    not_same : (a b : List ℕ) → b ≢ a → bytes_eq a b ≡ false
    not_same a b h = turned (bytes_eq a b) (other_id a b h)
      where
        turned : (b : Bool) → not b ≡ true → b ≡ false
        turned true h = sym h
        turned false h = refl

-- an edit of the first
pub left_edited : (id : List ℕ) (spec : MappingSpec) (p : Placed) (ps : List Placed) → p.mapping.id ≡ id
    → All (λ q. q.mapping.id ≢ id) ps
    → left_by (event.Edit id spec ∷ []) (p ∷ ps)
    ≡ record { place = p.place; mapping = record { id = id; spec = spec } } ∷ ps
left_edited id spec p ps is h =
    λ i. record {
      place = p.place;
      mapping = record {
        id = is i;
        spec = unwrap_or (option_or None (cond (same_id id p.mapping.id (sym is) i) (Some spec) None)) p.mapping.spec;
      };
    } ∷ left_others id spec ps h i

-- lists in other orders are left alike
pub left_alike : (es : List Event) (ps qs : List Placed) → IsPermutation ps qs
    → IsPermutation (left_by es ps) (left_by es qs)
left_alike es ps qs h =
    IsPermutation-map (edited es) _ _ (IsPermutation-filter (λ (p : Placed). not (is_removed es p.mapping.id)) ps qs h)
