-- How many mappings there are once several are added.
use Rattle.std.proofs.Common.{◌≡◌, ℕ, suc, ◌+◌, true, false, not, cond, List, [], ◌∷◌, ◌++◌, length, map, refl, sym, ap}
use Rattle.std.proofs.Common.{◌∙◌}
use Rattle.std.specs.List.{filter}
use Rattle.std.specs.Str.{bytes_eq}
use Rattle.std.proofs.lemmas.List.{length-append}
use Rattle.request_journal.specs.Past.{Placed, has_id, placed_from}
use Rattle.request_journal.specs.declared.mapping.Mapping.{Mapping}
use Rattle.mapping_store.specs.Ids.{all_differ}
use Rattle.mapping_store.specs.Kept.{placed_of}
use Rattle.mapping_store.specs.declared.entry.Entry.{Entry}
use Rattle.mapping_store.proofs.DifferLemmas.{any_map, head_differs, last_differ, none_later, tail_differs}

pub length-placed : (number index other next : ℕ) (ms : List Mapping)
    → length (placed_from number index ms) ≡ length (placed_from other next ms)
length-placed number index other next [] = refl
length-placed number index other next (m ∷ ms) =
    let more : length (placed_from number (index + 1) ms) ≡ length (placed_from other (next + 1) ms) =
    length-placed number (index + 1) other (next + 1) ms in
    let first : Placed = record { place = record { event = number; index = index }; mapping = m } in
    let second : Placed = record { place = record { event = other; index = next }; mapping = m } in
    elim (has_id ms m.id) as (λ b.
    length (cond b (placed_from number (index + 1) ms) (first ∷ placed_from number (index + 1) ms))
    ≡ length (cond b (placed_from other (next + 1) ms) (second ∷ placed_from other (next + 1) ms))) [
      | true ↦ more
      | false ↦ ap (λ n. suc n) more
    ]

-- ---- mappings of which each has an id of its own

all_placed : (number index : ℕ) (ms : List Mapping) → all_differ (map (λ m. m.id) ms) ≡ true
    → length (placed_from number index ms) ≡ length ms
all_placed number index [] h = refl
all_placed number index (m ∷ ms) h =
    let rest : List Placed = placed_from number (index + 1) ms in
    let first : Placed = record { place = record { event = number; index = index }; mapping = m } in
    let ids : List (List ℕ) = map (λ (n : Mapping). n.id) ms in
    let free : has_id ms m.id ≡ false =
    sym (any_map (λ (n : Mapping). n.id) (λ o. bytes_eq o m.id) ms) ∙ head_differs m.id ids h in
    ap (λ b. length (cond b rest (first ∷ rest))) free
    ∙ ap suc (all_placed number (index + 1) ms (tail_differs m.id ids h))

all_left : (es : List Entry) (ms : List Mapping)
    → all_differ (map (λ e. e.id) es ++ map (λ m. m.id) ms) ≡ true
    → length (filter (λ p. not (has_id ms p.mapping.id)) (map placed_of es)) ≡ length es
all_left [] ms h = refl
all_left (e ∷ es) ms h =
    let left : List Placed = filter (λ p. not (has_id ms p.mapping.id)) (map placed_of es) in
    let before : List (List ℕ) = map (λ (d : Entry). d.id) es in
    let ids : List (List ℕ) = map (λ (n : Mapping). n.id) ms in
    let free : has_id ms e.id ≡ false =
    sym (any_map (λ (n : Mapping). n.id) (λ o. bytes_eq o e.id) ms) ∙ none_later e.id before ids h in
    ap (λ b. length (cond (not b) (placed_of e ∷ left) left)) free
    ∙ ap suc (all_left es ms (tail_differs e.id (before ++ ids) h))

-- then all stay, and all come
pub all_new : (es : List Entry) (ms : List Mapping) (number index : ℕ)
    → all_differ (map (λ e. e.id) es ++ map (λ m. m.id) ms) ≡ true
    → length es + length ms
    ≡ length (filter (λ p. not (has_id ms p.mapping.id)) (map placed_of es) ++ placed_from number index ms)
all_new es ms number index h =
    let left : List Placed = filter (λ p. not (has_id ms p.mapping.id)) (map placed_of es) in
    let come : List Placed = placed_from number index ms in
    (λ i. sym (all_left es ms h) i
    + sym (all_placed number index ms
    (last_differ (map (λ (e : Entry). e.id) es) (map (λ (m : Mapping). m.id) ms) h)) i)
    ∙ sym (length-append left come)
