-- What events add has places of these events alone. So no event of another number gives the same place.
use Rattle.std.proofs.Common.{ℕ, ◌+◌, ◌-◌, ◌≤◌, true, false, not, cond, List, [], ◌∷◌, ◌++◌, length, map, arith}
use Rattle.std.specs.List.{filter}
use Rattle.request_journal.specs.Live.{live, adds, added_by, added_mappings, edited, is_removed, left_by}
use Rattle.request_journal.specs.Past.{Past, Placed, has_id, placed_from, last_number}
use Rattle.request_journal.specs.declared.event.Event.{Event}
use Rattle.request_journal.specs.declared.mapping.Mapping.{Mapping}

-- the events of the places are from the first number up to the second
abbrev pub AreWithin : ℕ → ℕ → List Placed → Type 0
AreWithin low high [] = Unit {0}
AreWithin low high (p ∷ ps) = (low ≤ p.place.event) × (p.place.event ≤ high) × AreWithin low high ps

pub same_le : (n : ℕ) → n ≤ n
same_le n = omega arith

less : (a b c : ℕ) → a ≤ b → b ≤ c → a ≤ c
less a b c l r = omega arith

pub both_within
    : (low high : ℕ) (ps qs : List Placed) → AreWithin low high ps → AreWithin low high qs
    → AreWithin low high (ps ++ qs)
both_within low high [] qs h g = g
both_within low high (p ∷ ps) qs h g = (h.0, h.1, both_within low high ps qs h.2 g)

pub wider : (low lower high higher : ℕ) (ps : List Placed) → lower ≤ low → high ≤ higher
    → AreWithin low high ps → AreWithin lower higher ps
wider low lower high higher [] l r h = tt
wider low lower high higher (p ∷ ps) l r h =
    (less lower low p.place.event l h.0, less p.place.event high higher h.1 r, wider low lower high higher ps l r h.2)

pub left_within
    : (low high : ℕ) (es : List Event) (ps : List Placed) → AreWithin low high ps
    → AreWithin low high (left_by es ps)
left_within low high es [] h = tt
left_within low high es (p ∷ ps) h =
    elim (is_removed es p.mapping.id)
    as (λ r. AreWithin low high (map (edited es)
    (cond (not r) (p ∷ filter (λ q. not (is_removed es q.mapping.id)) ps)
    (filter (λ q. not (is_removed es q.mapping.id)) ps)))) [
      | true ↦ left_within low high es ps h.2
      | false ↦ (h.0, h.1, left_within low high es ps h.2)
    ]

pub placed_within : (number index : ℕ) (ms : List Mapping) → AreWithin number number (placed_from number index ms)
placed_within number index [] = tt
placed_within number index (m ∷ ms) =
    elim (has_id ms m.id)
    as (λ b. AreWithin number number (cond b (placed_from number (index + 1) ms)
    (record { place = record { event = number; index = index }; mapping = m } ∷ placed_from number (index + 1) ms))) [
      | true ↦ placed_within number (index + 1) ms
      | false ↦ (same_le number, same_le number, placed_within number (index + 1) ms)
    ]

pub added_within : (defaults : List Mapping) (number : ℕ) (es : List Event)
    → AreWithin number (number + length es - 1) (added_by defaults number es)
added_within defaults number [] = tt
added_within defaults number (e ∷ es) =
    let first : List Placed = left_by es (adds defaults number e) in
    let others : List Placed = added_by defaults (number + 1) es in
    both_within number (number + length (e ∷ es) - 1) first others
    (wider number number number (number + length (e ∷ es) - 1) first (same_le number) (omega arith)
    (left_within number number es (adds defaults number e)
    (placed_within number 0 (added_mappings defaults e))))
    (wider (number + 1) number (number + 1 + length es - 1) (number + length (e ∷ es) - 1) others
    (omega arith) (omega arith) (added_within defaults (number + 1) es))

-- no live mapping is newer than the last event, so the next one gives new places
pub live_within : (low : ℕ) (past : Past) → low ≤ past.base.number
    → AreWithin low past.base.number past.base.live → AreWithin low (last_number past) (live past)
live_within low past l h =
    let number : ℕ = past.base.number in
    both_within low (last_number past) (left_by past.events past.base.live)
    (added_by past.defaults (number + 1) past.events)
    (wider low low number (last_number past) (left_by past.events past.base.live) (same_le low) (omega arith)
    (left_within low number past.events past.base.live h))
    (wider (number + 1) low (number + 1 + length past.events - 1) (last_number past)
    (added_by past.defaults (number + 1) past.events) (omega arith) (omega arith)
    (added_within past.defaults (number + 1) past.events))
