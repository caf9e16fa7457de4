-- Live mappings as they are kept: those that are known by one literal URL together, in the order of choice, and each
-- under an id of its own.
use Rattle.std.specs.Prelude.{◌≡◌, ℕ, ◌<◌, Bool, false, not, List, [], ◌∷◌, ◌++◌, length, All}
use Rattle.std.specs.Prelude.{AllPairs, IsPermutation, filter, slice_index_or}
use Rattle.std.specs.List.{IsDistinct}
use Rattle.std.specs.Ordering.{nat_cmp, int_cmp, ordering_then, is_gt}
use Rattle.std.specs.Str.{bytes_eq}
use Rattle.std.specs.declared.cmp.Ordering.{Ordering}
use Rattle.mapping_model.specs.Priority.{priority_of}
use Rattle.mapping_model.specs.declared.mapping_spec.MappingSpec.{MappingSpec}
use Rattle.request_journal.specs.Past.{Placed, has_id, placed_from}
use Rattle.request_journal.specs.declared.mapping.Mapping.{Mapping}
use Rattle.request_match.specs.Parts.Key.{key_of}
use Rattle.request_match.specs.declared.url_key.UrlKey.{UrlKey}
use Rattle.request_match.specs.declared.url_key.UrlKey.TheVariants as key
use Rattle.mapping_store.specs.declared.entry.Entry.{Entry}
use Rattle.mapping_store.specs.declared.entry.Source.{Source}
use Rattle.mapping_store.specs.declared.entry.Source.TheVariants.{Own, Default}

-- the live mapping of an entry
abbrev pub placed_of : Entry → Placed
placed_of e = record {
  place = record { event = e.event; index = e.index };
  mapping = record { id = e.id; spec = e.seen.value };
}

-- `Less` where the first wins: by a lower priority number, or as the newer of equals
abbrev pub choice_order : Entry → Entry → Ordering
choice_order a b =
    ordering_then (int_cmp a.priority b.priority)
    (ordering_then (nat_cmp b.event a.event) (nat_cmp b.index a.index))

-- the second doesn't win over the first
abbrev pub IsFirst : Entry → Entry → Type 0
IsFirst a b = is_gt (choice_order a b) ≡ false

-- keys by their kind, and those of a kind by their hash
abbrev pub kind_of : UrlKey → ℕ
kind_of key.Any = 0
kind_of (key.Url hash) = 1
kind_of (key.UrlPath hash) = 2

abbrev pub hash_in : UrlKey → ℕ
hash_in key.Any = 0
hash_in (key.Url hash) = hash
hash_in (key.UrlPath hash) = hash

abbrev pub key_order : UrlKey → UrlKey → Ordering
key_order a b = ordering_then (nat_cmp (kind_of a) (kind_of b)) (nat_cmp (hash_in a) (hash_in b))

-- entries by their keys, and those of a key in the order of choice
abbrev pub order : Entry → Entry → Ordering
order a b = ordering_then (key_order a.key b.key) (choice_order a b)

abbrev pub IsBefore : Entry → Entry → Type 0
IsBefore a b = is_gt (order a b) ≡ false

abbrev pub have_one_id : Entry → Entry → Bool
have_one_id a b = bytes_eq a.id b.id

-- the source has the matcher of this mapping
abbrev pub IsSourceOf : List Mapping → MappingSpec → Source → Type 0
IsSourceOf defaults spec (Own mapping) = mapping.spec ≡ spec
IsSourceOf defaults spec (Default at) =
    (at < length defaults) × ((d : Mapping) → (slice_index_or defaults at d).spec ≡ spec)

-- what an entry keeps is that of its mapping
pub record Fits (defaults : List Mapping) (e : Entry) : Type 0 where
  pub priority : e.priority ≡ priority_of e.seen.value.priority
  pub key : e.key ≡ key_of e.seen.value.request.url
  pub source : IsSourceOf defaults e.seen.value e.source

-- entries in their order, each with an id of its own
pub record AreKept (defaults : List Mapping) (entries : List Entry) : Type 0 where
  pub fit : All (Fits defaults) entries
  pub ids : IsDistinct have_one_id entries
  pub in_order : AllPairs IsBefore entries

-- the entries with another id
abbrev pub without : List ℕ → List Entry → List Entry
without id entries = filter (λ e. not (bytes_eq id e.id)) entries

-- for each mapping, whether none after it has its id
abbrev pub lasts_of : List Mapping → List Bool
lasts_of [] = []
lasts_of (m ∷ ms) = not (has_id ms m.id) ∷ lasts_of ms

-- the live mappings after one event that adds these, in order, to the old ones
abbrev pub Adds : ℕ → List Placed → List Mapping → List Placed → Type 0
Adds number old mappings new =
    IsPermutation (filter (λ p. not (has_id mappings p.mapping.id)) old ++ placed_from number 0 mappings) new
