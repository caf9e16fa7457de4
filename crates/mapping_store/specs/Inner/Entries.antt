-- What a store keeps, and the order of a listing.
use Rattle.std.specs.Prelude.{◌≡◌, ℕ, ◌≤◌, Bool, List, length}
use Rattle.std.specs.Ordering.{nat_cmp, ordering_then}
use Rattle.std.specs.declared.cmp.Ordering.{Ordering}
use Rattle.request_journal.specs.Past.{Placed}
use Rattle.request_journal.specs.declared.mapping.Mapping.{Mapping}
use Rattle.mapping_store.specs.Kept.{AreKept, lasts_of}
use Rattle.mapping_store.specs.declared.entry.Entry.{Entry}

-- the entries, with room for all defaults, and which defaults a reset brings back
pub record IsStore (defaults : List Mapping) (lasts : List Bool) (entries : List Entry) (capacity : ℕ) : Type 0 where
  pub lasts_are : lasts ≡ lasts_of defaults
  pub kept : AreKept defaults entries
  pub room : length defaults ≤ capacity

-- `Less` where the first is newer
abbrev pub by_age : Placed → Placed → Ordering
by_age a b = ordering_then (nat_cmp b.place.event a.place.event) (nat_cmp b.place.index a.place.index)
