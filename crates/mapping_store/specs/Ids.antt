-- Ids of which some may be equal.
use Rattle.std.specs.Prelude.{ℕ, ◌==◌, Bool, not, List, [], ◌∷◌}
use Rattle.std.specs.List.{list_any, list_all}
use Rattle.std.specs.Str.{bytes_eq}
use Rattle.key_groups.specs.declared.place.Place.{Place}

-- for each id, whether none after it is equal
abbrev pub lasts_among : List (List ℕ) → List Bool
lasts_among [] = []
lasts_among (id ∷ ids) = not (list_any (λ other. bytes_eq other id) ids) ∷ lasts_among ids

-- no two are equal
abbrev pub all_differ : List (List ℕ) → Bool
all_differ ids = list_all (λ last. last) (lasts_among ids)

abbrev pub is_last : Place → Bool
is_last place = place.position == place.size
