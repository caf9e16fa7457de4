-- Equal keys of a list as groups: which of its group a key is, of how many, and which of the larger groups that is.
use Rattle.std.specs.Prelude.{ℕ, ◌+◌, Bool, ◌&&◌, ◌==◌, nat_lt, if◌then◌else◌, List, [], ◌∷◌, ◌++◌, Option, count_by}
use Rattle.std.specs.List.{position_from}
use Rattle.key_groups.specs.declared.place.Place.{Place}

-- `same` tells whether two keys are equal, `all` are all of the keys, `before` those before this one
module _ {K : Type 0} (same : K → K → Bool) where
  -- how many of the keys are equal to this one
  abbrev pub times : K → List K → ℕ
  times key keys = count_by (λ other. same other key) keys

  -- it is the first of its group, which has two or more
  abbrev pub begins_larger : List K → List K → K → Bool
  begins_larger all before key = (times key before == 0) && nat_lt 1 (times key all)

  -- the first key of each group that has two or more, in order; `rest` are the keys after `before`
  abbrev pub larger_from : List K → List K → List K → List K
  larger_from all before [] = []
  larger_from all before (key ∷ rest) =
      (if begins_larger all before key then key ∷ [] else []) ++ larger_from all (before ++ key ∷ []) rest

  abbrev pub larger_groups : List K → List K
  larger_groups all = larger_from all [] all

  -- which of these groups the key's is, from 1; none for a group of one
  abbrev pub group_of : List K → K → Option ℕ
  group_of all key = position_from (λ other. same other key) 1 (larger_groups all)

  abbrev pub place_of : List K → List K → K → Place
  place_of all before key = record {
    position = times key before + 1;
    size = times key all;
    group = group_of all key;
  }

  abbrev pub places_from : List K → List K → List K → List Place
  places_from all before [] = []
  places_from all before (key ∷ rest) = place_of all before key ∷ places_from all (before ++ key ∷ []) rest

  -- the place of each key, in their order
  abbrev pub places_of : List K → List Place
  places_of keys = places_from keys [] keys
