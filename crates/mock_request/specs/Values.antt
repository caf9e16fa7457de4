-- Names with values, as the query, the headers and the cookies of a request give them: one list of pairs in the
-- order of the request, in which a name may come more than once.
use Rattle.std.specs.Prelude.{ℕ, List, [], ◌∷◌, map, String, string_bytes}
use Rattle.std.specs.List.{filter}
use Rattle.std.specs.Str.{bytes_eq}
use Rattle.std.specs.declared.alloc.Global.{Global}

-- the bytes of a name and of its value
abbrev pub pair_of : String Global × String Global → List ℕ × List ℕ
pair_of pair = (string_bytes pair.0, string_bytes pair.1)

abbrev pub pairs_of : List (String Global × String Global) → List (List ℕ × List ℕ)
pairs_of pairs = map pair_of pairs

-- all values of a name, in the order of the pairs
abbrev pub values_of : List ℕ → List (List ℕ × List ℕ) → List (List ℕ)
values_of name pairs = map (λ pair. pair.1) (filter (λ pair. bytes_eq name pair.0) pairs)

-- the first of the values, and the empty text where there is none, as in a request with no `host` header
abbrev pub first_of : List (List ℕ) → List ℕ
first_of [] = []
first_of (v ∷ vs) = v
