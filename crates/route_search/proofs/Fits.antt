-- Which paths fit a route of the router `matchit`, whose pattern is a list of bytes and parameters.
use Rattle.std.proofs.Common.{◌≡◌, ◌<◌, ◌⊎◌, ℕ, List, [], ◌∷◌, ◌++◌}
use Rattle.matchit.specs.Rows.{RowsOf, param_token}
use Rattle.route_search.specs.Segment.{slash, IsSegment}

-- the path begins with what the token stands for, a byte or a segment, and goes on with the rest
abbrev pub Begins : ℕ → List ℕ → List ℕ → Type 0
Begins token path rest =
    ((token < param_token) × (path ≡ token ∷ rest))
    ⊎ ((token ≡ param_token) × ((value : List ℕ) × IsSegment value × (path ≡ value ++ rest)))

-- the path is the pattern with a segment in the place of each parameter
abbrev pub Fits : List ℕ → List ℕ → Type 0
Fits [] path = path ≡ []
Fits (token ∷ pattern) path = (rest : List ℕ) × Begins token path rest × Fits pattern rest

-- the pattern is at its end, or goes on with a slash
abbrev pub EndsSegment : List ℕ → Type 0
EndsSegment [] = Unit {0}
EndsSegment (token ∷ pattern) = token ≡ slash

-- the pattern has bytes and parameters alone, and each parameter is the last of its segment
abbrev pub IsWhole : List ℕ → Type 0
IsWhole [] = Unit {0}
IsWhole (token ∷ pattern) =
    ((token < param_token) ⊎ ((token ≡ param_token) × EndsSegment pattern)) × IsWhole pattern

module _ {K : Type 0} where
  abbrev pub AllWhole : RowsOf K → Type 0
  AllWhole [] = Unit {0}
  AllWhole ((pattern, key) ∷ rows) = IsWhole pattern × AllWhole rows

  -- the row is one of these
  abbrev pub Has : List ℕ → K → RowsOf K → Type 0
  Has pattern key [] = ⊥
  Has pattern key ((p, k) ∷ rows) = ((p ≡ pattern) × (k ≡ key)) ⊎ Has pattern key rows
