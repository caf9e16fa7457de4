-- Names with values, where a name stands once for values that follow each other.
use Rattle.std.specs.Prelude.{◌≡◌, ℕ, List, [], ◌∷◌, map}
use Rattle.std.specs.Cmp.Lexicographic.{slice_cmp}
use Rattle.std.specs.List.{flat_map}
use Rattle.std.specs.Ordering.{nat_cmp}
use Rattle.std.specs.declared.cmp.Ordering.TheVariants.{Less}

-- a name and its values
abbrev pub Run : Type 0
Run = List ℕ × List (List ℕ)

-- a name with each of the values
abbrev pub pairs_under : List ℕ → List (List ℕ) → List (List ℕ × List ℕ)
pairs_under name values = map (λ value. (name, value)) values

abbrev pub run_pairs : Run → List (List ℕ × List ℕ)
run_pairs run = pairs_under run.0 run.1

abbrev pub pairs_of_runs : List Run → List (List ℕ × List ℕ)
pairs_of_runs runs = flat_map run_pairs runs

-- the name is before the first of the others
abbrev pub IsBefore : List ℕ → List Run → Type 0
IsBefore name [] = Unit {0}
IsBefore name (run ∷ runs) = slice_cmp nat_cmp name run.0 ≡ Less

-- each name is before the next
abbrev pub AreInOrder : List Run → Type 0
AreInOrder [] = Unit {0}
AreInOrder (run ∷ runs) = IsBefore run.0 runs × AreInOrder runs
