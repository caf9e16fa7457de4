-- How a block of bytes, with the ends of its parts beside it, is a list of byte strings.
use Rattle.std.specs.Prelude.{◌≡◌, ℕ, ◌≤◌, List, [], ◌∷◌, zero, suc, slice_range, slice_index}

-- the parts that end at these ends; the first begins at `start`, each other one where the one before it ends
abbrev pub parts_from : ℕ → List ℕ → List ℕ → List (List ℕ)
parts_from start [] bytes = []
parts_from start (end ∷ ends) bytes = slice_range bytes start end ∷ parts_from end ends bytes

-- where the part at an index begins
abbrev pub start_at : ℕ → List ℕ → ℕ → ℕ
start_at start ends zero = start
start_at start ends (suc index) = slice_index ends index

-- no end is before the one before it, and the last one is the end of the block
abbrev pub AreEnds : ℕ → List ℕ → ℕ → Type 0
AreEnds start [] total = start ≡ total
AreEnds start (end ∷ ends) total = (start ≤ end) × AreEnds end ends total
