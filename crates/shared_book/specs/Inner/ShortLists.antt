-- Lists that lie one after another in one block.
use Rattle.std.specs.Prelude.{◌≡◌, ◌<◌, ℕ, List, [], ◌∷◌, All, drop, length, sum, take}

-- the numbers, cut into lists of these sizes
abbrev pub cut : List ℕ → List ℕ → List (List ℕ)
cut [] numbers = []
cut (size ∷ sizes) numbers = take size numbers ∷ cut sizes (drop size numbers)

-- no list is empty, and together they are as many as these numbers
pub record AreSizes (sizes numbers : List ℕ) : Type 0 where
  pub some : All (λ size. 0 < size) sizes
  pub all : sum sizes ≡ length numbers
