-- The page that a server is given in a file.
use Rattle.std.specs.Prelude.{◌≡◌, ◌≤◌, ℕ, List, Option, IfSome, length}
use Rattle.mock.specs.declared.page.TheConstants.{PAGE_LIMIT}

-- all of the file, where it is known, within the limit
abbrev pub IsPage : Option (List ℕ) → List ℕ → Type 0
IsPage known page = IfSome known (λ all. page ≡ all) × (length page ≤ PAGE_LIMIT)
