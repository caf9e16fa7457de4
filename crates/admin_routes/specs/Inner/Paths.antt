-- How the path of an admin call begins.
use Rattle.std.specs.Prelude.{ℕ, List, [], ◌∷◌, Bool, true, false, ◌&&◌, codes}
use Rattle.std.specs.Str.{bytes_eq}

abbrev pub is_empty : List ℕ → Bool
is_empty [] = true
is_empty (b ∷ bs) = false

-- the first segment of the path is `__admin`
abbrev pub is_admin_in : List (List ℕ) → Bool
is_admin_in [] = false
is_admin_in (before ∷ []) = false
is_admin_in (before ∷ admin ∷ below) = is_empty before && bytes_eq admin (codes "__admin")
