-- What a tag says where it has no error, and else the first of its errors in the order in which they are reported.
use Rattle.std.specs.Prelude.{ℕ, zero, suc, Bool, true, false, List, [], ◌∷◌, Option, Some, None, Result, Ok, Err}
use Rattle.template_words.specs.Errors.{joined}
use Rattle.template_words.specs.declared.error.TagError.{TagError}

-- the list has that many elements
abbrev pub has_count : {A : Type 0} → ℕ → List A → Bool
has_count zero [] = true
has_count (suc n) (x ∷ xs) = has_count n xs
has_count n xs = false

-- the error, where it is one
abbrev pub when : Bool → TagError → List TagError
when true e = e ∷ []
when false e = []

-- the first in that order, wherever in the list it is
abbrev pub first_of : List TagError → Option TagError
first_of [] = None
first_of (e ∷ errors) = joined (Some e) (first_of errors)

abbrev pub checked : {A : Type 0} → Option TagError → A → Result A TagError
checked None x = Ok x
checked (Some e) x = Err e

-- the value, or the error that is reported of these
abbrev pub reported : {A : Type 0} → List TagError → A → Result A TagError
reported errors x = checked (first_of errors) x
