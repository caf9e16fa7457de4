-- The parts of a URL: its path, the segments of its path, and its query text.
use Rattle.std.specs.Prelude.{ℕ, Bool, List, [], ◌∷◌, Option, None, Some, ◌==◌, if◌then◌else◌}
use Rattle.std.specs.List.{before_first, after_first, slice_split, list_any}
use Rattle.mock_request.specs.Target.{slash, question_mark}

abbrev pub is_slash : ℕ → Bool
is_slash b = b == slash

abbrev pub is_question_mark : ℕ → Bool
is_question_mark b = b == question_mark

-- what is before the first question mark
abbrev pub path_of : List ℕ → List ℕ
path_of url = before_first is_question_mark url

-- what follows it, where there is one
abbrev pub query_of : List ℕ → Option (List ℕ)
query_of url = if list_any is_question_mark url then Some (after_first is_question_mark url) else None

-- the pieces between slashes after the leading one; a slash alone has none
abbrev pub segments_of : List ℕ → List (List ℕ)
segments_of [] = []
segments_of (leading ∷ []) = []
segments_of (leading ∷ b ∷ bs) = slice_split is_slash (b ∷ bs)
