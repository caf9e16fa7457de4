-- The line of a request.
use Rattle.std.specs.Prelude.{ℕ, List, ◌++◌, codes, decimal, Option, None, Some}

-- the number of its event, if it has one
abbrev pub number_text : Option ℕ → List ℕ
number_text None = codes "-"
number_text (Some number) = decimal number

-- the number, the method and the URL, as `7 GET /todo`
abbrev pub asked_text : Option ℕ → List ℕ → List ℕ → List ℕ
asked_text number method url = number_text number ++ (codes " " ++ (method ++ (codes " " ++ url)))

-- these, by what it was answered, and the status, as `7 GET /todo unmatched 404`
abbrev pub request_line : Option ℕ → List ℕ → List ℕ → List ℕ → ℕ → List ℕ
request_line number method url answerer status =
    asked_text number method url ++ (codes " " ++ (answerer ++ (codes " " ++ (decimal status ++ codes "\n"))))
