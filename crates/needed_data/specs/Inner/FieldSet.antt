-- Sets of fields of a request, as the bits of a number.
use Rattle.std.specs.Prelude.{ℕ, ◌==◌, Bool, IsTrue, List, [], ◌∷◌, map, filter}
use Rattle.std.specs.Int.{bit_at}
use Rattle.std.specs.List.{list_any}
use Rattle.std.specs.Str.{bytes_eq}
use Rattle.needed_data.specs.Fields.{name_of}
use Rattle.needed_data.specs.declared.request_field.RequestField.{RequestField}
use Rattle.needed_data.specs.declared.request_field.RequestField.TheVariants.{BaseUrl, Body, Cookies, Headers, Host}
use Rattle.needed_data.specs.declared.request_field.RequestField.TheVariants.{Method, Path, PathSegments, Port}
use Rattle.needed_data.specs.declared.request_field.RequestField.TheVariants.{Query, Scheme, Url}

abbrev pub index_of : RequestField → ℕ
index_of BaseUrl = 0
index_of Body = 1
index_of Cookies = 2
index_of Headers = 3
index_of Host = 4
index_of Method = 5
index_of Path = 6
index_of PathSegments = 7
index_of Port = 8
index_of Query = 9
index_of Scheme = 10
index_of Url = 11

abbrev pub all_fields : List RequestField
all_fields =
    BaseUrl ∷ Body ∷ Cookies ∷ Headers ∷ Host ∷ Method ∷ Path ∷ PathSegments ∷ Port ∷ Query ∷ Scheme ∷ Url ∷ []

abbrev pub is_in : ℕ → RequestField → Bool
is_in set field = bit_at set (index_of field) == 1

unfoldable pub names_in : ℕ → List (List ℕ)
names_in set = map name_of (filter (is_in set) all_fields)

-- a field of that name is in the set
abbrev pub has_name : ℕ → List ℕ → Bool
has_name set name = list_any (λ other. bytes_eq other name) (names_in set)

-- the names of the second are among those of the first
abbrev pub HasNamesOf : ℕ → ℕ → Type 0
HasNamesOf more less = (name : List ℕ) → IsTrue (has_name less name) → IsTrue (has_name more name)
