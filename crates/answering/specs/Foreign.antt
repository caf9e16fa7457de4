-- Which requests a page of another site makes, as a browser tells it.
use Rattle.std.specs.Prelude.{◌≡◌, ◌⊎◌, ℕ, List, ◌++◌, map, codes, Any}
use Rattle.std.specs.Char.{to_ascii_lowercase}
use Rattle.mock_request.specs.Request.{Header}

abbrev pub lower_case : List ℕ → List ℕ
lower_case bytes = map to_ascii_lowercase bytes

-- it is the origin of a site with this authority (RFC 6454, section 6.2); neither has a case
abbrev pub IsOf : List ℕ → List ℕ → Type 0
IsOf authority origin =
    (lower_case origin ≡ codes "http://" ++ lower_case authority)
    ⊎ (lower_case origin ≡ codes "https://" ++ lower_case authority)

-- a `host` header that names the site of the origin
abbrev pub NamesHost : List ℕ → Header → Type 0
NamesHost origin header = (header.name ≡ codes "host") × IsOf header.value origin

abbrev pub HasHost : List Header → List ℕ → Type 0
HasHost headers origin = Any (NamesHost origin) headers

-- an `origin` header whose site no `host` header names
abbrev pub IsOtherOrigin : List Header → Header → Type 0
IsOtherOrigin headers header = (header.name ≡ codes "origin") × ¬ (HasHost headers header.value)

abbrev pub IsForeign : List Header → Type 0
IsForeign headers = Any (IsOtherOrigin headers) headers
