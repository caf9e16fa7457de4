-- The rows of the router of admin paths, and how it is filled.
use Rattle.std.specs.Prelude.{◌++◌, ℕ, List, [], ◌∷◌, Bool, true, false, ◌&&◌, Result, Ok, Err, codes, map, is_none}
use Rattle.std.specs.Borrow.{Bor}
use Rattle.matchit.specs.Order.{placed}
use Rattle.matchit.specs.Params.{Shows}
use Rattle.matchit.specs.Route.{Scan, parse_route}
use Rattle.matchit.specs.Router.{RouteOf, route_from, nearest}
use Rattle.matchit.specs.Rows.{RowsOf, param_token}
use Rattle.matchit.specs.declared.error.InsertError.{InsertError}
use Rattle.admin_routes.specs.Places.{path_at}
use Rattle.admin_routes.specs.declared.place.Place.{Place}
use Rattle.admin_routes.specs.declared.place.Place.TheVariants as place

abbrev pub Rows : Type 0
Rows = RowsOf (RouteOf Place)

abbrev pub PathAndPlace : Type 0
PathAndPlace = Bor (List ℕ) × Place

-- ---- how it is filled

-- the rows with one more, and whether it has a place among them
abbrev pub with_route : Result Scan InsertError → Place → Rows → Rows
with_route (Ok scan) place rows = placed (scan.pattern, route_from scan place) rows
with_route (Err error) place rows = rows

abbrev pub can_insert : Result Scan InsertError → Rows → Bool
can_insert (Ok scan) rows = is_none (nearest scan.pattern rows)
can_insert (Err error) rows = false

abbrev pub put : List PathAndPlace → Rows → Rows
put [] rows = rows
put (entry ∷ entries) rows = put entries (with_route (parse_route entry.0.now) entry.1 rows)

abbrev pub is_clean : List PathAndPlace → Rows → Bool
is_clean [] rows = true
is_clean (entry ∷ entries) rows =
    can_insert (parse_route entry.0.now) rows
    && is_clean entries (with_route (parse_route entry.0.now) entry.1 rows)

-- ---- the rows

abbrev pub pattern_at : Place → List ℕ
pattern_at place.Mapping = codes "/__admin/mappings/" ++ param_token ∷ []
pattern_at place.ScenarioState = codes "/__admin/scenarios/" ++ param_token ∷ codes "/state"
pattern_at other = path_at other []

abbrev pub text_at : Place → List ℕ
text_at place.Mapping = path_at place.Mapping (codes "{id}")
text_at place.ScenarioState = path_at place.ScenarioState (codes "{name}")
text_at other = path_at other []

-- where the name of the parameter is in the text
abbrev pub names_at : Place → List (ℕ × ℕ)
names_at place.Mapping = (19, 21) ∷ []
names_at place.ScenarioState = (20, 24) ∷ []
names_at other = []

abbrev pub route_row : Place → RouteOf Place
route_row p = record { pattern = pattern_at p; text = text_at p; names = names_at p; value = p }

abbrev pub row_at : Place → List ℕ × RouteOf Place
row_at p = (pattern_at p, route_row p)

-- all places, in the order of the rows
abbrev pub places : List Place
places =
    place.Mapping ∷ place.Mappings ∷ place.RecordingHar ∷ place.RecordingStart ∷ place.RecordingStatus
    ∷ place.RecordingStop ∷ place.Count ∷ place.Find ∷ place.Unmatched ∷ place.Requests ∷ place.Reset
    ∷ place.ScenariosReset ∷ place.ScenarioState ∷ place.Scenarios ∷ []

abbrev pub rows : Rows
rows = map row_at places

-- ---- the parameter of a path

-- the text is what the first name took of the path, if that is a text
abbrev pub ShowsFirst : List (List ℕ × List ℕ) → List ℕ → Type 0
ShowsFirst [] shown = Unit {0}
ShowsFirst (part ∷ parts) shown = Shows part.1 shown
