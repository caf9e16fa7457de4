-- The paths of admin calls (WireMock's documentation, "Admin API").
use Rattle.std.specs.Prelude.{◌≡◌, ◌++◌, ℕ, List, codes}
use Rattle.admin_routes.specs.declared.place.Place.{Place}
use Rattle.admin_routes.specs.declared.place.Place.TheVariants as place
use Rattle.route_search.specs.Segment.{IsSegment}

-- the path of the place with this parameter, as it is sent: escapes aren't decoded
abbrev pub path_at : Place → List ℕ → List ℕ
path_at place.Mappings parameter = codes "/__admin/mappings"
path_at place.Mapping parameter = codes "/__admin/mappings/" ++ parameter
path_at place.Reset parameter = codes "/__admin/reset"
path_at place.Requests parameter = codes "/__admin/requests"
path_at place.Unmatched parameter = codes "/__admin/requests/unmatched"
path_at place.Find parameter = codes "/__admin/requests/find"
path_at place.Count parameter = codes "/__admin/requests/count"
path_at place.Scenarios parameter = codes "/__admin/scenarios"
path_at place.ScenariosReset parameter = codes "/__admin/scenarios/reset"
path_at place.ScenarioState parameter = codes "/__admin/scenarios/" ++ (parameter ++ codes "/state")
path_at place.RecordingStart parameter = codes "/__admin/recordings/start"
path_at place.RecordingStop parameter = codes "/__admin/recordings/stop"
path_at place.RecordingStatus parameter = codes "/__admin/recordings/status"
path_at place.RecordingHar parameter = codes "/__admin/recordings/har"

-- a parameter, where the place has one, is a segment: it isn't empty and has no slash
abbrev pub HasParameter : Place → List ℕ → Type 0
HasParameter place.Mapping parameter = IsSegment parameter
HasParameter place.ScenarioState parameter = IsSegment parameter
HasParameter other parameter = Unit {0}

-- the path is that of the place with this parameter
pub record IsPath (place : Place) (parameter path : List ℕ) : Type 0 where
  pub same_path : path ≡ path_at place parameter
  pub has_parameter : HasParameter place parameter
