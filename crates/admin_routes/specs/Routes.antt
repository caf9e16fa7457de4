-- The table of the admin calls (WireMock's documentation, "Admin API"): the method and the path of each.
use Rattle.std.specs.Prelude.{◌≡◌, ℕ, List, [], ◌∷◌, codes}
use Rattle.std.specs.List.{slice_split}
use Rattle.admin_routes.specs.Places.{IsPath}
use Rattle.admin_routes.specs.declared.place.Place.{Place}
use Rattle.admin_routes.specs.declared.place.Place.TheVariants as place
use Rattle.admin_routes.specs.declared.route.Route.{Route}
use Rattle.admin_routes.specs.declared.route.Route.TheVariants.{ListMappings, AddMapping, DeleteMappings, ReadMapping}
use Rattle.admin_routes.specs.declared.route.Route.TheVariants.{EditMapping, DeleteMapping, ResetMappings, ResetAll}
use Rattle.admin_routes.specs.declared.route.Route.TheVariants.{ResetScenarios, ListRequests, ClearRequests}
use Rattle.admin_routes.specs.declared.route.Route.TheVariants.{ListUnmatched, FindRequests, CountRequests}
use Rattle.admin_routes.specs.declared.route.Route.TheVariants.{ListScenarios, SetScenario, StartRecording}
use Rattle.admin_routes.specs.declared.route.Route.TheVariants.{StopRecording, ReadRecordingStatus, ReadRecordingHar}
use Rattle.mock_request.specs.Url.{is_slash, path_of}

abbrev pub method_of : Route → List ℕ
method_of ListMappings = codes "GET"
method_of AddMapping = codes "POST"
method_of DeleteMappings = codes "DELETE"
method_of (ReadMapping id) = codes "GET"
method_of (EditMapping id) = codes "PUT"
method_of (DeleteMapping id) = codes "DELETE"
method_of ResetMappings = codes "POST"
method_of ResetAll = codes "POST"
method_of ListRequests = codes "GET"
method_of ClearRequests = codes "DELETE"
method_of ListUnmatched = codes "GET"
method_of FindRequests = codes "POST"
method_of CountRequests = codes "POST"
method_of ListScenarios = codes "GET"
method_of ResetScenarios = codes "POST"
method_of (SetScenario name) = codes "PUT"
method_of StartRecording = codes "POST"
method_of StopRecording = codes "POST"
method_of ReadRecordingStatus = codes "GET"
method_of ReadRecordingHar = codes "GET"

abbrev pub place_of : Route → Place
place_of ListMappings = place.Mappings
place_of AddMapping = place.Mappings
place_of DeleteMappings = place.Mappings
place_of (ReadMapping id) = place.Mapping
place_of (EditMapping id) = place.Mapping
place_of (DeleteMapping id) = place.Mapping
place_of ResetMappings = place.Mapping
place_of ResetAll = place.Reset
place_of ListRequests = place.Requests
place_of ClearRequests = place.Requests
place_of ListUnmatched = place.Unmatched
place_of FindRequests = place.Find
place_of CountRequests = place.Count
place_of ListScenarios = place.Scenarios
place_of ResetScenarios = place.ScenariosReset
place_of (SetScenario name) = place.ScenarioState
place_of StartRecording = place.RecordingStart
place_of StopRecording = place.RecordingStop
place_of ReadRecordingStatus = place.RecordingStatus
place_of ReadRecordingHar = place.RecordingHar

-- what is in the place of an id or of a name: `POST /__admin/mappings/reset` has the id `reset`
abbrev pub parameter_of : Route → List ℕ
parameter_of (ReadMapping id) = id
parameter_of (EditMapping id) = id
parameter_of (DeleteMapping id) = id
parameter_of ResetMappings = codes "reset"
parameter_of (SetScenario name) = name
parameter_of other = []

-- the method and the path of the URL are those of the call
pub record Names (method url : List ℕ) (route : Route) : Type 0 where
  pub same_method : method ≡ method_of route
  pub is_path : IsPath (place_of route) (parameter_of route) (path_of url)

-- the path of the URL is `/__admin`, or below it
abbrev pub IsAdmin : List ℕ → Type 0
IsAdmin url = (below : List (List ℕ)) × (slice_split is_slash (path_of url) ≡ [] ∷ codes "__admin" ∷ below)
