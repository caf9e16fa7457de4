-- The call of a place by its method.
use Rattle.std.specs.Prelude.{ℕ, List, ◌&&◌, Option, Some, None, codes, if◌then◌else◌}
use Rattle.std.specs.Str.{bytes_eq}
use Rattle.admin_routes.specs.declared.place.Place.{Place}
use Rattle.admin_routes.specs.declared.place.Place.TheVariants as place
use Rattle.admin_routes.specs.declared.route.Route.{Route}
use Rattle.admin_routes.specs.declared.route.Route.TheVariants as route

abbrev pub when : List ℕ → List ℕ → Route → Option Route
when method wanted found = if bytes_eq method wanted then Some found else None

abbrev pub mapping_at : List ℕ → List ℕ → Option Route
mapping_at method id =
    if bytes_eq method (codes "GET") then Some (route.ReadMapping id)
    else (if bytes_eq method (codes "PUT") then Some (route.EditMapping id)
    else (if bytes_eq method (codes "DELETE") then Some (route.DeleteMapping id)
    else (if bytes_eq method (codes "POST") && bytes_eq id (codes "reset") then Some route.ResetMappings else None)))

abbrev pub mappings_at : List ℕ → Option Route
mappings_at method =
    if bytes_eq method (codes "GET") then Some route.ListMappings
    else (if bytes_eq method (codes "POST") then Some route.AddMapping
    else (if bytes_eq method (codes "DELETE") then Some route.DeleteMappings else None))

abbrev pub requests_at : List ℕ → Option Route
requests_at method =
    if bytes_eq method (codes "GET") then Some route.ListRequests
    else (if bytes_eq method (codes "DELETE") then Some route.ClearRequests else None)

abbrev pub call_at : List ℕ → Place → List ℕ → Option Route
call_at method place.Mappings parameter = mappings_at method
call_at method place.Mapping parameter = mapping_at method parameter
call_at method place.Reset parameter = when method (codes "POST") route.ResetAll
call_at method place.Requests parameter = requests_at method
call_at method place.Unmatched parameter = when method (codes "GET") route.ListUnmatched
call_at method place.Find parameter = when method (codes "POST") route.FindRequests
call_at method place.Count parameter = when method (codes "POST") route.CountRequests
call_at method place.Scenarios parameter = when method (codes "GET") route.ListScenarios
call_at method place.ScenariosReset parameter = when method (codes "POST") route.ResetScenarios
call_at method place.ScenarioState parameter = when method (codes "PUT") (route.SetScenario parameter)
call_at method place.RecordingStart parameter = when method (codes "POST") route.StartRecording
call_at method place.RecordingStop parameter = when method (codes "POST") route.StopRecording
call_at method place.RecordingStatus parameter = when method (codes "GET") route.ReadRecordingStatus
call_at method place.RecordingHar parameter = when method (codes "GET") route.ReadRecordingHar
