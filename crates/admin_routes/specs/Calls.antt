-- What an admin call is, with its parameters and what its body asks for, and why it is refused.
use Rattle.std.specs.Prelude.{◌≡◌, ℕ, List, Some, None}
use Rattle.admin_json.specs.Bodies.{IsReadAs, IsBodyError}
use Rattle.admin_json.specs.Start.{reading_of_start}
use Rattle.admin_json.specs.State.{AsksFor, IsStateError}
use Rattle.admin_json.specs.declared.start.RecordingStart.{RecordingStart}
use Rattle.admin_routes.specs.Routes.{Names}
use Rattle.admin_routes.specs.Segment.{decoded}
use Rattle.admin_routes.specs.declared.call.AdminCall.{AdminCall}
use Rattle.admin_routes.specs.declared.call.AdminCall.TheVariants as call
use Rattle.admin_routes.specs.declared.error.AdminError.{AdminError}
use Rattle.admin_routes.specs.declared.error.AdminError.TheVariants as error
use Rattle.admin_routes.specs.declared.route.Route.{Route}
use Rattle.admin_routes.specs.declared.route.Route.TheVariants as route
use Rattle.json_reading.specs.declared.reading.Reading.TheVariants.{Read}
use Rattle.mapping_json.specs.Spelling.{SpellsDocument, IsDocumentError}
use Rattle.mapping_model.specs.declared.mapping_spec.MappingSpec.{MappingSpec}
use Rattle.mapping_model.specs.declared.request_spec.RequestSpec.{RequestSpec}
use Rattle.mapping_json.specs.RequestRefusal.{Spells, IsRefused}
use Rattle.request_journal.specs.declared.input.BookInput.TheVariants as input
use Rattle.request_journal.specs.declared.read.BookRead.TheVariants as read
use Rattle.request_match.specs.Refusal.{CanBeBuilt}
use Rattle.template_tree.specs.declared.escape.Escape.{Escape}
use Rattle.uuid.specs.Text.{parsed}

-- the call of the route that this body makes it, where the prints of a mapping's templates are escaped so; calls that
-- take no body ignore it
abbrev pub IsCallOf : Escape → Route → List ℕ → AdminCall → Type 0
IsCallOf escape route.ListMappings body found = found ≡ call.Read read.Mappings
IsCallOf escape route.AddMapping body found =
    (mapping : MappingSpec) × SpellsDocument escape body mapping × (found ≡ call.Change (input.Add mapping))
IsCallOf escape route.DeleteMappings body found = found ≡ call.Change input.DeleteAll
IsCallOf escape (route.ReadMapping text) body found =
    (id : List ℕ) × (parsed text ≡ Some id) × (found ≡ call.Read (read.Mapping id))
IsCallOf escape (route.EditMapping text) body found =
    (id : List ℕ) × (mapping : MappingSpec) × (parsed text ≡ Some id) × SpellsDocument escape body mapping
    × (found ≡ call.Change (input.Edit id mapping))
IsCallOf escape (route.DeleteMapping text) body found =
    (id : List ℕ) × (parsed text ≡ Some id) × (found ≡ call.Change (input.Delete id))
IsCallOf escape route.ResetMappings body found = found ≡ call.Change input.ResetMappings
IsCallOf escape route.ResetAll body found = found ≡ call.Change input.ResetAll
IsCallOf escape route.ListRequests body found = found ≡ call.Read read.Requests
IsCallOf escape route.ClearRequests body found = found ≡ call.Change input.ClearJournal
IsCallOf escape route.ListUnmatched body found = found ≡ call.Read read.Unmatched
IsCallOf escape route.FindRequests body found =
    (matcher : RequestSpec) × Spells body (Read matcher) × CanBeBuilt matcher × (found ≡ call.Read (read.Find matcher))
IsCallOf escape route.CountRequests body found =
    (matcher : RequestSpec) × Spells body (Read matcher) × CanBeBuilt matcher
    × (found ≡ call.Read (read.Count matcher))
IsCallOf escape route.ListScenarios body found = found ≡ call.Read read.Scenarios
IsCallOf escape route.ResetScenarios body found = found ≡ call.Change input.ResetScenarios
IsCallOf escape (route.SetScenario name) body found =
    (state : List ℕ) × AsksFor body state × (found ≡ call.Change (input.SetScenario (decoded name) state))
IsCallOf escape route.StartRecording body found =
    (start : RecordingStart) × IsReadAs reading_of_start body (Read start) × (found ≡ call.Change (input.StartRecording start.target start.captured start.repeats))
IsCallOf escape route.StopRecording body found = found ≡ call.Change input.StopRecording
IsCallOf escape route.ReadRecordingStatus body found = found ≡ call.Read read.RecordingStatus
IsCallOf escape route.ReadRecordingHar body found = found ≡ call.Read read.Recording

-- the id of the route is none
abbrev pub HasNoId : Route → Type 0
HasNoId (route.ReadMapping text) = parsed text ≡ None
HasNoId (route.EditMapping text) = parsed text ≡ None
HasNoId (route.DeleteMapping text) = parsed text ≡ None
HasNoId other = ⊥

-- the body of the route is a mapping, a request matcher, a state, the settings of a recording; an id is
-- judged before it
abbrev pub TakesMapping : Route → Type 0
TakesMapping route.AddMapping = Unit {0}
TakesMapping (route.EditMapping text) = (id : List ℕ) × (parsed text ≡ Some id)
TakesMapping other = ⊥

abbrev pub TakesMatcher : Route → Type 0
TakesMatcher route.FindRequests = Unit {0}
TakesMatcher route.CountRequests = Unit {0}
TakesMatcher other = ⊥

abbrev pub TakesState : Route → Type 0
TakesState (route.SetScenario name) = Unit {0}
TakesState other = ⊥

abbrev pub TakesStart : Route → Type 0
TakesStart route.StartRecording = Unit {0}
TakesStart other = ⊥

-- why the call of the route isn't made of this body; memory may also run out where the name of a scenario is decoded
abbrev pub IsRefusalOf : Escape → Route → List ℕ → AdminError → Type 0
IsRefusalOf escape found body error.UnknownCall = ⊥
IsRefusalOf escape found body error.UnknownMapping = HasNoId found
IsRefusalOf escape found body (error.Mapping why) = TakesMapping found × IsDocumentError escape body why
IsRefusalOf escape found body (error.Matcher why) = TakesMatcher found × IsRefused body why
IsRefusalOf escape found body (error.State why) = TakesState found × IsStateError body why
IsRefusalOf escape found body (error.Start why) = TakesStart found × IsBodyError reading_of_start body why
IsRefusalOf escape found body error.OutOfMemory = TakesState found

-- the method, the URL and the body are the call
abbrev pub IsCall : Escape → List ℕ → List ℕ → List ℕ → AdminCall → Type 0
IsCall escape method url body found = (r : Route) × Names method url r × IsCallOf escape r body found

-- a call that the table doesn't have is refused as such; any other, as its route says
abbrev pub IsAdminError : Escape → List ℕ → List ℕ → List ℕ → AdminError → Type 0
IsAdminError escape method url body error.UnknownCall = (r : Route) → ¬ (Names method url r)
IsAdminError escape method url body why = (r : Route) × Names method url r × IsRefusalOf escape r body why
