-- Which mappings are live: those that some event added and none removed since, each as its last edit left it.
use Rattle.std.specs.Prelude.{ℕ, ◌+◌, Bool, true, false, not, List, [], ◌∷◌, ◌++◌, map, filter, Option}
use Rattle.std.specs.Prelude.{Some, None, unwrap_or, cond}
use Rattle.std.specs.List.{list_any}
use Rattle.std.specs.Str.{bytes_eq}
use Rattle.mapping_model.specs.declared.mapping_spec.MappingSpec.{MappingSpec}
use Rattle.request_journal.specs.Events.{last_of}
use Rattle.request_journal.specs.Past.{Past, Placed, has_id, placed_from}
use Rattle.request_journal.specs.declared.event.Event.{Event}
use Rattle.request_journal.specs.declared.event.Event.TheVariants as event
use Rattle.request_journal.specs.declared.mapping.Mapping.{Mapping}

-- the mappings that an event adds; a reset adds the defaults
abbrev pub added_mappings : List Mapping → Event → List Mapping
added_mappings defaults (event.Add mapping) = mapping ∷ []
added_mappings defaults event.ResetMappings = defaults
added_mappings defaults event.ResetAll = defaults
added_mappings defaults (event.StopRecording mappings skipped) = mappings
added_mappings defaults other = []

-- the same at their places, for the event of this number
abbrev pub adds : List Mapping → ℕ → Event → List Placed
adds defaults number event = placed_from number 0 (added_mappings defaults event)

-- the event removes a mapping that had this id before it: one that is added anew, or deleted, or any one at a reset
abbrev pub removes : Event → List ℕ → Bool
removes (event.Add mapping) id = bytes_eq mapping.id id
removes (event.Delete deleted) id = bytes_eq deleted id
removes event.DeleteAll id = true
removes event.ResetMappings id = true
removes event.ResetAll id = true
removes (event.StopRecording mappings skipped) id = has_id mappings id
removes other id = false

-- how the event writes the mapping with this id anew, if it does
abbrev pub edit_of : List ℕ → Event → Option MappingSpec
edit_of id (event.Edit edited spec) = cond (bytes_eq edited id) (Some spec) None
edit_of id other = None

-- one of the events removes this id
abbrev pub is_removed : List Event → List ℕ → Bool
is_removed events id = list_any (λ e. removes e id) events

-- a mapping as the last of these events that edits it left it: its id and its place stay
abbrev pub edited : List Event → Placed → Placed
edited events placed =
    let spec : MappingSpec = unwrap_or (last_of (edit_of placed.mapping.id) events) placed.mapping.spec in
    record { place = placed.place; mapping = record { id = placed.mapping.id; spec = spec } }

-- what is left of the mappings after these events
abbrev pub left_by : List Event → List Placed → List Placed
left_by events mappings = map (edited events) (filter (λ p. not (is_removed events p.mapping.id)) mappings)

-- what the events from this number on added and left
abbrev pub added_by : List Mapping → ℕ → List Event → List Placed
added_by defaults number [] = []
added_by defaults number (e ∷ es) = left_by es (adds defaults number e) ++ added_by defaults (number + 1) es

-- the live mappings, in order of their places
abbrev pub live : Past → List Placed
live past = left_by past.events past.base.live ++ added_by past.defaults (past.base.number + 1) past.events
