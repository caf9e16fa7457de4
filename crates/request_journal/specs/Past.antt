-- The past of a book: the mappings that it was opened with, and the events since. Those before a checkpoint are
-- dropped; a base says what they left.
use Rattle.std.specs.Prelude.{ℕ, ◌+◌, Bool, List, [], ◌∷◌, ◌++◌, length, unwrap_or, cond}
use Rattle.std.specs.FinMap as map
use Rattle.std.specs.List.{list_any}
use Rattle.std.specs.Str.{bytes_eq}
use Rattle.mapping_model.specs.MappingId.{default_id}
use Rattle.mapping_model.specs.declared.mapping_spec.MappingSpec.{MappingSpec}
use Rattle.recorder.specs.declared.recording.Recording.{Recording}
use Rattle.recorder.specs.declared.recording.Recording.TheVariants.{NeverStarted}
use Rattle.scenario_core.specs.Scenarios.{States}
use Rattle.request_journal.specs.Events.{Numbered, numbered}
use Rattle.request_journal.specs.declared.event.Event.{Event}
use Rattle.request_journal.specs.declared.mapping.Mapping.{Mapping}

-- where a mapping came into the book: the number of the event that added it (the opening number for the mappings
-- of the opening), and its index among the mappings of that event
pub record Place : Type 0 where
  pub event : ℕ
  pub index : ℕ

pub record Placed : Type 0 where
  pub place : Place
  pub mapping : Mapping

-- what the events up to a number left: the live mappings in order of their places, the states of scenarios, and
-- the recording that is on, or else the last one
pub record Base : Type 0 where
  pub number : ℕ
  pub live : List Placed
  pub states : States
  pub recording : Recording

-- `events` are those after the base, oldest first; the first of them has the number after the base's
pub record Past : Type 0 where
  pub opening : ℕ
  pub defaults : List Mapping
  pub base : Base
  pub events : List Event

-- one of the mappings has this id
abbrev pub has_id : List Mapping → List ℕ → Bool
has_id mappings id = list_any (λ m. bytes_eq m.id id) mappings

-- mappings that one event adds one after the other, from an index on: of those with the same id the last alone
abbrev pub placed_from : ℕ → ℕ → List Mapping → List Placed
placed_from number index [] = []
placed_from number index (m ∷ ms) =
    cond (has_id ms m.id)
    (placed_from number (index + 1) ms)
    (record { place = record { event = number; index = index }; mapping = m } ∷ placed_from number (index + 1) ms)

-- mappings that a book is opened with, from an index on: those without an id get that of their index
abbrev pub defaults_from : ℕ → List MappingSpec → List Mapping
defaults_from index [] = []
defaults_from index (s ∷ ss) =
    record { id = unwrap_or s.id (default_id index); spec = s } ∷ defaults_from (index + 1) ss

-- nothing has happened but the opening
abbrev pub opening_base : ℕ → List Mapping → Base
opening_base opening defaults =
    record { number = opening; live = placed_from opening 0 defaults; states = map.empty; recording = NeverStarted }

-- the past of a book that was just opened with these documents
abbrev pub opened : ℕ → List MappingSpec → Past
opened opening specs =
    let defaults : List Mapping = defaults_from 0 specs in
    record { opening = opening; defaults = defaults; base = opening_base opening defaults; events = [] }

-- the past after one more event
abbrev pub with_event : Past → Event → Past
with_event past event = record past { events = past.events ++ event ∷ [] }

-- the same base with other events
abbrev pub with_events : Past → List Event → Past
with_events past events = record past { events = events }

-- the number of the last event
abbrev pub last_number : Past → ℕ
last_number past = past.base.number + length past.events

-- the events that are kept, with their numbers
abbrev pub numbered_events : Past → List Numbered
numbered_events past = numbered (past.base.number + 1) past.events
