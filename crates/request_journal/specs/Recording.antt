-- Which recording there is: the last that was started, with the exchanges that were recorded since, up to its stop.
use Rattle.std.specs.Prelude.{ℕ, Bool, true, false, List, [], ◌++◌, filter_map, Option, Some, None, unwrap_or, cond}
use Rattle.std.specs.List.{before_first, list_any}
use Rattle.recorder.specs.declared.exchange.Exchange.{Exchange}
use Rattle.recorder.specs.declared.recording.Recording.{Recording}
use Rattle.recorder.specs.declared.recording.Recording.TheVariants.{NeverStarted, On, Stopped}
use Rattle.recorder.specs.declared.recording.Session.{Session}
use Rattle.request_journal.specs.Events.{last_of, after_last}
use Rattle.request_journal.specs.Past.{Past, numbered_events}
use Rattle.request_journal.specs.declared.event.Event.{Event}
use Rattle.request_journal.specs.declared.event.Event.TheVariants as event

-- the recording that the event of this number starts
abbrev pub started_by : ℕ → Event → Option Recording
started_by number (event.StartRecording target captured repeats) = Some (On (record {
  start = number;
  target = target;
  captured = captured;
  repeats = repeats;
  exchanges = [];
}))
started_by number other = None

abbrev pub starts : Event → Bool
starts (event.StartRecording target captured repeats) = true
starts other = false

abbrev pub stops : Event → Bool
stops (event.StopRecording mappings skipped) = true
stops other = false

-- the exchange that the event records
abbrev pub exchange_of : Event → Option Exchange
exchange_of (event.Record serve exchange) = Some exchange
exchange_of other = None

-- the session, with these exchanges after those that it has
abbrev pub with_exchanges : Session → List Exchange → Session
with_exchanges session exchanges = record {
  start = session.start;
  target = session.target;
  captured = session.captured;
  repeats = session.repeats;
  exchanges = session.exchanges ++ exchanges;
}

-- the exchanges that the events record until one of them stops the recording
abbrev pub recorded : List Event → List Exchange
recorded events = filter_map exchange_of (before_first stops events)

-- a recording after events that start no other one
abbrev pub continued : List Event → Recording → Recording
continued events NeverStarted = NeverStarted
continued events (On session) =
    let longer : Session = with_exchanges session (recorded events) in
    cond (list_any stops events) (Stopped longer) (On longer)
continued events (Stopped session) = Stopped session

-- the recording that the last start began, or else the base's, after the events since
abbrev pub recording : Past → Recording
recording past =
    continued (after_last starts past.events)
    (unwrap_or (last_of (λ n. started_by n.number n.event) (numbered_events past)) past.base.recording)
