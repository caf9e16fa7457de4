-- Which recording is on, and what a recording takes.
use Rattle.std.specs.Prelude.{◌≡◌, ℕ, ◌<◌, ◌≤◌, [], ◌∷◌, ◌++◌, Option, None, Some, length}
use Rattle.recorder.specs.declared.exchange.Exchange.{Exchange}
use Rattle.recorder.specs.declared.recording.Recording.{Recording}
use Rattle.recorder.specs.declared.recording.Recording.TheVariants.{NeverStarted, On, Stopped}
use Rattle.recorder.specs.declared.recording.RecordingStatus.{RecordingStatus}
use Rattle.recorder.specs.declared.recording.RecordingStatus.TheVariants as status
use Rattle.recorder.specs.declared.recording.Session.{Session}
use Rattle.recorder.specs.declared.recording.TheConstants.{EXCHANGE_LIMIT}

abbrev pub status_of : Recording → RecordingStatus
status_of NeverStarted = status.NeverStarted
status_of (On session) = status.Recording
status_of (Stopped session) = status.Stopped

-- what the recording that is on, or else the last one, has
abbrev pub session_of : Recording → Option Session
session_of NeverStarted = None
session_of (On session) = Some session
session_of (Stopped session) = Some session

-- a recording is on, and the fact holds of it
abbrev pub IsOnAnd : Recording → (Session → Type 0) → Type 0
IsOnAnd NeverStarted P = ⊥
IsOnAnd (On session) P = P session
IsOnAnd (Stopped session) P = ⊥

abbrev pub IsOn : Recording → Type 0
IsOn recording = IsOnAnd recording (λ session. Unit {0})

-- a recording is on that was started before the event with this number
abbrev pub TakesFrom : Recording → ℕ → Type 0
TakesFrom recording number = IsOnAnd recording (λ session. session.start < number)

-- the session, with the exchange after those that it has
abbrev pub with_exchange : Session → Exchange → Session
with_exchange session exchange = record {
  start = session.start;
  target = session.target;
  captured = session.captured;
  repeats = session.repeats;
  exchanges = session.exchanges ++ exchange ∷ [];
}

-- before and after a call that takes the exchange
abbrev pub HasTaken : Recording → Recording → Exchange → Type 0
HasTaken old new exchange = IsOnAnd old (λ session. new ≡ On (with_exchange session exchange))

-- before and after a call that stops the recording
abbrev pub HasStopped : Recording → Recording → Type 0
HasStopped old new = IsOnAnd old (λ session. new ≡ Stopped session)

-- a recording is on that has as many exchanges as one may have
abbrev pub IsFull : Recording → Type 0
IsFull recording = IsOnAnd recording (λ session. EXCHANGE_LIMIT ≤ length session.exchanges)
