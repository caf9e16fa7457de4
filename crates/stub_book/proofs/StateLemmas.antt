-- What a move leaves of the states of scenarios, and what a call leaves of a recording.
use Rattle.std.proofs.Common.{◌≡◌, inl, inr, ◌<◌, ℕ, true, false, cond, List, Some, None, refl, sym, ap}
use Rattle.std.proofs.Common.{◌∙◌, arith, append-nil}
use Rattle.std.specs.Option.{unwrap_or}
use Rattle.std.specs.Str.{bytes_eq}
use Rattle.std.proofs.lemmas.Bool.{both_ways, cases_order}
use Rattle.std.proofs.lemmas.Slice.Eq.{bytes_eq-Decides}
use Rattle.recorder.specs.Recording.{IsOn, IsOnAnd, TakesFrom, HasTaken, HasStopped}
use Rattle.recorder.specs.declared.exchange.Exchange.{Exchange}
use Rattle.recorder.specs.declared.recording.Recording.{Recording}
use Rattle.recorder.specs.declared.recording.Recording.TheVariants.{NeverStarted, On, Stopped}
use Rattle.recorder.specs.declared.recording.Session.{Session}
use Rattle.request_journal.specs.declared.mapping.Mapping.{Mapping}
use Rattle.request_journal.specs.declared.event.Event.TheVariants as event
use Rattle.request_journal.proofs.RecordingLemmas.{recording_by}
use Rattle.scenario_core.specs.Scenarios.{States, state_of, MovesTo}

-- what a move leaves of every scenario
pub moved :
    (old new : States) (name state : List ℕ) → MovesTo old new name state → (other : List ℕ)
    → state_of new other ≡ unwrap_or (cond (bytes_eq name other) (Some state) None) (state_of old other)
moved old new name state moves other =
    elim (bytes_eq name other)
    as (λ b. bytes_eq name other ≡ b
    → state_of new other ≡ unwrap_or (cond b (Some state) None) (state_of old other)) [
      | true ↦ λ e. ap (state_of new) (sym ((bytes_eq-Decides name other).0 e)) ∙ moves.moved
      | false ↦ λ e. moves.others other
          (λ same. both_ways (bytes_eq name other) e ((bytes_eq-Decides name other).1 (sym same)))
    ] refl

-- the recording after a record
pub after_record :
    (number serve : ℕ) (exchange : Exchange) (old new : Recording) → HasTaken old new exchange
    → new ≡ recording_by number (event.Record serve exchange) old
after_record number serve exchange NeverStarted new h = absurd h
after_record number serve exchange (On session) new h = h
after_record number serve exchange (Stopped session) new h = absurd h

-- what a recording takes that took one
pub did_take :
    (serve : ℕ) (exchange : Exchange) (old new : Recording) → HasTaken old new exchange
    → ¬ ¬ (TakesFrom old serve) → TakesFrom old serve
did_take serve exchange NeverStarted new h not = absurd h
did_take serve exchange (On session) new h not = later session.start serve not
  where
    later : (a b : ℕ) → ¬ ¬ (a < b) → a < b
    later a b h = elim (cases_order a b) as (λ _. a < b) [
      | inl same ↦ absurd (h (λ less. omega arith))
      | inr other ↦ elim other as (λ _. a < b) [
        | inl less ↦ less
        | inr more ↦ absurd (h (λ less. omega arith))
      ]
    ]
did_take serve exchange (Stopped session) new h not = absurd h

-- the recording after a stop
pub after_stop :
    (number skipped : ℕ) (mappings : List Mapping) (old new : Recording) → HasStopped old new
    → new ≡ recording_by number (event.StopRecording mappings skipped) old
after_stop number skipped mappings NeverStarted new h = absurd h
after_stop number skipped mappings (On session) new h = h ∙ ap (λ xs. Stopped (record {
  start = session.start;
  target = session.target;
  captured = session.captured;
  repeats = session.repeats;
  exchanges = xs;
})) (sym (append-nil session.exchanges))
after_stop number skipped mappings (Stopped session) new h = absurd h

-- it stopped one that was on
pub was_on : (P : Session → Type 0) (recording : Recording) → IsOnAnd recording P → IsOn recording
was_on P NeverStarted h = absurd h
was_on P (On session) h = tt
was_on P (Stopped session) h = absurd h
