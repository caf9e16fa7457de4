-- The events of a schedule lead from the past before it to the one after it.
use Rattle.std.proofs.Common.{ℕ, List, [], ◌∷◌, Option, Some, None, sym, ap, subst}
use Rattle.std.specs.List.{cons_option}
use Rattle.request_journal.specs.Past.{Past}
use Rattle.request_journal.specs.declared.event.Event.{Event}
use Rattle.shared_book.specs.Reached.{Lead}
use Rattle.shared_book.specs.declared.script.Call.{Call}
use Rattle.world_core.specs.Laws.{events_of}
use Rattle.world_core.specs.Schedule.{IsAct, IsRun, IsStep, Outcome, WorldState}
use Rattle.world_core.specs.declared.step.Step.{Step}
use Rattle.world_core.specs.declared.step.Step.TheVariants.{Act, Finish}

act_leads : (old between : WorldState) (actor : ℕ) (call : Call) (event : Option Event) (later : List Event)
    (new : Past) → IsAct old actor call event between → Lead between.past later new
    → Lead old.past (cons_option event later) new
act_leads old between actor call None later new act lead =
    subst (λ (w : WorldState). Lead w.past later new) act.1 lead
act_leads old between actor call (Some e) later new act lead = (between.past, act.grows, lead)

step_leads : (old between : WorldState) (step : Step) (outcome : Outcome) (later : List Event) (new : Past)
    → IsStep old step outcome between → Lead between.past later new
    → Lead old.past (cons_option outcome.event later) new
step_leads old between (Act actor call) outcome later new step lead =
    act_leads old between actor call outcome.event later new step.0 lead
step_leads old between (Finish actor) outcome later new step lead =
    subst (λ (o : Option Event). Lead old.past (cons_option o later) new) (sym step.0)
    (subst (λ p. Lead p later new) step.1.same_past lead)

pub run_leads : (start end : WorldState) (steps : List Step) (outcomes : List Outcome)
    → IsRun start steps outcomes end → Lead start.past (events_of outcomes) end.past
run_leads start end [] outcomes (none, same) =
    subst (λ (os : List Outcome). Lead start.past (events_of os) end.past) (sym none)
    (sym (ap (λ (w : WorldState). w.past) same))
run_leads start end (step ∷ steps) [] run = absurd run
run_leads start end (step ∷ steps) (outcome ∷ outcomes) (between, first, rest) =
    step_leads start between step outcome (events_of outcomes) end.past first
    (run_leads between end steps outcomes rest)
