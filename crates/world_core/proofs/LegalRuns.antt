-- The history of each schedule is legal.
use Rattle.std.proofs.Common.{ℕ, List, [], ◌∷◌, sym, subst}
use Rattle.std.specs.Prelude.{Option, Some, None}
use Rattle.request_journal.specs.Legal.{IsLegal}
use Rattle.request_journal.specs.declared.event.Event.{Event}
use Rattle.world_core.specs.Schedule.{IsAct, IsRun, IsStep, Outcome, WorldState}
use Rattle.shared_book.specs.declared.script.Call.{Call}
use Rattle.world_core.specs.declared.step.Step.{Step}
use Rattle.world_core.specs.declared.step.Step.TheVariants.{Act, Finish}
use Rattle.world_core.proofs.Grown.{legal_grown}

legal_act : (old new : WorldState) (actor : ℕ) (call : Call) (event : Option Event) → IsLegal old.past
    → IsAct old actor call event new → IsLegal new.past
legal_act old new actor call None legal (refused, same) =
    subst (λ (w : WorldState). IsLegal w.past) (sym same) legal
legal_act old new actor call (Some event) legal happens = legal_grown old.past new.past event legal happens.grows

legal_step : (old new : WorldState) (step : Step) (outcome : Outcome) → IsLegal old.past
    → IsStep old step outcome new → IsLegal new.past
legal_step old new (Act actor call) outcome legal (act, none) = legal_act old new actor call outcome.event legal act
legal_step old new (Finish actor) outcome legal (none, finish) = subst IsLegal (sym finish.same_past) legal

pub legal_run : (start end : WorldState) (steps : List Step) (outcomes : List Outcome) → IsLegal start.past
    → IsRun start steps outcomes end → IsLegal end.past
legal_run start end [] outcomes legal (none, same) = subst (λ (w : WorldState). IsLegal w.past) (sym same) legal
legal_run start end (step ∷ steps) [] legal run = absurd run
legal_run start end (step ∷ steps) (outcome ∷ outcomes) legal (between, first, rest) =
    legal_run between end steps outcomes (legal_step start between step outcome legal first) rest
