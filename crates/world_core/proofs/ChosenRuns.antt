-- After each schedule of a book that was just opened there is one choice for a request.
use Rattle.std.proofs.Common.{◌≡◌, inl, inr, ℕ, List, [], ◌∷◌, sym, subst}
use Rattle.std.specs.Prelude.{Option, Some, None}
use Rattle.mock_request.specs.Request.{Request}
use Rattle.request_journal.specs.Choice.{IsChoice}
use Rattle.request_journal.specs.Past.{Past}
use Rattle.request_journal.specs.declared.event.Event.{Event}
use Rattle.request_journal.specs.declared.event.ServeAnswer.{ServeAnswer}
use Rattle.request_journal.proofs.OrderLemmas.{ArePlaced, one_choice, placed_after, placed_at_checkpoint, placed_opened}
use Rattle.stub_book.specs.Growth.{Grows}
use Rattle.world_core.specs.Laws.{IsOpened}
use Rattle.world_core.specs.Schedule.{IsAct, IsRun, IsStep, Outcome, WorldState}
use Rattle.shared_book.specs.declared.script.Call.{Call}
use Rattle.world_core.specs.declared.step.Step.{Step}
use Rattle.world_core.specs.declared.step.Step.TheVariants.{Act, Finish}
use Rattle.world_core.proofs.Grown.{added}

placed_at_opening : (past : Past) → IsOpened past → ArePlaced past
placed_at_opening past (base, none) =
    let opened = sym base in
    let no_events = sym none in
    subst ArePlaced
    (λ i. record { opening = past.opening; defaults = past.defaults; base = opened i; events = no_events i })
    (placed_opened past.opening past.defaults)

placed_grown : (old new : Past) (event : Event) → ArePlaced old → Grows old new event → ArePlaced new
placed_grown old new event placed grows = elim (added old new event grows.after) [
  | inl same ↦ subst ArePlaced (sym same) (placed_after old event placed)
  | inr cleared ↦ subst ArePlaced (sym cleared.3)
      (placed_after cleared.0 event (placed_at_checkpoint old cleared.0 cleared.2 placed))
]

placed_act : (old new : WorldState) (actor : ℕ) (call : Call) (event : Option Event) → ArePlaced old.past
    → IsAct old actor call event new → ArePlaced new.past
placed_act old new actor call None placed (refused, same) =
    subst (λ (w : WorldState). ArePlaced w.past) (sym same) placed
placed_act old new actor call (Some event) placed happens =
    placed_grown old.past new.past event placed happens.grows

placed_step : (old new : WorldState) (step : Step) (outcome : Outcome) → ArePlaced old.past
    → IsStep old step outcome new → ArePlaced new.past
placed_step old new (Act actor call) outcome placed (act, none) =
    placed_act old new actor call outcome.event placed act
placed_step old new (Finish actor) outcome placed (none, finish) =
    subst ArePlaced (sym finish.same_past) placed

placed_run : (start end : WorldState) (steps : List Step) (outcomes : List Outcome) → ArePlaced start.past
    → IsRun start steps outcomes end → ArePlaced end.past
placed_run start end [] outcomes placed (none, same) =
    subst (λ (w : WorldState). ArePlaced w.past) (sym same) placed
placed_run start end (step ∷ steps) [] placed run = absurd run
placed_run start end (step ∷ steps) (outcome ∷ outcomes) placed (between, first, rest) =
    placed_run between end steps outcomes (placed_step start between step outcome placed first) rest

pub one_choice_after : (start end : WorldState) (steps : List Step) (outcomes : List Outcome) (request : Request)
    (one other : ServeAnswer) → IsOpened start.past → IsRun start steps outcomes end
    → IsChoice end.past request one → IsChoice end.past request other → one ≡ other
one_choice_after start end steps outcomes request one other opened run =
    one_choice end.past request one other
    (placed_run start end steps outcomes (placed_at_opening start.past opened) run).in_order
