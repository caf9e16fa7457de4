-- A finish gives no reply only where its actor holds nothing: whatever was chosen at its last act is held until then.
use Rattle.std.proofs.Common.{◌≡◌, ◌≢◌, ◌⊎◌, ℕ, List, [], ◌∷◌, ◌++◌, length, Option, Some}
use Rattle.std.proofs.Common.{None, refl, ap, ◌∙◌, subst, inl, inr}
use Rattle.std.specs.List.{AllZip}
use Rattle.mapping_model.specs.declared.reply.Reply.{Reply}
use Rattle.mock_request.specs.Request.{Request}
use Rattle.request_journal.specs.declared.event.Captured.{Captured}
use Rattle.request_journal.specs.declared.event.Event.{Event}
use Rattle.request_journal.specs.declared.event.Event.TheVariants as event
use Rattle.request_journal.specs.declared.event.ServeAnswer.TheVariants.{Stub}
use Rattle.world_core.specs.Laws.{IsLastChoice, IsNoStub, PassesBy, choosing, silent}
use Rattle.world_core.specs.Schedule.{IsAct, IsGiven, IsRun, IsStep, Outcome, WorldState, held_after, held_by}
use Rattle.world_core.specs.declared.held.Held.{Held}
use Rattle.shared_book.specs.declared.script.Call.{Call}
use Rattle.shared_book.specs.declared.script.Call.TheVariants.{Serve}
use Rattle.world_core.specs.declared.step.Step.{Step}
use Rattle.world_core.specs.declared.step.Step.TheVariants.{Act, Finish}
use Rattle.world_core.proofs.HeldLemmas.{others_stay, put_others, put_own}
use Rattle.world_core.proofs.Runs.{run_length, run_split}

-- ---- what passes an actor by leaves what it holds

stays_at : (other actor : ℕ) (e : Event) (held : List Held) → (other ≢ actor) ⊎ IsNoStub (Some e)
    → held_by actor (held_after other e held) ≡ held_by actor held
stays_at other actor (event.Serve request (Stub captured)) held (inl differ) =
    put_others actor other held (record { actor = other; event = event.Serve request (Stub captured) }) refl differ
stays_at other actor (event.Serve request (Stub captured)) held (inr none) = absurd none
stays_at other actor e held passes = refl

stays_act : (old new : WorldState) (other actor : ℕ) (call : Call) (e : Option Event) → IsAct old other call e new
    → (other ≢ actor) ⊎ IsNoStub e → held_by actor new.held ≡ held_by actor old.held
stays_act old new other actor call None act passes = ap (λ (w : WorldState). held_by actor w.held) act.1
stays_act old new other actor call (Some e) act passes =
    ap (held_by actor) act.held ∙ stays_at other actor e old.held passes

stays_step : (old new : WorldState) (step : Step) (outcome : Outcome) (actor : ℕ) → IsStep old step outcome new
    → PassesBy actor step outcome → held_by actor new.held ≡ held_by actor old.held
stays_step old new (Act other call) outcome actor is passes =
    stays_act old new other actor call outcome.event is.0 passes
stays_step old new (Finish other) outcome actor is differ =
    ap (held_by actor) is.1.held ∙ others_stay actor other old.held differ

stays : (start end : WorldState) (steps : List Step) (outcomes : List Outcome) (actor : ℕ)
    → IsRun start steps outcomes end → AllZip (PassesBy actor) steps outcomes
    → held_by actor end.held ≡ held_by actor start.held
stays start end [] outcomes actor run all = ap (λ (w : WorldState). held_by actor w.held) run.1
stays start end (step ∷ steps) [] actor run all = absurd run
stays start end (step ∷ steps) (outcome ∷ outcomes) actor (next, first, rest) all =
    stays next end steps outcomes actor rest all.1 ∙ stays_step start next step outcome actor first all.0

-- ---- the last choice is held

abbrev chosen : Request → Captured → ℕ → Held
chosen request captured actor = record { actor = actor; event = event.Serve request (Stub captured) }

holds : (start end : WorldState) (steps : List Step) (outcomes : List Outcome) (actor : ℕ) (request : Request)
    (captured : Captured) → IsRun start steps outcomes end
    → IsLastChoice start steps outcomes actor request captured
    → held_by actor end.held ≡ Some (chosen request captured actor)
holds start end steps outcomes actor request captured run last =
    let by_steps : IsRun start (last.earlier ++ Act actor (Serve request) ∷ last.later) outcomes end =
    subst (λ (ss : List Step). IsRun start ss outcomes end) last.acted run in
    let by_both : IsRun start (last.earlier ++ Act actor (Serve request) ∷ last.later)
    (last.early ++ choosing request captured ∷ last.late) end =
    subst (λ (os : List Outcome). IsRun start (last.earlier ++ Act actor (Serve request) ∷ last.later) os end)
    last.chose by_steps in
    let (before, first, (after, act, rest)) =
    run_split start end last.earlier (Act actor (Serve request) ∷ last.later) last.early
    (choosing request captured ∷ last.late) by_both
    (run_length start last.then last.earlier last.early last.reached) in
    stays after end last.later last.late actor rest last.passed
    ∙ ap (held_by actor) act.0.held
    ∙ put_own actor before.held (chosen request captured actor) refl

no_given : (reply : Reply) → None ≡ Some reply → ⊥
no_given reply e = cc

pub silent_run : (start end : WorldState) (steps after : List Step) (outcomes more : List Outcome) (actor : ℕ)
    (request : Request) (captured : Captured) → length steps ≡ length outcomes
    → IsRun start (steps ++ Finish actor ∷ after) (outcomes ++ silent ∷ more) end
    → IsLastChoice start steps outcomes actor request captured → ⊥
silent_run start end steps after outcomes more actor request captured len run last =
    let (between, first, (next, finish, rest)) =
    run_split start end steps (Finish actor ∷ after) outcomes (silent ∷ more) run len in
    let held = holds start between steps outcomes actor request captured first last in
    let given : IsGiven between.limits (Some (chosen request captured actor)) None =
    subst (λ (h : Option Held). IsGiven between.limits h None) held finish.1.given in
    no_given given.0 given.1
