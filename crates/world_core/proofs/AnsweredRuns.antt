-- A finish gives the response of what its actor holds, which is what was chosen at its last act.
use Rattle.std.proofs.Common.{◌≡◌, ℕ, List, [], ◌∷◌, ◌++◌, length, append_assoc, append-nil}
use Rattle.std.proofs.Common.{Option, Some, None, refl, sym, ap, ◌∙◌, subst, inl, inr}
use Rattle.std.specs.Prelude.{IfSome}
use Rattle.std.specs.List.{AllZip}
use Rattle.std.proofs.lemmas.Bool.Decides.{eqb_tells}
use Rattle.mapping_model.specs.declared.reply.Reply.{Reply}
use Rattle.mock_request.specs.Request.{Request}
use Rattle.request_journal.specs.Choice.{IsChoice}
use Rattle.request_journal.specs.declared.event.Captured.{Captured}
use Rattle.request_journal.specs.declared.event.Event.{Event}
use Rattle.request_journal.specs.declared.event.Event.TheVariants as event
use Rattle.request_journal.specs.declared.event.ServeAnswer.TheVariants.{Stub}
use Rattle.stub_response.specs.Response.{IsRendering, IsResponse}
use Rattle.stub_response.specs.declared.limits.Limits.{Limits}
use Rattle.world_core.specs.Laws.{IsAnswered, IsLastChoice, PassesBy, choosing, giving}
use Rattle.world_core.specs.Schedule.{Happens, IsAct, IsFinish, IsGiven, IsResponseOf, IsRun, IsStep, Outcome}
use Rattle.world_core.specs.Schedule.{WorldState, held_by, held_by_others}
use Rattle.world_core.specs.declared.held.Held.{Held}
use Rattle.shared_book.specs.declared.script.Call.{Call}
use Rattle.shared_book.specs.declared.script.Call.TheVariants.{Serve, Apply}
use Rattle.world_core.specs.declared.step.Step.{Step}
use Rattle.world_core.specs.declared.step.Step.TheVariants.{Act, Finish}
use Rattle.world_core.proofs.StepLemmas.{no_serve}
use Rattle.world_core.proofs.HeldLemmas.{own_gone, others_stay, put_others, put_own}
use Rattle.world_core.proofs.Runs.{run_on, run_split}

zip_on : {X Y : Type 0} (R : X → Y → Type 0) (xs : List X) (ys : List Y) (x : X) (y : Y)
    → AllZip R xs ys → R x y → AllZip R (xs ++ x ∷ []) (ys ++ y ∷ [])
zip_on R [] [] x y all more = (more, tt)
zip_on R [] (w ∷ ys) x y all more = absurd all
zip_on R (z ∷ xs) [] x y all more = absurd all
zip_on R (z ∷ xs) (w ∷ ys) x y all more = (all.0, zip_on R xs ys x y all.1 more)

module _ (start : WorldState) where
  -- the mapping that the event chose was chosen at the actor's last act
  abbrev IsLast : List Step → List Outcome → ℕ → Event → Type 0
  IsLast steps outcomes actor (event.Serve request (Stub captured)) =
      IsLastChoice start steps outcomes actor request captured
  IsLast steps outcomes actor other = Unit {0}

  -- so it is of what each actor holds
  abbrev IsKnown : List Step → List Outcome → WorldState → Type 0
  IsKnown steps outcomes world =
      (actor : ℕ) → IfSome (held_by actor world.held) (λ h. IsLast steps outcomes actor h.event)

  -- a step that passes the actor by
  passed_by : (steps : List Step) (outcomes : List Outcome) (actor : ℕ) (request : Request) (captured : Captured)
      (step : Step) (outcome : Outcome) → PassesBy actor step outcome
      → IsLastChoice start steps outcomes actor request captured
      → IsLastChoice start (steps ++ step ∷ []) (outcomes ++ outcome ∷ []) actor request captured
  passed_by steps outcomes actor request captured step outcome passes last = record {
    earlier = last.earlier;
    early = last.early;
    later = last.later ++ step ∷ [];
    late = last.late ++ outcome ∷ [];
    acted = ap (λ l. l ++ step ∷ []) last.acted
        ∙ append_assoc last.earlier (Act actor (Serve request) ∷ last.later) (step ∷ []);
    chose = ap (λ l. l ++ outcome ∷ []) last.chose
        ∙ append_assoc last.early (choosing request captured ∷ last.late) (outcome ∷ []);
    then = last.then;
    reached = last.reached;
    choice = last.choice;
    passed = zip_on (PassesBy actor) last.later last.late step outcome last.passed passes;
  }

  still_last : (steps : List Step) (outcomes : List Outcome) (actor : ℕ) (step : Step) (outcome : Outcome)
      (e : Event) → PassesBy actor step outcome → IsLast steps outcomes actor e
      → IsLast (steps ++ step ∷ []) (outcomes ++ outcome ∷ []) actor e
  still_last steps outcomes actor step outcome (event.Serve request (Stub captured)) passes known =
      passed_by steps outcomes actor request captured step outcome passes known
  still_last steps outcomes actor step outcome other passes known = tt

  held_still : (steps : List Step) (outcomes : List Outcome) (actor : ℕ) (step : Step) (outcome : Outcome)
      (held : Option Held) → PassesBy actor step outcome
      → IfSome held (λ h. IsLast steps outcomes actor h.event)
      → IfSome held (λ h. IsLast (steps ++ step ∷ []) (outcomes ++ outcome ∷ []) actor h.event)
  held_still steps outcomes actor step outcome None passes known = tt
  held_still steps outcomes actor step outcome (Some h) passes known =
      still_last steps outcomes actor step outcome h.event passes known

  module _ (steps : List Step) (outcomes : List Outcome) (old new : WorldState) (run : IsRun start steps outcomes old)
      (known : IsKnown steps outcomes old) where
    -- nothing else is held
    same_held : (step : Step) (outcome : Outcome) → ((actor : ℕ) → PassesBy actor step outcome)
        → new.held ≡ old.held → IsKnown (steps ++ step ∷ []) (outcomes ++ outcome ∷ []) new
    same_held step outcome passes same actor =
        subst (λ (hs : List Held). IfSome (held_by actor hs)
        (λ h. IsLast (steps ++ step ∷ []) (outcomes ++ outcome ∷ []) actor h.event)) (sym same)
        (held_still steps outcomes actor step outcome (held_by actor old.held) (passes actor) (known actor))

    -- a mapping is chosen for the request of one actor
    chosen_for : (other : ℕ) (request : Request) (captured : Captured)
        → new.held ≡ held_by_others other old.held
        ++ record { actor = other; event = event.Serve request (Stub captured) } ∷ []
        → IsChoice old.past request (Stub captured)
        → IsKnown (steps ++ Act other (Serve request) ∷ []) (outcomes ++ choosing request captured ∷ []) new
    chosen_for other request captured held choice actor =
        let put : Held = record { actor = other; event = event.Serve request (Stub captured) } in
        let Is : Option Held → Type 0 =
        λ found. IfSome found (λ h. IsLast (steps ++ Act other (Serve request) ∷ [])
        (outcomes ++ choosing request captured ∷ []) actor h.event) in
        let found : held_by actor new.held ≡ held_by actor (held_by_others other old.held ++ put ∷ []) =
        ap (held_by actor) held in
        elim (eqb_tells other actor) [
          | inl same ↦
              subst Is (sym (found ∙ ap (λ a. held_by actor (held_by_others a old.held ++ put ∷ [])) same.1
              ∙ put_own actor old.held put same.1))
              (record {
                earlier = steps;
                early = outcomes;
                later = [];
                late = [];
                acted = ap (λ a. steps ++ Act a (Serve request) ∷ []) same.1;
                chose = refl;
                then = old;
                reached = run;
                choice = choice;
                passed = tt;
              })
          | inr differ ↦
              subst Is (sym (found ∙ put_others actor other old.held put refl differ.1))
              (held_still steps outcomes actor (Act other (Serve request)) (choosing request captured)
              (held_by actor old.held) (inl differ.1) (known actor))
        ]

    known_event : (other : ℕ) (call : Call) (e : Event) → Happens old other call e new
        → IsKnown (steps ++ Act other call ∷ []) (outcomes ++ record { event = Some e; reply = None } ∷ []) new
    known_event other (Serve request) (event.Serve served (Stub captured)) happens =
        let is : served ≡ request = happens.asked_for in
        subst (λ (r : Request).
        IsKnown (steps ++ Act other (Serve r) ∷ []) (outcomes ++ choosing served captured ∷ []) new) is
        (chosen_for other served captured happens.held happens.grows.next.answer)
    known_event other (Apply asked) (event.Serve served answer) happens =
        absurd (no_serve asked served answer happens.asked_for)
    known_event other call e happens =
        same_held (Act other call) (record { event = Some e; reply = None }) (λ actor. inr tt) happens.held

    known_act : (other : ℕ) (call : Call) (e : Option Event) → IsAct old other call e new
        → IsKnown (steps ++ Act other call ∷ []) (outcomes ++ record { event = e; reply = None } ∷ []) new
    known_act other call None act =
        same_held (Act other call) (record { event = None; reply = None }) (λ actor. inr tt)
        (ap (λ (w : WorldState). w.held) act.1)
    known_act other call (Some e) act = known_event other call e act

    known_finish : (other : ℕ) (reply : Option Reply) → IsFinish old other reply new
        → IsKnown (steps ++ Finish other ∷ []) (outcomes ++ record { event = None; reply = reply } ∷ []) new
    known_finish other reply finish actor =
        let outcome : Outcome = record { event = None; reply = reply } in
        let Is : Option Held → Type 0 = λ found. IfSome found (λ h. IsLast (steps ++ Finish other ∷ [])
        (outcomes ++ outcome ∷ []) actor h.event) in
        elim (eqb_tells other actor) [
          | inl same ↦
              subst Is (sym (ap (held_by actor) finish.held
              ∙ ap (λ a. held_by actor (held_by_others a old.held)) same.1
              ∙ own_gone actor old.held)) tt
          | inr differ ↦
              subst Is (sym (ap (held_by actor) finish.held ∙ others_stay actor other old.held differ.1))
              (held_still steps outcomes actor (Finish other) outcome (held_by actor old.held) differ.1 (known actor))
        ]

    known_step : (step : Step) (outcome : Outcome) → IsStep old step outcome new
        → IsKnown (steps ++ step ∷ []) (outcomes ++ outcome ∷ []) new
    known_step (Act other call) outcome done =
        subst (λ (r : Option Reply). IsKnown (steps ++ Act other call ∷ [])
        (outcomes ++ record { event = outcome.event; reply = r } ∷ []) new) (sym done.1)
        (known_act other call outcome.event done.0)
    known_step (Finish other) outcome done =
        subst (λ (e : Option Event). IsKnown (steps ++ Finish other ∷ [])
        (outcomes ++ record { event = e; reply = outcome.reply } ∷ []) new) (sym done.0)
        (known_finish other outcome.reply done.1)

  -- the steps after those that were made
  known_run : (before steps : List Step) (early outcomes : List Outcome) (world end : WorldState)
      → IsRun start before early world → IsKnown before early world → IsRun world steps outcomes end
      → IsKnown (before ++ steps) (early ++ outcomes) end
  known_run before [] early outcomes world end run known (none, same) =
      subst (λ (os : List Outcome). IsKnown (before ++ []) (early ++ os) end) (sym none)
      (subst (λ (os : List Outcome). IsKnown (before ++ []) os end) (sym (append-nil early))
      (subst (λ (ss : List Step). IsKnown ss early end) (sym (append-nil before))
      (subst (λ (w : WorldState). IsKnown before early w) (sym same) known)))
  known_run before (step ∷ steps) early [] world end run known rest = absurd rest
  known_run before (step ∷ steps) early (outcome ∷ outcomes) world end run known (next, first, rest) =
      let more = known_run (before ++ step ∷ []) steps (early ++ outcome ∷ []) outcomes next end
      (run_on start world next before early step outcome run first)
      (known_step before early world next run known step outcome first) rest in
      subst (λ (os : List Outcome). IsKnown (before ++ step ∷ steps) os end)
      (append_assoc early (outcome ∷ []) outcomes)
      (subst (λ (ss : List Step). IsKnown ss ((early ++ outcome ∷ []) ++ outcomes) end)
      (append_assoc before (step ∷ []) steps) more)

limits_of_act : (old new : WorldState) (actor : ℕ) (call : Call) (event : Option Event)
    → IsAct old actor call event new → new.limits ≡ old.limits
limits_of_act old new actor call None act = ap (λ (w : WorldState). w.limits) act.1
limits_of_act old new actor call (Some e) act = act.same_limits

limits_of_step : (old new : WorldState) (step : Step) (outcome : Outcome) → IsStep old step outcome new
    → new.limits ≡ old.limits
limits_of_step old new (Act actor call) outcome step = limits_of_act old new actor call outcome.event step.0
limits_of_step old new (Finish actor) outcome step = step.1.same_limits

limits_of_run : (start end : WorldState) (steps : List Step) (outcomes : List Outcome)
    → IsRun start steps outcomes end → end.limits ≡ start.limits
limits_of_run start end [] outcomes (none, same) = ap (λ (w : WorldState). w.limits) same
limits_of_run start end (step ∷ steps) [] run = absurd run
limits_of_run start end (step ∷ steps) (outcome ∷ outcomes) (next, first, rest) =
    limits_of_run next end steps outcomes rest ∙ limits_of_step start next step outcome first

same_reply : (a b : Reply) → Some a ≡ Some b → a ≡ b
same_reply a b e = cc

no_reply : (reply : Reply) → Some reply ≡ None → ⊥
no_reply reply e = cc

by_event : (start : WorldState) (steps : List Step) (outcomes : List Outcome) (actor : ℕ)
    (limits : Limits) (reply : Reply)
    (e : Event) → limits ≡ start.limits → IsLast start steps outcomes actor e
    → IsResponseOf limits e (Some reply) → IsAnswered start steps outcomes actor reply
by_event start steps outcomes actor limits reply (event.Serve request (Stub captured)) same known
    (given, is, response, rendering) = (
      request,
      captured,
      known,
      subst (λ l. IsResponse l captured.mapping.spec request reply) same
          (subst (λ r. IsResponse limits captured.mapping.spec request r) (sym (same_reply reply given is)) response),
      subst (λ l. IsRendering l captured.mapping.spec request reply) same
          (subst (λ r. IsRendering limits captured.mapping.spec request r)
          (sym (same_reply reply given is)) rendering),
    )
by_event start steps outcomes actor limits reply other same known none = absurd (no_reply reply none)

answered : (start : WorldState) (steps : List Step) (outcomes : List Outcome) (actor : ℕ)
    (limits : Limits) (reply : Reply)
    (held : Option Held) → limits ≡ start.limits → IfSome held (λ h. IsLast start steps outcomes actor h.event)
    → IsGiven limits held (Some reply) → IsAnswered start steps outcomes actor reply
answered start steps outcomes actor limits reply None same known given = absurd (no_reply reply given)
answered start steps outcomes actor limits reply (Some h) same known given =
    by_event start steps outcomes actor limits reply h.event same known given

pub answered_run : (start end : WorldState) (steps after : List Step) (outcomes more : List Outcome) (actor : ℕ)
    (reply : Reply) → start.held ≡ [] → length steps ≡ length outcomes
    → IsRun start (steps ++ Finish actor ∷ after) (outcomes ++ giving reply ∷ more) end
    → IsAnswered start steps outcomes actor reply
answered_run start end steps after outcomes more actor reply none len run =
    let (between, first, (next, finish, rest)) =
    run_split start end steps (Finish actor ∷ after) outcomes (giving reply ∷ more) run len in
    let fresh : IsKnown start [] [] start = λ other.
    subst (λ (hs : List Held). IfSome (held_by other hs) (λ h. IsLast start [] [] other h.event)) (sym none) tt in
    answered start steps outcomes actor between.limits reply (held_by actor between.held)
    (limits_of_run start between steps outcomes first)
    (known_run start [] steps [] outcomes start between (refl, refl) fresh first actor) finish.1.given
