-- What a call of the book is as a step.
use Rattle.std.proofs.Common.{◌≡◌, ◌≢◌, ℕ, List, Option, Some, None, Ok, Err, IfOk, OnErr, OnOk, refl}
use Rattle.std.proofs.Common.{sym, subst, ◌∙◌, inl, inr}
use Rattle.std.specs.Prelude.{Result}
use Rattle.error_code.specs.declared.error_code.ErrorCode.{ErrorCode}
use Rattle.error_code.specs.declared.error_code.ErrorCode.TheVariants.{OutOfMemory}
use Rattle.mapping_model.specs.declared.reply.Reply.{Reply}
use Rattle.mock_request.specs.Request.{Request}
use Rattle.request_journal.specs.Input.{IsAsked}
use Rattle.request_journal.specs.Past.{Past}
use Rattle.request_journal.specs.declared.event.Event.{Event}
use Rattle.request_journal.specs.declared.event.Event.TheVariants as event
use Rattle.request_journal.specs.declared.event.ServeAnswer.{ServeAnswer}
use Rattle.request_journal.specs.declared.input.BookInput.{BookInput}
use Rattle.request_journal.specs.declared.input.BookInput.TheVariants as input
use Rattle.stub_book.specs.Growth.{Grows, IsServed}
use Rattle.stub_book.specs.Refusals.{IsFull, IsServeRefusal}
use Rattle.shared_book.specs.Script.{IsAskedBy}
use Rattle.world_core.specs.Schedule.{Happens, IsAct, IsFinish, IsRefusedBy, IsStep, WorldState, held_after}
use Rattle.world_core.specs.declared.held.Held.{Held}
use Rattle.shared_book.specs.declared.script.Call.{Call}
use Rattle.shared_book.specs.declared.script.Call.TheVariants.{Serve, Apply}
use Rattle.world_core.specs.declared.step.Step.{Step}
use Rattle.world_core.specs.declared.step.Step.TheVariants.{Act, Finish}

-- no call but that of a request is answered by one that is served
pub no_serve : (asked : BookInput) (request : Request) (answer : ServeAnswer)
    → IsAsked asked (event.Serve request answer) → ⊥
no_serve (input.Add mapping) request answer is = is
no_serve (input.Edit id mapping) request answer is = is
no_serve (input.Delete id) request answer is = is
no_serve input.DeleteAll request answer is = is
no_serve input.ResetMappings request answer is = is
no_serve input.ResetAll request answer is = is
no_serve input.ResetScenarios request answer is = is
no_serve (input.SetScenario name state) request answer is = is
no_serve input.ClearJournal request answer is = is
no_serve (input.StartRecording target captured repeats) request answer is = is
no_serve (input.Record serve exchange) request answer is = is
no_serve input.StopRecording request answer is = is

-- a change of the book chooses no mapping
same_held : (actor : ℕ) (asked : BookInput) (e : Event) (held : List Held) → IsAsked asked e
    → held_after actor e held ≡ held
same_held actor asked (event.Serve request answer) held is = absurd (no_serve asked request answer is)
same_held actor asked other held is = refl

-- ---- acts on a world that is seen as `old`

module _ (old seen : WorldState) (is : seen ≡ old) where
  pub served : (actor : ℕ) (request : Request) (e : Event) (past : Past) (held : List Held) → IsServed request e
      → Grows seen.past past e → held ≡ held_after actor e seen.held
      → (event : Option Event)
      × IsAct old actor (Serve request) event (record { past = past; held = held; limits = seen.limits })
  served actor request e past held (answer, event_is) grows same =
      let new : WorldState = record { past = past; held = held; limits = seen.limits } in
      let happens : Happens seen actor (Serve request) e new = record {
        asked_for = subst (IsAskedBy (Serve request)) (sym event_is) refl;
        grows = grows;
        held = same;
        same_limits = refl;
      } in
      (Some e, subst (λ (w : WorldState). Happens w actor (Serve request) e new) is happens)

  pub applied : (actor : ℕ) (asked : BookInput) (e : Event) (past : Past) → IsAsked asked e
      → Grows seen.past past e → (event : Option Event)
      × IsAct old actor (Apply asked) event (record { past = past; held = seen.held; limits = seen.limits })
  applied actor asked e past asked_for grows =
      let new : WorldState = record { past = past; held = seen.held; limits = seen.limits } in
      let happens : Happens seen actor (Apply asked) e new = record {
        asked_for = asked_for;
        grows = grows;
        held = sym (same_held actor asked e seen.held asked_for);
        same_limits = refl;
      } in
      (Some e, subst (λ (w : WorldState). Happens w actor (Apply asked) e new) is happens)

  pub refused : (actor : ℕ) (call : Call) (past : Past) (held : List Held) → past ≡ seen.past
      → held ≡ seen.held → IsRefusedBy seen.past call
      → (event : Option Event)
      × IsAct old actor call event (record { past = past; held = held; limits = seen.limits })
  refused actor call past held past_is held_is why = (
    None,
    (
      subst (λ (w : WorldState). IsRefusedBy w.past call) is why,
      (λ i. record { past = past_is i; held = held_is i; limits = seen.limits }) ∙ is,
    ),
  )

pub full : (past : Past) (code : ErrorCode) → IsServeRefusal past code → code ≢ OutOfMemory → IsFull past
full past code (inl (is, no_number)) other = no_number
full past code (inr (memory, room)) other = absurd (other memory)

-- ---- steps

pub on_ok_at : {T E : Type 0} (r s : Result T E) (P : Type 0) → r ≡ s → OnOk s P → OnOk r P
on_ok_at {T} {E} r s P e ok = subst (λ (x : Result T E). OnOk x P) (sym e) ok

pub on_err : {T E : Type 0} (r : Result T E) (P : Type 0) → P → OnErr r P
on_err (Ok x) P p = tt
on_err (Err e) P p = p

pub acted : (old new : WorldState) (step : Step) (actor : ℕ) (call : Call) → step ≡ Act actor call
    → (event : Option Event) × IsAct old actor call event new
    → (event : Option Event) × IsStep old step (record { event = event; reply = None }) new
acted old new step actor call is (event, act) =
    (event, subst (λ (s : Step). IsStep old s (record { event = event; reply = None }) new) (sym is) (act, refl))

pub finished : {E : Type 0} (old new : WorldState) (step : Step) (actor : ℕ) (result : Result (Option Reply) E)
    → step ≡ Finish actor → IfOk result (λ reply. IsFinish old actor reply new)
    → IfOk result (λ reply. (event : Option Event) × IsStep old step (record { event = event; reply = reply }) new)
finished old new step actor (Ok reply) is finish =
    (None, subst (λ (s : Step). IsStep old s (record { event = None; reply = reply }) new) (sym is) (refl, finish))
finished old new step actor (Err error) is finish = tt
