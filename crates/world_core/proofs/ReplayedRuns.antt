-- Recorded requests that are sent again get the recorded replies.
use Rattle.std.proofs.Common.{◌≡◌, ℕ, true, List, [], ◌∷◌, ◌++◌, map, All, Option, Some, None, refl}
use Rattle.std.proofs.Common.{sym, ap, ◌∙◌, subst, arith}
use Rattle.std.specs.Prelude.{Any, Contains, ◌↔◌}
use Rattle.std.specs.List.{cons_option}
use Rattle.mapping_model.specs.declared.mapping_spec.MappingSpec.{MappingSpec}
use Rattle.mapping_model.specs.declared.reply.Reply.{Reply}
use Rattle.mock_request.specs.Request.{Request}
use Rattle.recorder.specs.Stubs.{mappings_of}
use Rattle.recorder.specs.declared.exchange.Exchange.{Exchange}
use Rattle.request_journal.specs.Choice.{IsChoice}
use Rattle.request_journal.specs.Live.{live}
use Rattle.request_journal.specs.Past.{Past, Placed, with_event}
use Rattle.request_journal.specs.declared.event.Captured.{Captured}
use Rattle.request_journal.specs.declared.event.Event.{Event}
use Rattle.request_journal.specs.declared.event.Event.TheVariants as event
use Rattle.request_journal.specs.declared.event.ServeAnswer.{ServeAnswer}
use Rattle.request_journal.specs.declared.event.ServeAnswer.TheVariants.{Stub, Proxy, Unmatched}
use Rattle.stub_book.specs.Refusals.{IsFull}
use Rattle.stub_response.specs.Response.{IsResponse}
use Rattle.stub_response.specs.declared.limits.Limits.{Limits}
use Rattle.world_core.specs.Replay.{HasRecorded, IsReplayable, replies_of, sending}
use Rattle.world_core.specs.Schedule.{Happens, IsAct, IsGiven, IsRun, Outcome, WorldState, held_by}
use Rattle.world_core.specs.declared.held.Held.{Held}
use Rattle.shared_book.specs.declared.script.Call.TheVariants.{Serve}
use Rattle.world_core.proofs.HeldLemmas.{put_own}
use Rattle.world_core.proofs.ListFacts.{all_item, item_between, IsItem}
use Rattle.world_core.proofs.Replayed.{IsBetween, after_one, at_first, chosen, own}
use Rattle.world_core.proofs.ReplyLemmas.{IsClean, same_reply}

no_proxy : (target : List ℕ) (c : Captured) → Proxy target ≡ Stub c → ⊥
no_proxy target c e = cc

no_miss : (c : Captured) → Unmatched ≡ Stub c → ⊥
no_miss c e = cc

same_stub : (c d : Captured) → Stub c ≡ Stub d → c ≡ d
same_stub c d e = cc

-- ---- a request and its reply

-- after the act the actor holds this, and the past has one event more
pub record IsServed (old new : WorldState) (actor : ℕ) (request : Request) (c : Captured) : Type 0 where
  pub choice : IsChoice old.past request (Stub c)
  pub past : new.past ≡ with_event old.past (event.Serve request (Stub c))
  pub held : held_by actor new.held ≡ Some (record { actor = actor; event = event.Serve request (Stub c) })

-- whatever is chosen is a stub
abbrev Chooses : Past → Request → Type 0
Chooses past request = (answer : ServeAnswer) → IsChoice past request answer → (c : Captured) × (answer ≡ Stub c)

of_event : (old new : WorldState) (actor : ℕ) (request : Request) (e : Event) → Chooses old.past request
    → Happens old actor (Serve request) e new → (c : Captured) × IsServed old new actor request c
of_event old new actor request (event.Serve served (Stub c)) chooses happens = (
  c,
  record {
    choice = subst (λ r. IsChoice old.past r (Stub c)) happens.asked_for happens.grows.next.answer;
    past = happens.grows.after ∙ ap (λ r. with_event old.past (event.Serve r (Stub c))) happens.asked_for;
    held = ap (held_by actor) happens.held
        ∙ put_own actor old.held (record { actor = actor; event = event.Serve served (Stub c) }) refl
        ∙ ap (λ r. Some (record { actor = actor; event = event.Serve r (Stub c) })) happens.asked_for;
  },
)
of_event old new actor request (event.Serve served (Proxy target)) chooses happens =
    let never = chooses (Proxy target)
    (subst (λ r. IsChoice old.past r (Proxy target)) happens.asked_for happens.grows.next.answer) in
    absurd (no_proxy target never.0 never.1)
of_event old new actor request (event.Serve served Unmatched) chooses happens =
    let never = chooses Unmatched
    (subst (λ r. IsChoice old.past r Unmatched) happens.asked_for happens.grows.next.answer) in
    absurd (no_miss never.0 never.1)
of_event old new actor request other chooses happens = absurd happens.asked_for

of_act : (old new : WorldState) (actor : ℕ) (request : Request) (e : Option Event) → ¬ (IsFull old.past)
    → Chooses old.past request → IsAct old actor (Serve request) e new
    → (c : Captured) × IsServed old new actor request c
of_act old new actor request None room chooses act = absurd (room act.0)
of_act old new actor request (Some e) room chooses act = of_event old new actor request e chooses act

-- the reply to what is held
of_given : (limits : Limits) (actor : ℕ) (request : Request) (c : Captured)
    (found : Option Held) (reply : Option Reply)
    → found ≡ Some (record { actor = actor; event = event.Serve request (Stub c) }) → IsGiven limits found reply
    → (given : Reply) × (reply ≡ Some given) × IsResponse limits c.mapping.spec request given
of_given limits actor request c found reply is given =
    let held : IsGiven limits (Some (record { actor = actor; event = event.Serve request (Stub c) })) reply =
    subst (λ o. IsGiven limits o reply) is given in
    (held.0, held.1, held.2)

two_more : (first second : Outcome) (rest : List Outcome) (reply : Reply) → first.reply ≡ None
    → second.reply ≡ Some reply → replies_of (first ∷ second ∷ rest) ≡ reply ∷ replies_of rest
two_more first second rest reply none some = λ i. cons_option (none i) (cons_option (some i) (replies_of rest))

module _ (captured : List (List ℕ)) (number : ℕ) (exchanges : List Exchange) (can : IsReplayable captured exchanges)
    (all : List Placed)
    (live_ones : (spec : MappingSpec) → Any (λ p. p.mapping.spec ≡ spec) all
    ↔ Contains (mappings_of captured exchanges true number) spec)
    (actor : ℕ) where
  replayed : (done left : List Exchange) (start end : WorldState) (outcomes : List Outcome)
      → IsBetween captured number exchanges can all done left start.past
      → IsRun start (sending actor left) outcomes end → replies_of outcomes ≡ map (λ e. e.reply) left
  replayed done [] start end outcomes now run = ap replies_of run.0
  replayed done (e ∷ left) start end [] now run = absurd run
  replayed done (e ∷ left) start end (first ∷ []) now (served, act, rest) = absurd rest
  replayed done (e ∷ left) start end (first ∷ second ∷ outcomes) now (served, act, (finished, finish, rest)) =
      let room : ¬ (IsFull start.past) = λ full. let r = now.room in absurd (omega (arith, full, r)) in
      let chooses : Chooses start.past e.request = λ answer choice.
      let found = chosen captured number exchanges can all live_ones done e left start.past now answer choice in
      (found.0, found.1) in
      let (c, made) = of_act start served actor e.request first.event room chooses act.0 in
      let found = chosen captured number exchanges can all live_ones done e left start.past now (Stub c) made.choice in
      let is : c.mapping.spec ≡ own captured number exchanges can done e =
      ap (λ (m : Captured). m.mapping.spec) (same_stub c found.0 found.1) ∙ found.2 in
      let (reply, gives, response) = of_given served.limits actor e.request c
      (held_by actor served.held) second.reply made.held finish.1.given in
      let item : IsItem exchanges e = subst (λ es. IsItem es e) (sym now.whole) (item_between done e left) in
      let same : reply ≡ e.reply = same_reply served.limits c.mapping.spec e.request e.reply reply
      (ap (λ (m : MappingSpec). m.response) is)
      (all_item (λ x. All IsClean x.reply.headers) exchanges e can.values item) response in
      let next = after_one captured number exchanges can all live_ones done e left start.past now c is in
      let past : finished.past ≡ with_event start.past (event.Serve e.request (Stub c)) =
      finish.1.same_past ∙ made.past in
      two_more first second outcomes reply act.1 gives
      ∙ (λ i. same i ∷ replayed (done ++ e ∷ []) left finished end outcomes
      (subst (λ p. IsBetween captured number exchanges can all (done ++ e ∷ []) left p) (sym past) next) rest i)

pub replayed_run : (captured : List (List ℕ)) (number : ℕ) (exchanges : List Exchange)
    (actor : ℕ) (start end : WorldState)
    (outcomes : List Outcome) → IsReplayable captured exchanges → HasRecorded captured number exchanges start.past
    → IsRun start (sending actor exchanges) outcomes end
    → replies_of outcomes ≡ map (λ e. e.reply) exchanges
replayed_run captured number exchanges actor start end outcomes can has run =
    replayed captured number exchanges can (live start.past) has.same_mappings actor [] exchanges start end outcomes
    (at_first captured number exchanges can start.past has) run
