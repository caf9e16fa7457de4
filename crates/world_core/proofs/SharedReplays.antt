-- Recorded requests that are served in the one history of a shared book.
use Rattle.std.proofs.Common.{◌≡◌, ℕ, true, List, [], ◌∷◌, ◌++◌, All, sym, ap, subst, ◌∙◌}
use Rattle.std.specs.List.{AllZip}
use Rattle.std.specs.Prelude.{Any, Contains, ◌↔◌}
use Rattle.mapping_model.specs.declared.mapping_spec.MappingSpec.{MappingSpec}
use Rattle.mapping_model.specs.declared.reply.Reply.{Reply}
use Rattle.recorder.specs.Stubs.{mappings_of}
use Rattle.recorder.specs.declared.exchange.Exchange.{Exchange}
use Rattle.request_journal.specs.Live.{live}
use Rattle.request_journal.specs.Past.{Past, Placed, with_event}
use Rattle.request_journal.specs.declared.event.Captured.{Captured}
use Rattle.request_journal.specs.declared.event.Event.{Event}
use Rattle.request_journal.specs.declared.event.Event.TheVariants as event
use Rattle.request_journal.specs.declared.event.ServeAnswer.TheVariants.{Stub}
use Rattle.shared_book.specs.Reached.{IsPastOf, Lead, Log}
use Rattle.shared_history.specs.Entries.{events}
use Rattle.stub_book.specs.Growth.{Grows, IsServed}
use Rattle.stub_response.specs.Response.{IsResponse}
use Rattle.stub_response.specs.declared.limits.Limits.{Limits}
use Rattle.world_core.specs.Replay.{GivesBack, HasRecorded, IsReplayable}
use Rattle.world_core.proofs.ListFacts.{all_item, item_between, IsItem}
use Rattle.world_core.proofs.Replayed.{IsBetween, after_one, at_first, chosen, own}
use Rattle.world_core.proofs.ReplyLemmas.{IsClean, same_reply}

-- the serves of these exchanges
abbrev AreServes : List Exchange → List Event → Type 0
AreServes = AllZip (λ exchange served. IsServed exchange.request served)

module _ (captured : List (List ℕ)) (number : ℕ) (exchanges : List Exchange) (can : IsReplayable captured exchanges)
    (all : List Placed)
    (live_ones : (spec : MappingSpec) → Any (λ p. p.mapping.spec ≡ spec) all
    ↔ Contains (mappings_of captured exchanges true number) spec) where
  -- the version of the very exchange was chosen, whose response is its reply
  gives_back : (done left : List Exchange) (e : Exchange) (past : Past) (c : Captured)
      → IsBetween captured number exchanges can all done (e ∷ left) past
      → c.mapping.spec ≡ own captured number exchanges can done e
      → (limits : Limits) (reply : Reply) → IsResponse limits c.mapping.spec e.request reply → reply ≡ e.reply
  gives_back done left e past c now is limits reply response =
      let item : IsItem exchanges e = subst (λ es. IsItem es e) (sym now.whole) (item_between done e left) in
      same_reply limits c.mapping.spec e.request e.reply reply (ap (λ (m : MappingSpec). m.response) is)
      (all_item (λ x. All IsClean x.reply.headers) exchanges e can.values item) response

  replayed_events : (done left : List Exchange) (es : List Event) (start past : Past)
      → IsBetween captured number exchanges can all done left start → Lead start es past → AreServes left es
      → AllZip GivesBack left es
  replayed_events done [] [] start past now lead serves = tt
  replayed_events done [] (x ∷ es) start past now lead serves = absurd serves
  replayed_events done (e ∷ left) [] start past now lead serves = absurd serves
  replayed_events done (e ∷ left) (x ∷ es) start past now (next, grows, lead) ((answer, is), serves) =
      let served : Grows start next (event.Serve e.request answer) =
      subst (λ (y : Event). Grows start next y) is grows in
      let (c, stub, own_one) = chosen captured number exchanges can all live_ones done e left start now answer
      served.next.answer in
      let same : x ≡ event.Serve e.request (Stub c) = is ∙ ap (λ a. event.Serve e.request a) stub in
      let after : with_event start (event.Serve e.request (Stub c)) ≡ next =
      sym (subst (λ a. next ≡ with_event start (event.Serve e.request a)) stub served.after) in
      let more = after_one captured number exchanges can all live_ones done e left start now c own_one in (
        (c, same, gives_back done left e start c now own_one),
        replayed_events (done ++ e ∷ []) left es next past
            (subst (λ p. IsBetween captured number exchanges can all (done ++ e ∷ []) left p) after more) lead serves,
      )

pub replayed_log : (captured : List (List ℕ)) (number : ℕ) (exchanges : List Exchange) (start past : Past) (log : Log)
    → IsReplayable captured exchanges → HasRecorded captured number exchanges start → IsPastOf start log past
    → AreServes exchanges (events log) → AllZip GivesBack exchanges (events log)
replayed_log captured number exchanges start past log can has lead serves =
    replayed_events captured number exchanges can (live start) has.same_mappings [] exchanges (events log) start past
    (at_first captured number exchanges can start has) lead serves
