-- Which events are the next ones of a past, and what becomes of the parts of a book.
use Rattle.std.proofs.Common.{◌≡◌, ◌≤◌, ◌<◌, ◌+◌, ℕ, true, List, [], ◌∷◌, ◌++◌, length}
use Rattle.std.proofs.Common.{sym, ap, ◌∙◌, subst, arith, append-nil}
use Rattle.mapping_store.proofs.CountLemmas.{length-placed}
use Rattle.request_journal.specs.Legal.{IsNext, IsAnswer}
use Rattle.request_journal.specs.Live.{live, adds, left_by, removes}
use Rattle.request_journal.specs.Past.{Past, with_event, last_number, placed_from}
use Rattle.request_journal.specs.declared.event.Event.{Event}
use Rattle.request_journal.specs.declared.limits.TheConstants.{LIVE_LIMIT, NUMBER_LIMIT}
use Rattle.request_journal.proofs.LiveLemmas.{live_after}
use Rattle.stub_book.proofs.LeftLemmas.{left_few, left_none}

-- an event that adds nothing
pub next_plain :
    (past : Past) (event : Event) → IsAnswer past event → adds past.defaults (last_number past + 1) event ≡ []
    → length (live past) ≤ LIVE_LIMIT → last_number past < NUMBER_LIMIT → IsNext past event
next_plain past event answer none few room =
    let after : length (live (with_event past event)) ≡ length (left_by (event ∷ []) (live past)) =
    ap length (live_after past event ∙ ap (λ l. left_by (event ∷ []) (live past) ++ l) none
    ∙ append-nil (left_by (event ∷ []) (live past))) in
    let less : length (left_by (event ∷ []) (live past)) ≤ length (live past) = left_few event (live past) in
    record { answer = answer; few_live = omega (arith, after, less, few); has_room = room }

-- an event that removes all mappings and adds the defaults
pub next_reset :
    (past : Past) (event : Event) → IsAnswer past event → ((id : List ℕ) → removes event id ≡ true)
    → adds past.defaults (last_number past + 1) event ≡ placed_from (last_number past + 1) 0 past.defaults
    → length (placed_from 0 0 past.defaults) ≤ LIVE_LIMIT → last_number past < NUMBER_LIMIT → IsNext past event
next_reset past event answer takes defaults few room =
    let after : live (with_event past event) ≡ placed_from (last_number past + 1) 0 past.defaults =
    live_after past event ∙ (λ i. left_none event takes (live past) i ++ defaults i) in
    record {
      answer = answer;
      few_live = subst (λ l. length l ≤ LIVE_LIMIT) (sym after)
          (subst (λ n. n ≤ LIVE_LIMIT) (length-placed 0 0 (last_number past + 1) 0 past.defaults) few);
      has_room = room;
    }
