-- What the store's contracts say of a past with the same defaults, live mappings and states of scenarios.
use Rattle.std.proofs.Common.{◌≡◌, ◌+◌, ℕ, List, [], ◌∷◌, sym, ap, subst}
use Rattle.std.specs.List.Sorted.{IsPermutation}
use Rattle.std.proofs.lemmas.List.Sorted.{IsPermutation-refl, IsPermutation-sym, IsPermutation-trans}
use Rattle.std.proofs.lemmas.List.Sorted.{IsPermutation-append, Contains-permutation}
use Rattle.mock_request.specs.Request.{Request}
use Rattle.request_journal.specs.Choice.{IsMissed, IsChosen}
use Rattle.request_journal.specs.Live.{live, adds}
use Rattle.request_journal.specs.Past.{Past, Placed, with_event, last_number}
use Rattle.request_journal.specs.State.{state}
use Rattle.request_journal.specs.declared.event.Event.{Event}
use Rattle.request_journal.specs.declared.mapping.Mapping.{Mapping}
use Rattle.request_journal.proofs.LiveLemmas.{live_after}
use Rattle.scenario_core.specs.Scenarios.{States, state_of}
use Rattle.mapping_store.specs.Stored.{Stored, Follows, IsNewestFirst}
use Rattle.mapping_store.proofs.EventLemmas.{left_alike}

-- one more event
pub live_follows : (past : Past) (e : Event) (old new : Stored) → old.defaults ≡ past.defaults
    → IsPermutation (live past) old.live → Follows old new (last_number past + 1) e
    → IsPermutation (live (with_event past e)) new.live
live_follows past e old new defaults same follows =
    let number : ℕ = last_number past + 1 in
    let added : adds old.defaults number e ≡ adds past.defaults number e = ap (λ ds. adds ds number e) defaults in
    subst (λ l. IsPermutation l new.live) (sym (live_after past e))
    (IsPermutation-trans _ _ _
    (IsPermutation-append _ _ _ _ (left_alike (e ∷ []) (live past) old.live same)
    (subst (λ l. IsPermutation l (adds old.defaults number e)) added
    (IsPermutation-refl (adds old.defaults number e))))
    follows.live)

-- a listing
pub listed_in_past : (past : Past) (placed : List Placed) (listed : List Mapping) → IsPermutation (live past) placed
    → IsNewestFirst placed listed → IsNewestFirst (live past) listed
listed_in_past past placed listed same h = record {
  ordered = h.ordered;
  all = IsPermutation-trans (live past) placed h.ordered same h.all;
  newest_first = h.newest_first;
  mappings = h.mappings;
}

-- ---- the choice

-- lists in another order give the same choice
module _ (state_of : List ℕ → List ℕ) (one other : List Placed) (request : Request)
    (same : IsPermutation one other) where
  back : IsPermutation other one
  back = IsPermutation-sym one other same

  missed_alike : IsMissed state_of one request → IsMissed state_of other request
  missed_alike missed p among = missed p (Contains-permutation other one p back among)

  chosen_alike : (m : Mapping) → IsChosen state_of one request m → IsChosen state_of other request m
  chosen_alike m h = record {
    placed = h.placed;
    same = h.same;
    is_live = Contains-permutation one other h.placed same h.is_live;
    eligible = h.eligible;
    best = λ p among eligible. h.best p (Contains-permutation other one p back among) eligible;
  }

-- a past with the same live mappings and states
module _ (past : Past) (states : States) (placed : List Placed) (request : Request)
    (same_live : IsPermutation (live past) placed)
    (same_states : (name : List ℕ) → state_of states name ≡ state past name)
  where
    in_past : IsPermutation placed (live past)
    in_past = IsPermutation-sym (live past) placed same_live

    pub missed_in_past : IsMissed (state_of states) placed request → IsMissed (state past) (live past) request
    missed_in_past missed =
        subst (λ (s : List ℕ → List ℕ). IsMissed s (live past) request) (λ i name. same_states name i)
        (missed_alike (state_of states) placed (live past) request in_past missed)

    pub chosen_in_past : (m : Mapping) → IsChosen (state_of states) placed request m
        → IsChosen (state past) (live past) request m
    chosen_in_past m chosen =
        subst (λ (s : List ℕ → List ℕ). IsChosen s (live past) request m) (λ i name. same_states name i)
        (chosen_alike (state_of states) placed (live past) request in_past m chosen)
