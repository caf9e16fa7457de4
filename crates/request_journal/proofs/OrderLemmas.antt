-- Live mappings are in order of their places, each of another place, so a past allows one choice for a request.
use Rattle.std.proofs.Common.{◌≡◌, ◌⊎◌, inl, inr, ℕ, zero, suc, ◌+◌, ◌<◌, true, false, cond, List}
use Rattle.std.proofs.Common.{[], ◌∷◌, ◌++◌, refl, sym, ap, subst, ◌∙◌, arith, append-nil}
use Rattle.std.proofs.lemmas.Bool.{cases_order}
use Rattle.std.proofs.lemmas.Int.{by_lt_z, ints}
use Rattle.std.specs.List.{Contains}
use Rattle.std.specs.Prelude.{◌≤ℤ◌, ℤ}
use Rattle.mapping_model.specs.Priority.{priority_of}
use Rattle.mock_request.specs.Request.{Request}
use Rattle.recorder.specs.Recording.{IsOn, IsOnAnd}
use Rattle.recorder.specs.declared.recording.Recording.{Recording}
use Rattle.recorder.specs.declared.recording.Recording.TheVariants.{NeverStarted, On, Stopped}
use Rattle.request_journal.specs.Choice.{IsNewer, WinsOver, IsEligible, IsMissed, IsChosen, IsChoice}
use Rattle.request_journal.specs.Legal.{IsCheckpoint}
use Rattle.request_journal.specs.Live.{live, adds, added_mappings, is_removed, left_by}
use Rattle.request_journal.specs.Past.{Past, Place, Placed, has_id, placed_from, opening_base, with_event, last_number}
use Rattle.request_journal.specs.Recording.{recording}
use Rattle.request_journal.specs.State.{state}
use Rattle.request_journal.specs.declared.event.Event.{Event}
use Rattle.request_journal.specs.declared.event.ServeAnswer.{ServeAnswer}
use Rattle.request_journal.specs.declared.event.ServeAnswer.TheVariants.{Stub, Proxy, Unmatched}
use Rattle.request_journal.specs.declared.mapping.Mapping.{Mapping}
use Rattle.request_journal.proofs.LiveLemmas.{live_after, live_at_checkpoint, left_by_none, gone, kept}
use Rattle.request_journal.proofs.PlaceLemmas.{AreWithin, same_le, both_within, wider, left_within, placed_within}
use Rattle.request_journal.proofs.PlaceLemmas.{live_within}
use Rattle.request_journal.proofs.CheckpointLemmas.{number_at_checkpoint}
use Rattle.request_journal.proofs.SameLemmas.{number_after}

-- each of them is newer than the place
abbrev pub AreNewer : Place → List Placed → Type 0
AreNewer place [] = Unit {0}
AreNewer place (q ∷ qs) = IsNewer q.place place × AreNewer place qs

abbrev pub AreInOrder : List Placed → Type 0
AreInOrder [] = Unit {0}
AreInOrder (p ∷ ps) = AreNewer p.place ps × AreInOrder ps

-- ---- the mappings that one event adds

placed_newer : (number before index : ℕ) (ms : List Mapping) → before < index
    → AreNewer (record { event = number; index = before }) (placed_from number index ms)
placed_newer number before index [] l = tt
placed_newer number before index (m ∷ ms) l =
    elim (has_id ms m.id)
    as (λ b. AreNewer (record { event = number; index = before }) (cond b (placed_from number (index + 1) ms)
    (record { place = record { event = number; index = index }; mapping = m } ∷ placed_from number (index + 1) ms))) [
      | true ↦ placed_newer number before (index + 1) ms (omega arith)
      | false ↦ (inr (refl, l), placed_newer number before (index + 1) ms (omega arith))
    ]

placed_in_order : (number index : ℕ) (ms : List Mapping) → AreInOrder (placed_from number index ms)
placed_in_order number index [] = tt
placed_in_order number index (m ∷ ms) =
    elim (has_id ms m.id)
    as (λ b. AreInOrder (cond b (placed_from number (index + 1) ms)
    (record { place = record { event = number; index = index }; mapping = m } ∷ placed_from number (index + 1) ms))) [
      | true ↦ placed_in_order number (index + 1) ms
      | false ↦ (placed_newer number index (index + 1) ms (omega arith), placed_in_order number (index + 1) ms)
    ]

-- ---- what is left by events

left_newer : (es : List Event) (place : Place) (ps : List Placed) → AreNewer place ps
    → AreNewer place (left_by es ps)
left_newer es place [] h = tt
left_newer es place (p ∷ ps) h =
    elim (is_removed es p.mapping.id) as
    (λ r. is_removed es p.mapping.id ≡ r → AreNewer place (left_by es (p ∷ ps))) [
      | true ↦ λ r. subst (AreNewer place) (sym (gone es p ps r)) (left_newer es place ps h.1)
      | false ↦ λ r. subst (AreNewer place) (sym (kept es p ps r)) (h.0, left_newer es place ps h.1)
    ] refl

left_in_order : (es : List Event) (ps : List Placed) → AreInOrder ps → AreInOrder (left_by es ps)
left_in_order es [] h = tt
left_in_order es (p ∷ ps) h =
    elim (is_removed es p.mapping.id) as
    (λ r. is_removed es p.mapping.id ≡ r → AreInOrder (left_by es (p ∷ ps))) [
      | true ↦ λ r. subst AreInOrder (sym (gone es p ps r)) (left_in_order es ps h.1)
      | false ↦ λ r. subst AreInOrder (sym (kept es p ps r)) (left_newer es p.place ps h.0, left_in_order es ps h.1)
    ] refl

-- ---- two lists of which the second is newer

newer_than : (low high : ℕ) (place : Place) (qs : List Placed) → place.event < low → AreWithin low high qs
    → AreNewer place qs
newer_than low high place [] l w = tt
newer_than low high place (q ∷ qs) l w = (inl (omega (arith, w.0)), newer_than low high place qs l w.2)

both_newer : (place : Place) (ps qs : List Placed) → AreNewer place ps → AreNewer place qs
    → AreNewer place (ps ++ qs)
both_newer place [] qs h g = g
both_newer place (p ∷ ps) qs h g = (h.0, both_newer place ps qs h.1 g)

both_in_order : (low middle above high : ℕ) (ps qs : List Placed) → middle < above
    → AreWithin low middle ps → AreWithin above high qs → AreInOrder ps → AreInOrder qs
    → AreInOrder (ps ++ qs)
both_in_order low middle above high [] qs l w v h g = g
both_in_order low middle above high (p ∷ ps) qs l w v h g = (
  both_newer p.place ps qs h.0 (newer_than above high p.place qs (omega (arith, w.1)) v),
  both_in_order low middle above high ps qs l w.2 v h.1 g,
)

-- ---- the laws of order

pub in_order_opened : (opening : ℕ) (defaults : List Mapping)
    → AreInOrder (live (record {
      opening = opening;
      defaults = defaults;
      base = opening_base opening defaults;
      events = [];
    }))
in_order_opened opening defaults =
    subst AreInOrder
    (sym (append-nil (left_by [] (placed_from opening 0 defaults)) ∙ left_by_none (placed_from opening 0 defaults)))
    (placed_in_order opening 0 defaults)

-- where no live mapping is newer than the last event (`live_within`)
pub in_order_after : (low : ℕ) (past : Past) (e : Event) → AreWithin low (last_number past) (live past)
    → AreInOrder (live past) → AreInOrder (live (with_event past e))
in_order_after low past e w h =
    let number : ℕ = last_number past + 1 in
    subst AreInOrder (sym (live_after past e))
    (both_in_order low (last_number past) number number (left_by (e ∷ []) (live past)) (adds past.defaults number e)
    (omega arith)
    (left_within low (last_number past) (e ∷ []) (live past) w)
    (placed_within number 0 (added_mappings past.defaults e))
    (left_in_order (e ∷ []) (live past) h)
    (placed_in_order number 0 (added_mappings past.defaults e)))

pub in_order_at_checkpoint : (old new : Past) → IsCheckpoint old new → AreInOrder (live old)
    → AreInOrder (live new)
in_order_at_checkpoint old new c h = subst AreInOrder (sym (live_at_checkpoint old new c)) h

-- ---- both laws at once, for whoever keeps a past

-- the live mappings are in order of their places, and none is newer than the last event
pub record ArePlaced (past : Past) : Type 0 where
  pub within : AreWithin 0 (last_number past) (live past)
  pub in_order : AreInOrder (live past)

pub placed_opened : (opening : ℕ) (defaults : List Mapping)
    → ArePlaced (record {
      opening = opening;
      defaults = defaults;
      base = opening_base opening defaults;
      events = [];
    })
placed_opened opening defaults =
    let past : Past = record {
      opening = opening;
      defaults = defaults;
      base = opening_base opening defaults;
      events = [];
    } in
    record {
      within = live_within 0 past (omega arith)
          (wider opening 0 opening opening (placed_from opening 0 defaults) (omega arith) (same_le opening)
          (placed_within opening 0 defaults));
      in_order = in_order_opened opening defaults;
    }

pub placed_after : (past : Past) (e : Event) → ArePlaced past → ArePlaced (with_event past e)
placed_after past e h =
    let number : ℕ = last_number past + 1 in
    let left : List Placed = left_by (e ∷ []) (live past) in
    record {
      within = subst (λ n. AreWithin 0 n (live (with_event past e))) (sym (number_after past e))
          (subst (AreWithin 0 number) (sym (live_after past e))
          (both_within 0 number left (adds past.defaults number e)
          (wider 0 0 (last_number past) number left (same_le 0) (omega arith)
          (left_within 0 (last_number past) (e ∷ []) (live past) h.within))
          (wider number 0 number number (adds past.defaults number e) (omega arith) (same_le number)
          (placed_within number 0 (added_mappings past.defaults e)))));
      in_order = in_order_after 0 past e h.within h.in_order;
    }

pub placed_at_checkpoint : (old new : Past) → IsCheckpoint old new → ArePlaced old → ArePlaced new
placed_at_checkpoint old new c h = record {
  within = subst (λ n. AreWithin 0 n (live new)) (sym (number_at_checkpoint old new c))
      (subst (AreWithin 0 (last_number old)) (sym (live_at_checkpoint old new c)) h.within);
  in_order = in_order_at_checkpoint old new c h.in_order;
}

-- ---- one mapping has a place

not_itself : (place : Place) → ¬ (IsNewer place place)
not_itself place (inl l) = absurd (omega arith)
not_itself place (inr h) = absurd (omega (arith, h.1))

first_or_later : (p : Placed) (ps : List Placed) (q : Placed) → Contains (p ∷ ps) q → (p ≡ q) ⊎ Contains ps q
first_or_later p ps q (zero, l, e) = inl e
first_or_later p ps q (suc k, l, e) = inr (k, omega (arith, l), e)

newer_one : (place : Place) (ps : List Placed) (q : Placed) → AreNewer place ps → Contains ps q
    → IsNewer q.place place
newer_one place [] q h c = absurd (omega (arith, c.1))
newer_one place (p ∷ ps) q h c = elim (first_or_later p ps q c) as (λ _. IsNewer q.place place) [
  | inl e ↦ subst (λ (x : Placed). IsNewer x.place place) e h.0
  | inr later ↦ newer_one place ps q h.1 later
]

apart : (place : Place) (ps : List Placed) (q : Placed) → AreNewer place ps → Contains ps q
    → place ≡ q.place → ⊥
apart place ps q h c e =
    not_itself place (subst (λ (x : Place). IsNewer x place) (sym e) (newer_one place ps q h c))

pub one_of_place : (ps : List Placed) (p q : Placed) → AreInOrder ps → Contains ps p → Contains ps q
    → p.place ≡ q.place → p ≡ q
one_of_place [] p q h c d e = absurd (omega (arith, c.1))
one_of_place (x ∷ xs) p q h c d e =
    elim (first_or_later x xs p c) as (λ _. p ≡ q) [
      | inl is_p ↦ elim (first_or_later x xs q d) as (λ _. p ≡ q) [
        | inl is_q ↦ sym is_p ∙ is_q
        | inr later ↦ absurd (apart x.place xs q h.0 later (ap (λ (y : Placed). y.place) is_p ∙ e))
      ]
      | inr later_p ↦ elim (first_or_later x xs q d) as (λ _. p ≡ q) [
        | inl is_q ↦ absurd (apart x.place xs p h.0 later_p (ap (λ (y : Placed). y.place) is_q ∙ sym e))
        | inr later_q ↦ one_of_place xs p q h.1 later_p later_q e
      ]
    ]

-- ---- one choice

same_place : (a b : Place) → ¬ (IsNewer a b) → ¬ (IsNewer b a) → a ≡ b
same_place a b h g =
    elim (cases_order a.event b.event) as (λ _. a ≡ b) [
      | inl e ↦ elim (cases_order a.index b.index) as (λ _. a ≡ b) [
        | inl i ↦ λ k. record { event = e k; index = i k }
        | inr (inl l) ↦ absurd (g (inr (sym e, l)))
        | inr (inr l) ↦ absurd (h (inr (e, l)))
      ]
      | inr (inl l) ↦ absurd (g (inl l))
      | inr (inr l) ↦ absurd (h (inl l))
    ]

same_number : (a b : ℤ) → a ≤ℤ b → b ≤ℤ a → a ≡ b
same_number a b h g = omega (arith, ints)

neither_wins : (a b : Placed) → ¬ (WinsOver a b) → ¬ (WinsOver b a) → a.place ≡ b.place
neither_wins a b h g =
    let m : ℤ = priority_of a.mapping.spec.priority in
    let n : ℤ = priority_of b.mapping.spec.priority in
    by_lt_z {P = a.place ≡ b.place} m n (λ l. absurd (h (inl l)))
    (λ above. by_lt_z {P = a.place ≡ b.place} n m (λ l. absurd (g (inl l)))
    (λ below. same_place a.place b.place
    (λ newer. h (inr (same_number m n below above, newer)))
    (λ newer. g (inr (same_number n m above below, newer)))))

module _ (state_of : List ℕ → List ℕ) (placed : List Placed) (request : Request) where
  one_chosen : (a b : Mapping) → AreInOrder placed
      → IsChosen state_of placed request a → IsChosen state_of placed request b → a ≡ b
  one_chosen a b h c d =
      let eligible_c : IsEligible state_of request c.placed.mapping =
      subst (IsEligible state_of request) (sym c.same) c.eligible in
      let eligible_d : IsEligible state_of request d.placed.mapping =
      subst (IsEligible state_of request) (sym d.same) d.eligible in
      sym c.same
      ∙ ap (λ (p : Placed). p.mapping)
      (one_of_place placed c.placed d.placed h c.is_live d.is_live
      (neither_wins c.placed d.placed (d.best c.placed c.is_live eligible_c) (c.best d.placed d.is_live eligible_d)))
      ∙ d.same

  missed : (mapping : Mapping) → IsChosen state_of placed request mapping → IsMissed state_of placed request → ⊥
  missed mapping c none = none c.placed c.is_live (subst (IsEligible state_of request) (sym c.same) c.eligible)

one_target : (r : Recording) (a b : List ℕ) → IsOnAnd r (λ session. session.target ≡ a)
    → IsOnAnd r (λ session. session.target ≡ b) → a ≡ b
one_target NeverStarted a b h g = absurd h
one_target (On session) a b h g = sym h ∙ g
one_target (Stopped session) a b h g = absurd h

is_on : (r : Recording) (a : List ℕ) → IsOnAnd r (λ session. session.target ≡ a) → IsOn r
is_on NeverStarted a h = h
is_on (On session) a h = tt
is_on (Stopped session) a h = h

-- a request is answered in one way
pub one_choice : (past : Past) (request : Request) (a b : ServeAnswer) → AreInOrder (live past)
    → IsChoice past request a → IsChoice past request b → a ≡ b
one_choice past request (Stub a) (Stub b) h c d =
    λ i. Stub (record { mapping = one_chosen (state past) (live past) request a.mapping b.mapping h c d i })
one_choice past request (Stub a) (Proxy b) h c d = absurd (missed (state past) (live past) request a.mapping c d.0)
one_choice past request (Stub a) Unmatched h c d = absurd (missed (state past) (live past) request a.mapping c d.0)
one_choice past request (Proxy a) (Stub b) h c d = absurd (missed (state past) (live past) request b.mapping d c.0)
one_choice past request (Proxy a) (Proxy b) h c d = ap Proxy (one_target (recording past) a b c.1 d.1)
one_choice past request (Proxy a) Unmatched h c d = absurd (d.1 (is_on (recording past) a c.1))
one_choice past request Unmatched (Stub b) h c d = absurd (missed (state past) (live past) request b.mapping d c.0)
one_choice past request Unmatched (Proxy b) h c d = absurd (c.1 (is_on (recording past) b d.1))
one_choice past request Unmatched Unmatched h c d = refl
