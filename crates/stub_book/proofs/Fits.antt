-- What a book keeps agrees with its past after one more event with the right answer.
use Rattle.std.proofs.Common.{◌≡◌, ◌≤◌, ◌<◌, ◌+◌, ℕ, true, false, [], ◌∷◌, ◌++◌, length}
use Rattle.std.proofs.Common.{refl, sym, ap, ◌∙◌, subst, arith, append-nil}
use Rattle.std.specs.Bool.{MatchBool}
use Rattle.std.specs.List.Sorted.{IsPermutation}
use Rattle.std.specs.Option.{unwrap_or}
use Rattle.std.proofs.lemmas.List.Sorted.{IsPermutation-refl}
use Rattle.mapping_store.proofs.PastLemmas.{live_follows}
use Rattle.mapping_store.specs.Stored.{Stored, Follows}
use Rattle.recorder.specs.declared.recording.Recording.{Recording}
use Rattle.request_journal.specs.Journal.{clears}
use Rattle.request_journal.specs.Legal.{IsNext, IsCheckpoint}
use Rattle.request_journal.specs.Live.{live, adds, left_by}
use Rattle.request_journal.specs.Past.{Past, with_event, last_number, placed_from}
use Rattle.request_journal.specs.Recording.{recording}
use Rattle.request_journal.specs.State.{StatesFollow, touch}
use Rattle.request_journal.specs.declared.event.Event.{Event}
use Rattle.request_journal.specs.declared.event.Event.TheVariants as event
use Rattle.request_journal.specs.declared.limits.TheConstants.{LIVE_LIMIT, NUMBER_LIMIT}
use Rattle.request_journal.proofs.CheckpointLemmas.{legal_at_clear, number_at_checkpoint}
use Rattle.request_journal.proofs.LegalLemmas.{legal_after}
use Rattle.request_journal.proofs.LiveLemmas.{live_at_checkpoint, state_after, state_at_checkpoint}
use Rattle.request_journal.proofs.RecordingLemmas.{recording_by, recording_after, recording_at_checkpoint}
use Rattle.request_journal.proofs.SameLemmas.{live_since_checkpoint, number_after}
use Rattle.scenario_core.specs.Scenarios.{States, state_of}
use Rattle.stub_book.specs.Growth.{Grows}
use Rattle.stub_book.specs.Inner.Kept.{Agrees}

-- a number that has room leaves room for itself
room_after : (past : Past) (event : Event) → last_number past < NUMBER_LIMIT
    → last_number (with_event past event) ≤ NUMBER_LIMIT
room_after past event room = let e = number_after past event in omega (arith, e, room)

module _
    (past : Past) (event : Event) (stored stored' : Stored) (states states' : States) (kept kept' : Recording)
    (fits : Agrees past stored states kept) (next : IsNext past event)
    (follows : Follows stored stored' (last_number past + 1) event) (moves : StatesFollow (state_of states) (state_of states') event)
    (records : kept' ≡ recording_by (last_number past + 1) event kept)
  where
    -- what fitted fits after one more event with the right answer
    pub fits_after : Agrees (with_event past event) stored' states' kept'
    fits_after = record {
      same_defaults = follows.same_defaults ∙ fits.same_defaults;
      same_live = live_follows past event stored stored' fits.same_defaults fits.same_live follows;
      same_states = λ name. moves name ∙ ap (unwrap_or (touch name event)) (fits.same_states name)
          ∙ sym (state_after past event name);
      same_recording =
          records ∙ ap (recording_by (last_number past + 1) event) fits.same_recording
          ∙ sym (recording_after past event);
      legal = legal_after past event fits.legal next;
      few_live = next.few_live;
      few_defaults = fits.few_defaults;
      has_room = room_after past event next.has_room;
    }

    -- the same where the event makes a checkpoint
    pub fits_cleared : (base : Past) → IsCheckpoint past base → clears event ≡ true
        → Agrees (with_event base event) stored' states' kept'
    fits_cleared base checkpoint clear =
        let number : last_number base ≡ last_number past = number_at_checkpoint past base checkpoint in
        let few : length (live (with_event base event)) ≡ length (live (with_event past event)) =
        ap length (live_since_checkpoint (event ∷ []) past base checkpoint) in
        record {
          same_defaults = follows.same_defaults ∙ fits.same_defaults ∙ sym checkpoint.same_defaults;
          same_live = live_follows base event stored stored' (fits.same_defaults ∙ sym checkpoint.same_defaults)
              (subst (λ l. IsPermutation l stored.live) (sym (live_at_checkpoint past base checkpoint)) fits.same_live)
              (subst (λ n. Follows stored stored' (n + 1) event) (sym number) follows);
          same_states = λ name. moves name
              ∙ ap (unwrap_or (touch name event))
              (fits.same_states name ∙ sym (state_at_checkpoint past base checkpoint name))
              ∙ sym (state_after base event name);
          same_recording =
              records
              ∙ ap (recording_by (last_number past + 1) event)
              (fits.same_recording ∙ sym (recording_at_checkpoint past base checkpoint))
              ∙ ap (λ n. recording_by (n + 1) event (recording base)) (sym number)
              ∙ sym (recording_after base event);
          legal = legal_at_clear past base event checkpoint clear next fits.few_live;
          few_live = let most = next.few_live in omega (arith, few, most);
          few_defaults = subst (λ ds. length (placed_from 0 0 ds) ≤ LIVE_LIMIT)
              (sym checkpoint.same_defaults) fits.few_defaults;
          has_room = room_after base event (let room = next.has_room in omega (arith, number, room));
        }

-- of an equal past
pub fits_same :
    (new past : Past) (stored : Stored) (states : States) (kept : Recording) → new ≡ past
    → Agrees past stored states kept → Agrees new stored states kept
fits_same new past stored states kept same fits = subst (λ p. Agrees p stored states kept) (sym same) fits

-- with more room in the store
pub fits_roomier :
    (past : Past) (stored stored' : Stored) (states : States) (kept : Recording)
    → stored'.defaults ≡ stored.defaults
    → stored'.live ≡ stored.live → Agrees past stored states kept → Agrees past stored' states kept
fits_roomier past stored stored' states kept same_defaults same_live fits = record {
  same_defaults = same_defaults ∙ fits.same_defaults;
  same_live = subst (λ l. IsPermutation (live past) l) (sym same_live) fits.same_live;
  same_states = fits.same_states;
  same_recording = fits.same_recording;
  legal = fits.legal;
  few_live = fits.few_live;
  few_defaults = fits.few_defaults;
  has_room = fits.has_room;
}

-- a store that is left as it is, where the event removes, edits and adds nothing
pub follows_same :
    (stored : Stored) (number : ℕ) (event : Event) → left_by (event ∷ []) stored.live ≡ stored.live
    → adds stored.defaults number event ≡ [] → Follows stored stored number event
follows_same stored number event left none = record {
  same_defaults = refl;
  live = subst (λ l. IsPermutation l stored.live)
      (sym (ap (λ l. left_by (event ∷ []) stored.live ++ l) none
      ∙ append-nil (left_by (event ∷ []) stored.live) ∙ left))
      (IsPermutation-refl stored.live);
}

-- the same after a call that adds the event to a history with this past
pub fits_added :
    (past kept new : Past) (event shared : Event) (stored stored' : Stored) (states states' : States)
    (recorded recorded' : Recording)
    → kept ≡ past → shared ≡ event → new ≡ with_event kept shared
    → Agrees past stored states recorded → IsNext past event
    → Follows stored stored' (last_number past + 1) event → StatesFollow (state_of states) (state_of states') event
    → recorded' ≡ recording_by (last_number past + 1) event recorded → Agrees new stored' states' recorded'
fits_added past kept new event shared stored stored' states states' recorded recorded' same is grown fits next
    follows moves records =
    let whole : new ≡ with_event past event = grown ∙ (λ i. with_event (same i) (is i)) in
    subst (λ p. Agrees p stored' states' recorded') (sym whole)
    (fits_after past event stored stored' states states' recorded recorded' fits next follows moves records)

-- and what its caller sees
pub grew :
    (old past kept new : Past) (event shared : Event) → past ≡ old → kept ≡ past → shared ≡ event
    → new ≡ with_event kept shared → clears event ≡ false → IsNext past event → Grows old new event
grew old past kept new event shared seen same is grown plain next = record {
  next = subst (λ p. IsNext p event) seen next;
  after =
      subst (λ b. MatchBool b ((base : Past) × IsCheckpoint old base × (new ≡ with_event base event))
      (new ≡ with_event old event))
      (sym plain) (grown ∙ (λ i. with_event ((same ∙ seen) i) (is i)));
}

-- the same where the event makes a checkpoint
pub fits_reset :
    (past kept base new : Past) (event shared : Event) (stored stored' : Stored) (states states' : States)
    (recorded : Recording)
    → kept ≡ past → shared ≡ event → IsCheckpoint kept base → new ≡ with_event base shared
    → clears event ≡ true → Agrees past stored states recorded → IsNext past event
    → Follows stored stored' (last_number past + 1) event → StatesFollow (state_of states) (state_of states') event
    → recorded ≡ recording_by (last_number past + 1) event recorded → Agrees new stored' states' recorded
fits_reset past kept base new event shared stored stored' states states' recorded same is checkpoint grown clear fits
    next follows moves records =
    let whole : new ≡ with_event base event = grown ∙ (λ i. with_event base (is i)) in
    subst (λ p. Agrees p stored' states' recorded) (sym whole)
    (fits_cleared past event stored stored' states states' recorded recorded fits next follows moves records base
    (subst (λ p. IsCheckpoint p base) same checkpoint) clear)

pub grew_cleared :
    (old past kept base new : Past) (event shared : Event) → past ≡ old → kept ≡ past → shared ≡ event
    → IsCheckpoint kept base → new ≡ with_event base shared → clears event ≡ true → IsNext past event
    → Grows old new event
grew_cleared old past kept base new event shared seen same is checkpoint grown clear next = record {
  next = subst (λ p. IsNext p event) seen next;
  after =
      subst (λ b. MatchBool b ((base : Past) × IsCheckpoint old base × (new ≡ with_event base event))
      (new ≡ with_event old event))
      (sym clear) (
        base,
        subst (λ p. IsCheckpoint p base) (same ∙ seen) checkpoint,
        grown ∙ (λ i. with_event base (is i)),
      );
}

-- the number of the next event, where a call reads that of the last
pub number_of_next : (past kept : Past) (n : ℕ) → kept ≡ past → n ≡ last_number kept
    → n + 1 ≡ last_number past + 1
number_of_next past kept n same is = ap (λ k. k + 1) (is ∙ ap (λ p. last_number p) same)

-- a reset of all leaves the mappings that a reset of them leaves
pub follows_reset : (old new : Stored) (number : ℕ) → Follows old new number event.ResetMappings
    → Follows old new number event.ResetAll
follows_reset old new number h = record { same_defaults = h.same_defaults; live = h.live }
