-- What a book is opened with agrees with the past that was just opened.
use Rattle.std.proofs.Common.{◌≡◌, ◌≤◌, ℕ, inl, List, [], ◌∷◌, ◌++◌, length, refl, sym, ap}
use Rattle.std.proofs.Common.{◌∙◌, subst, arith, append-nil}
use Rattle.std.specs.FinMap as map
use Rattle.std.specs.List.Sorted.{IsPermutation}
use Rattle.std.proofs.lemmas.List.Sorted.{length_permutation}
use Rattle.mapping_store.proofs.CountLemmas.{length-placed}
use Rattle.mapping_model.specs.declared.mapping_spec.MappingSpec.{MappingSpec}
use Rattle.mapping_store.specs.Stored.{Stored}
use Rattle.recorder.specs.declared.recording.Recording.TheVariants.{NeverStarted}
use Rattle.request_journal.specs.Legal.{IsLegal}
use Rattle.request_journal.specs.Live.{live}
use Rattle.request_journal.specs.Past.{Past, opened, opening_base, defaults_from, placed_from}
use Rattle.request_journal.specs.declared.event.Event.{Event}
use Rattle.request_journal.specs.declared.limits.TheConstants.{LIVE_LIMIT, NUMBER_LIMIT}
use Rattle.request_journal.specs.declared.mapping.Mapping.{Mapping}
use Rattle.request_journal.proofs.LegalLemmas.{has_item, HasItem}
use Rattle.request_journal.proofs.LiveLemmas.{left_by_none}
use Rattle.scenario_core.specs.Scenarios.{States}
use Rattle.stub_book.specs.Inner.Kept.{Agrees}

-- the past of a book that was just opened with these mappings
abbrev pub past_of : ℕ → List Mapping → Past
past_of opening defaults = record {
  opening = opening;
  defaults = defaults;
  base = opening_base opening defaults;
  events = [];
}

pub live_opened : (opening : ℕ) (defaults : List Mapping)
    → live (past_of opening defaults) ≡ placed_from opening 0 defaults
live_opened opening defaults = append-nil _ ∙ left_by_none (placed_from opening 0 defaults)

no_split : (earlier later : List Event) (event : Event) → [] ≡ earlier ++ event ∷ later → ⊥
no_split earlier later event e = subst HasItem (sym e) (has_item earlier event later)

legal_opened : (opening : ℕ) (defaults : List Mapping) → opening ≤ NUMBER_LIMIT
    → length (placed_from opening 0 defaults) ≤ LIVE_LIMIT → IsLegal (past_of opening defaults)
legal_opened opening defaults room few = record {
  begins = inl refl;
  has_room = room;
  few_live = few;
  answers = λ earlier later event e. absurd (no_split earlier later event e);
}

pub fits_opened :
    (opening : ℕ) (defaults : List Mapping) (stored : Stored) → stored.defaults ≡ defaults
    → IsPermutation (placed_from opening 0 defaults) stored.live → length stored.live ≤ LIVE_LIMIT
    → opening ≤ NUMBER_LIMIT → Agrees (past_of opening defaults) stored map.empty NeverStarted
fits_opened opening defaults stored same_defaults same_live few room =
    let many : length stored.live ≡ length (placed_from opening 0 defaults) =
    length_permutation (placed_from opening 0 defaults) stored.live same_live in
    let all_few : length (placed_from opening 0 defaults) ≤ LIVE_LIMIT = omega (arith, many, few) in
    record {
      same_defaults = same_defaults;
      same_live = subst (λ l. IsPermutation l stored.live) (sym (live_opened opening defaults)) same_live;
      same_states = λ name. refl;
      same_recording = refl;
      legal = legal_opened opening defaults room all_few;
      few_live = subst (λ l. length l ≤ LIVE_LIMIT) (sym (live_opened opening defaults)) all_few;
      few_defaults = subst (λ n. n ≤ LIVE_LIMIT) (length-placed opening 0 0 0 defaults) all_few;
      has_room = omega (arith, room);
    }

-- as many as the store has
pub many_opened :
    (opening : ℕ) (specs : List MappingSpec) (stored : Stored) → stored.defaults ≡ defaults_from 0 specs
    → IsPermutation (placed_from opening 0 stored.defaults) stored.live
    → length stored.live ≡ length (live (opened opening specs))
many_opened opening specs stored same_defaults same_live =
    length_permutation (placed_from opening 0 stored.defaults) stored.live same_live
    ∙ ap (λ ds. length (placed_from opening 0 ds)) same_defaults
    ∙ sym (ap length (live_opened opening (defaults_from 0 specs)))

-- a book that is made of these parts
pub fits_new :
    (past : Past) (states : States) (opening : ℕ) (defaults : List Mapping) (stored : Stored)
    → past ≡ past_of opening defaults → states ≡ map.empty → defaults ≡ stored.defaults
    → IsPermutation (placed_from opening 0 stored.defaults) stored.live → length stored.live ≤ LIVE_LIMIT
    → opening ≤ NUMBER_LIMIT → Agrees past stored states NeverStarted
fits_new past states opening defaults stored is none same_defaults same_live few room =
    subst (λ p. Agrees p stored states NeverStarted) (sym is)
    (subst (λ s. Agrees (past_of opening defaults) stored s NeverStarted) (sym none)
    (fits_opened opening defaults stored (sym same_defaults)
    (subst (λ ds. IsPermutation (placed_from opening 0 ds) stored.live) (sym same_defaults) same_live) few room))
