-- How many mappings are live once those of a recording are added.
use Rattle.std.proofs.Common.{◌≡◌, ◌+◌, ℕ, List, [], ◌∷◌, ◌++◌, length, refl}
use Rattle.std.specs.List.Sorted.{IsPermutation}
use Rattle.std.proofs.lemmas.List.Sorted.{IsPermutation-refl, length_permutation}
use Rattle.mapping_store.proofs.PastLemmas.{live_follows}
use Rattle.mapping_store.specs.Stored.{Stored, Follows}
use Rattle.request_journal.specs.Live.{live, left_by}
use Rattle.request_journal.specs.Past.{Past, with_event, last_number, placed_from}
use Rattle.request_journal.specs.declared.event.Event.{Event}
use Rattle.request_journal.specs.declared.event.Event.TheVariants as event
use Rattle.request_journal.specs.declared.mapping.Mapping.{Mapping}

pub many_stopped :
    (past : Past) (stored : Stored) (mappings : List Mapping) (skipped : ℕ) → stored.defaults ≡ past.defaults
    → IsPermutation (live past) stored.live
    → length (left_by (event.StopRecording mappings skipped ∷ []) stored.live
    ++ placed_from (last_number past + 1) 0 mappings)
    ≡ length (live (with_event past (event.StopRecording mappings skipped)))
many_stopped past stored mappings skipped defaults same =
    let e : Event = event.StopRecording mappings skipped in
    let after : Stored = record {
      defaults = stored.defaults;
      live = left_by (e ∷ []) stored.live ++ placed_from (last_number past + 1) 0 mappings;
      room = 0;
    } in
    let follows : Follows stored after (last_number past + 1) e =
    record { same_defaults = refl; live = IsPermutation-refl after.live } in
    length_permutation (live (with_event past e)) after.live (live_follows past e stored after defaults same follows)
