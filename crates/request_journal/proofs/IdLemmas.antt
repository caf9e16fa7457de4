-- No two live mappings have one id.
use Rattle.std.proofs.Common.{◌≡◌, ℕ, ◌+◌, Bool, true, false, cond, List, [], ◌∷◌, ◌++◌, refl}
use Rattle.std.proofs.Common.{sym, ap, subst, ◌∙◌, append-nil}
use Rattle.std.proofs.lemmas.Bool.{or_parts, or_from}
use Rattle.std.specs.List.{list_any}
use Rattle.std.specs.Str.{bytes_eq}
use Rattle.request_journal.specs.Legal.{IsCheckpoint}
use Rattle.request_journal.specs.Live.{live, adds, added_mappings, edited, is_removed, left_by, removes}
use Rattle.request_journal.specs.Past.{Past, Placed, has_id, placed_from, opening_base, with_event, last_number}
use Rattle.request_journal.specs.declared.event.Event.{Event}
use Rattle.request_journal.specs.declared.event.Event.TheVariants as event
use Rattle.request_journal.specs.declared.mapping.Mapping.{Mapping}
use Rattle.request_journal.proofs.LiveLemmas.{live_after, live_at_checkpoint, left_by_none, gone, kept}

-- one of the mappings has this id
abbrev pub is_held : List Placed → List ℕ → Bool
is_held ps id = list_any (λ p. bytes_eq p.mapping.id id) ps

abbrev pub IdsDiffer : List Placed → Type 0
IdsDiffer [] = Unit {0}
IdsDiffer (p ∷ ps) = (is_held ps p.mapping.id ≡ false) × IdsDiffer ps

abbrev IsTrueBool : Bool → Type 0
IsTrueBool true = Unit {0}
IsTrueBool false = ⊥

never : true ≡ false → ⊥
never e = subst IsTrueBool e tt

-- ---- the mappings that one event adds

placed_held : (number index : ℕ) (ms : List Mapping) (id : List ℕ) → has_id ms id ≡ false
    → is_held (placed_from number index ms) id ≡ false
placed_held number index [] id h = refl
placed_held number index (m ∷ ms) id h =
    let both : (bytes_eq m.id id ≡ false) × (has_id ms id ≡ false) =
    or_parts (bytes_eq m.id id) (has_id ms id) h in
    elim (has_id ms m.id)
    as (λ b. is_held (cond b (placed_from number (index + 1) ms)
    (record { place = record { event = number; index = index }; mapping = m } ∷ placed_from number (index + 1) ms)) id
    ≡ false) [
      | true ↦ placed_held number (index + 1) ms id both.1
      | false ↦ or_from (bytes_eq m.id id) (is_held (placed_from number (index + 1) ms) id) both.0
          (placed_held number (index + 1) ms id both.1)
    ]

pub placed_differ : (number index : ℕ) (ms : List Mapping) → IdsDiffer (placed_from number index ms)
placed_differ number index [] = tt
placed_differ number index (m ∷ ms) =
    elim (has_id ms m.id)
    as (λ b. has_id ms m.id ≡ b → IdsDiffer (cond b (placed_from number (index + 1) ms)
    (record { place = record { event = number; index = index }; mapping = m } ∷ placed_from number (index + 1) ms))) [
      | true ↦ λ h. placed_differ number (index + 1) ms
      | false ↦ λ h. (placed_held number (index + 1) ms m.id h, placed_differ number (index + 1) ms)
    ] refl

-- ---- what is left by an event

left_held : (es : List Event) (ps : List Placed) (id : List ℕ) → is_held ps id ≡ false
    → is_held (left_by es ps) id ≡ false
left_held es [] id h = refl
left_held es (p ∷ ps) id h =
    let both : (bytes_eq p.mapping.id id ≡ false) × (is_held ps id ≡ false)
    = or_parts (bytes_eq p.mapping.id id) (is_held ps id) h in
    elim (is_removed es p.mapping.id)
    as (λ r. is_removed es p.mapping.id ≡ r → is_held (left_by es (p ∷ ps)) id ≡ false) [
      | true ↦ λ r. ap (λ l. is_held l id) (gone es p ps r) ∙ left_held es ps id both.1
      | false ↦ λ r. ap (λ l. is_held l id) (kept es p ps r)
          ∙ or_from (bytes_eq p.mapping.id id) (is_held (left_by es ps) id) both.0 (left_held es ps id both.1)
    ] refl

left_differ : (es : List Event) (ps : List Placed) → IdsDiffer ps → IdsDiffer (left_by es ps)
left_differ es [] d = tt
left_differ es (p ∷ ps) d =
    elim (is_removed es p.mapping.id) as
    (λ r. is_removed es p.mapping.id ≡ r → IdsDiffer (left_by es (p ∷ ps))) [
      | true ↦ λ r. subst IdsDiffer (sym (gone es p ps r)) (left_differ es ps d.1)
      | false ↦ λ r. subst IdsDiffer (sym (kept es p ps r)) (left_held es ps p.mapping.id d.0, left_differ es ps d.1)
    ] refl

-- an event removes what it adds anew
added_anew : (defaults : List Mapping) (e : Event) (id : List ℕ) → removes e id ≡ false
    → has_id (added_mappings defaults e) id ≡ false
added_anew defaults (event.Add mapping) id h = or_from (bytes_eq mapping.id id) false h refl
added_anew defaults event.ResetMappings id h = absurd (never h)
added_anew defaults event.ResetAll id h = absurd (never h)
added_anew defaults (event.StopRecording mappings skipped) id h = h
added_anew defaults (event.Serve request answer) id h = refl
added_anew defaults (event.Edit edited spec) id h = refl
added_anew defaults (event.Delete deleted) id h = refl
added_anew defaults event.DeleteAll id h = refl
added_anew defaults event.ResetScenarios id h = refl
added_anew defaults (event.SetScenario name state) id h = refl
added_anew defaults event.ClearJournal id h = refl
added_anew defaults (event.StartRecording target captured repeats) id h = refl
added_anew defaults (event.Record serve exchange) id h = refl

held_append : (ps qs : List Placed) (id : List ℕ) → is_held ps id ≡ false → is_held qs id ≡ false
    → is_held (ps ++ qs) id ≡ false
held_append [] qs id h g = g
held_append (p ∷ ps) qs id h g =
    let both : (bytes_eq p.mapping.id id ≡ false) × (is_held ps id ≡ false)
    = or_parts (bytes_eq p.mapping.id id) (is_held ps id) h in
    or_from (bytes_eq p.mapping.id id) (is_held (ps ++ qs) id) both.0 (held_append ps qs id both.1 g)

one_differ : (defaults : List Mapping) (number : ℕ) (e : Event) (ps : List Placed) → IdsDiffer ps
    → IdsDiffer (left_by (e ∷ []) ps ++ adds defaults number e)
one_differ defaults number e [] d = placed_differ number 0 (added_mappings defaults e)
one_differ defaults number e (p ∷ ps) d =
    elim (is_removed (e ∷ []) p.mapping.id)
    as (λ r. is_removed (e ∷ []) p.mapping.id ≡ r
    → IdsDiffer (left_by (e ∷ []) (p ∷ ps) ++ adds defaults number e)) [
      | true ↦ λ r. subst (λ l. IdsDiffer (l ++ adds defaults number e)) (sym (gone (e ∷ []) p ps r))
          (one_differ defaults number e ps d.1)
      | false ↦ λ r. subst (λ l. IdsDiffer (l ++ adds defaults number e)) (sym (kept (e ∷ []) p ps r)) (
        held_append (left_by (e ∷ []) ps) (adds defaults number e) p.mapping.id
            (left_held (e ∷ []) ps p.mapping.id d.0)
            (placed_held number 0 (added_mappings defaults e) p.mapping.id
            (added_anew defaults e p.mapping.id (or_parts (removes e p.mapping.id) false r).0)),
        one_differ defaults number e ps d.1,
      )
    ] refl

-- ---- the laws

pub ids_differ_opened : (opening : ℕ) (defaults : List Mapping)
    → IdsDiffer (live (record {
      opening = opening;
      defaults = defaults;
      base = opening_base opening defaults;
      events = [];
    }))
ids_differ_opened opening defaults =
    subst IdsDiffer
    (sym (append-nil (left_by [] (placed_from opening 0 defaults)) ∙ left_by_none (placed_from opening 0 defaults)))
    (placed_differ opening 0 defaults)

pub ids_differ_after : (past : Past) (e : Event) → IdsDiffer (live past) → IdsDiffer (live (with_event past e))
ids_differ_after past e d =
    subst IdsDiffer (sym (live_after past e)) (one_differ past.defaults (last_number past + 1) e (live past) d)

pub ids_differ_at_checkpoint : (old new : Past) → IsCheckpoint old new → IdsDiffer (live old)
    → IdsDiffer (live new)
ids_differ_at_checkpoint old new c d = subst IdsDiffer (sym (live_at_checkpoint old new c)) d
