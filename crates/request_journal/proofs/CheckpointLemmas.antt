-- The event that makes a checkpoint keeps a past legal.
use Rattle.std.proofs.Common.{◌≡◌, inl, inr, ℕ, ◌+◌, ◌≤◌, ◌<◌, Bool, true, false, [], ◌∷◌}
use Rattle.std.proofs.Common.{◌++◌, length, sym, ap, subst, ◌∙◌, arith}
use Rattle.request_journal.specs.Journal.{clears}
use Rattle.request_journal.specs.Legal.{IsLegal, IsNext, IsAnswer, IsCheckpoint}
use Rattle.request_journal.specs.Live.{live, adds, left_by}
use Rattle.request_journal.specs.Past.{Past, with_event, with_events, last_number}
use Rattle.request_journal.specs.declared.limits.TheConstants.{LIVE_LIMIT, NUMBER_LIMIT}
use Rattle.request_journal.specs.declared.event.Event.{Event}
use Rattle.request_journal.specs.declared.event.Event.TheVariants as event
use Rattle.request_journal.proofs.LiveLemmas.{live_after, live_at_checkpoint}
use Rattle.request_journal.proofs.LegalLemmas.{split_last, has_item, HasItem}

zero_more : (n : ℕ) → n + 0 ≡ n
zero_more n = omega arith

le_of_lt : (a b : ℕ) → a < b → a ≤ b
le_of_lt a b l = omega arith

pub number_at_checkpoint : (old new : Past) → IsCheckpoint old new → last_number new ≡ last_number old
number_at_checkpoint old new c =
    ap (λ es. new.base.number + length es) c.no_events ∙ zero_more new.base.number ∙ c.same_number

abbrev IsFalseBool : Bool → Type 0
IsFalseBool true = ⊥
IsFalseBool false = Unit {0}

clear_is_answer : (past : Past) (e : Event) → clears e ≡ true → IsAnswer past e
clear_is_answer past event.ClearJournal h = tt
clear_is_answer past event.ResetAll h = tt
clear_is_answer past event.DeleteAll h = tt
clear_is_answer past event.ResetMappings h = tt
clear_is_answer past event.ResetScenarios h = tt
clear_is_answer past (event.Serve request answer) h = absurd (subst IsFalseBool h tt)
clear_is_answer past (event.Add mapping) h = absurd (subst IsFalseBool h tt)
clear_is_answer past (event.Edit id spec) h = absurd (subst IsFalseBool h tt)
clear_is_answer past (event.Delete id) h = absurd (subst IsFalseBool h tt)
clear_is_answer past (event.SetScenario name state) h = absurd (subst IsFalseBool h tt)
clear_is_answer past (event.StartRecording target captured repeats) h = absurd (subst IsFalseBool h tt)
clear_is_answer past (event.Record serve exchange) h = absurd (subst IsFalseBool h tt)
clear_is_answer past (event.StopRecording mappings skipped) h = absurd (subst IsFalseBool h tt)

live_after_checkpoint : (old new : Past) (e : Event) → IsCheckpoint old new
    → live (with_event new e) ≡ live (with_event old e)
live_after_checkpoint old new e c =
    live_after new e
    ∙ (λ i. left_by (e ∷ []) (live_at_checkpoint old new c i)
    ++ adds (c.same_defaults i) (number_at_checkpoint old new c i + 1) e)
    ∙ sym (live_after old e)

clear_is_next : (old new : Past) (e : Event) → IsCheckpoint old new → clears e ≡ true
    → IsNext old e → IsNext new e
clear_is_next old new e c h next = record {
  answer = clear_is_answer new e h;
  few_live = subst (λ l. length l ≤ LIVE_LIMIT) (sym (live_after_checkpoint old new e c)) next.few_live;
  has_room = subst (λ n. n < NUMBER_LIMIT) (sym (number_at_checkpoint old new c)) next.has_room;
}

-- a clear or a reset of all, made with a checkpoint
pub legal_at_clear : (old new : Past) (e : Event) → IsCheckpoint old new → clears e ≡ true
    → IsNext old e → length (live old) ≤ LIVE_LIMIT → IsLegal (with_event new e)
legal_at_clear old new e c h next few = record {
  begins = inr (e, [], ap (λ es. es ++ e ∷ []) c.no_events, h);
  has_room = subst (λ n. n ≤ NUMBER_LIMIT) (sym c.same_number)
      (le_of_lt (last_number old) NUMBER_LIMIT next.has_room);
  few_live = subst (λ l. length l ≤ LIVE_LIMIT) (sym c.same_live) few;
  answers = λ earlier later item g.
      elim (split_last new.events e earlier item later g)
      as (λ _. IsNext (with_events new earlier) item) [
        | inl s ↦ subst (λ es. IsNext (with_events new es) item) s.0
            (subst (λ x. IsNext new x) s.1 (clear_is_next old new e c h next))
        | inr s ↦ absurd (subst HasItem (sym s.1 ∙ c.no_events) (has_item earlier item s.0))
      ];
}
