-- What each input's call leaves is what was asked for, with its answer, and how many mappings gave way.
use Rattle.std.proofs.Common.{◌≡◌, ◌∙◌, ℕ, length, refl, sym, ap, subst}
use Rattle.request_journal.specs.Input.{IsAsked, answer_of}
use Rattle.request_journal.specs.Live.{live}
use Rattle.request_journal.specs.Past.{Past, with_event}
use Rattle.request_journal.specs.declared.event.Event.{Event}
use Rattle.request_journal.specs.declared.event.Event.TheVariants as event
use Rattle.request_journal.specs.declared.input.BookInput.{BookInput}
use Rattle.stub_book.specs.declared.accepted.Accepted.{Accepted}
use Rattle.stub_book.specs.declared.prepared.Prepared.{Prepared}
use Rattle.stub_book.specs.declared.accepted.Changed.{Changed}
use Rattle.stub_book.specs.Growth.{Applies, Changes, Grows, IsAccepted, replaced}
use Rattle.stub_book.specs.Inner.Counted.{fewer}
use Rattle.stub_book.specs.Inner.Kept.{IsPrepared}
use Rattle.stub_book.proofs.LeftLemmas.{fewer_replaced}

-- what was prepared and then added
pub accepts :
    (old new : Past) (asked : BookInput) (given added : Event) (made : Prepared) → IsPrepared given made
    → given ≡ added → IsAsked asked added → Grows old new added → IsAccepted old new asked made.accepted
accepts old new asked given added made prepared same asked_for grows =
    let is = prepared.shared ∙ same in
    record {
      asked_for = subst (λ (e : Event). IsAsked asked e) (sym is) asked_for;
      answered = prepared.answered ∙ ap answer_of (sym prepared.shared);
      grows = subst (λ (e : Event). Grows old new e) (sym is) grows;
    }

pub applies :
    (old new : Past) (asked : BookInput) (accepted : Accepted) → IsAccepted old new asked accepted
    → Applies old new asked accepted.answer
applies old new asked accepted is = (
  accepted.event,
  record { asked_for = is.asked_for; answered = is.answered; grows = is.grows },
)

-- where mappings were added, the new past is the old one with the event
fewer_after :
    (old new : Past) (added : Event) (before : ℕ) → Grows old new added
    → fewer added before (length (live new)) ≡ fewer added before (length (live (with_event old added)))
fewer_after old new (event.Serve request answer) before grows = refl
fewer_after old new (event.Add mapping) before grows =
    ap (λ (p : Past). fewer (event.Add mapping) before (length (live p))) grows.after
fewer_after old new (event.Edit id spec) before grows = refl
fewer_after old new (event.Delete id) before grows = refl
fewer_after old new event.DeleteAll before grows = refl
fewer_after old new event.ResetMappings before grows = refl
fewer_after old new event.ResetAll before grows = refl
fewer_after old new event.ResetScenarios before grows = refl
fewer_after old new (event.SetScenario name state) before grows = refl
fewer_after old new event.ClearJournal before grows = refl
fewer_after old new (event.StartRecording target captured repeats) before grows = refl
fewer_after old new (event.Record serve exchange) before grows = refl
fewer_after old new (event.StopRecording mappings skipped) before grows =
    ap (λ (p : Past). fewer (event.StopRecording mappings skipped) before (length (live p))) grows.after

-- what was counted before and after
pub changes :
    (old new : Past) (added : Event) (changed : Changed) (before after : ℕ) → Grows old new added
    → changed.event ≡ added → before ≡ length (live old) → after ≡ length (live new)
    → changed.replaced ≡ fewer added before after → Changes old new changed
changes old new added changed before after grows same first last counted = record {
  grows = subst (λ (e : Event). Grows old new e) (sym same) grows;
  so_many =
      counted
      ∙ ap (λ (n : ℕ). fewer added n after) first
      ∙ ap (λ (n : ℕ). fewer added (length (live old)) n) last
      ∙ fewer_after old new added (length (live old)) grows
      ∙ fewer_replaced old added
      ∙ ap (λ (e : Event). replaced old e) (sym same);
}
