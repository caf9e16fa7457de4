use Rattle.std.proofs.Common.{◌≡◌, ◌⊎◌, inl, inr, ◌+◌, ◌∙◌, ℕ, List, refl, sym, subst}
use Rattle.std.specs.List.{each_same}
use Rattle.std.proofs.lemmas.Result.{err_from_is_err_and}
use Rattle.error_code.specs.declared.error_code.ErrorCode.TheVariants as code
use Rattle.recorder.specs.Recording.{IsOn}
use Rattle.recorder.specs.Target.{IsTarget}
use Rattle.recorder.specs.declared.recording.Recording.TheVariants.{On}
use Rattle.request_journal.specs.Legal.{IsAnswer}
use Rattle.request_journal.specs.Past.{Past, last_number}
use Rattle.request_journal.specs.Recording.{recording}
use Rattle.request_journal.specs.declared.event.Event.{Event}
use Rattle.request_journal.specs.declared.event.Event.TheVariants as event
use Rattle.request_journal.specs.declared.input.BookInput.TheVariants as input
use Rattle.request_journal.proofs.RecordingLemmas.{recording_by}
use Rattle.stub_book.specs.Refusals.{IsRefusal}
use Rattle.stub_book.proofs.ApplyLemmas.{accepts}
use Rattle.stub_book.proofs.Fits.{fits_added, follows_same, grew, number_of_next}
use Rattle.stub_book.proofs.LeftLemmas.{left_all}
use Rattle.stub_book.proofs.NextLemmas.{next_plain}
use Rattle.stub_book.proofs.book.Book.start_recording.Goals as goal

-- one is on, or it is no target, or memory ran out
pub returns-in_err-upstream-clause-why : goal.returns-in_err-upstream-clause-why
returns-in_err-upstream-clause-why c =
    let past = c.args.self.now in
    let room = c.in_ok-has_number.ensures.ok in
    let reason = c.in_err-upstream.field-0.0.code in
    let why : (reason ≡ code.OutOfMemory) ⊎ ((reason ≡ code.AlreadyRecording) × IsOn (recording past))
    ⊎ ((reason ≡ code.BadTarget) × ¬ (IsOn (recording past)) × ¬ (IsTarget c.args.target)) =
    subst (λ (t : List ℕ).
    (reason ≡ code.OutOfMemory) ⊎ ((reason ≡ code.AlreadyRecording) × IsOn (recording past))
    ⊎ ((reason ≡ code.BadTarget) × ¬ (IsOn (recording past)) × ¬ (IsTarget t))) c.as_str.ensures
    c.in_err-upstream.ensures.why in
    let p = err_from_is_err_and c.from_residual-in_err-upstream.result c.from_residual-in_err-upstream.ensures.1 in
    rw (p.1, p.2) (elim why as
    (λ _. IsRefusal past (input.StartRecording c.args.target c.args.captured c.args.repeats) reason) [
      | inl out ↦ inl (inr (out, room))
      | inr own ↦ inr (room, inl own)
    ])

pub invariant_of-self-2 : goal.invariant_of-self-2
invariant_of-self-2 c =
    let past = c.self.inside.history.past in
    let store = c.self.inside.store in
    let ok = c.in_ok-made.ensures.ok in
    let up = c.in_ok-upstream.ensures.ok in
    let to = up.0 ∙ c.as_str.ensures in
    let e : Event = event.StartRecording c.args.target c.args.captured c.args.repeats in
    let given : event.StartRecording c.in_ok-kept.kept c.in_ok-names.names c.args.repeats ≡ e =
    λ i. event.StartRecording ((c.in_ok-kept.ensures.cases ∙ to) i)
    (each_same c.args.captured c.in_ok-names.names c.in_ok-names.ensures.cases i) c.args.repeats in
    let same : c.in_ok-made.made.event ≡ e = ok.0.is ∙ given in
    let number = number_of_next past c.prepare.new.history.past c.last_number-start.result c.prepare.ensures.same
    c.last_number-start.ensures.value in
    let answer : IsAnswer past e =
    subst (λ (p : Past). ¬ (IsOn (recording p)) × IsTarget c.args.target) (sym c.self.view_is)
    (up.2, subst (λ (t : List ℕ). IsTarget t) c.as_str.ensures up.1) in
    let started : On (record {
      start = c.last_number-start.result + 1;
      target = c.in_ok-upstream.upstream;
      captured = c.args.captured;
      repeats = c.args.repeats;
      exchanges = c.new.result;
    }) ≡ recording_by (last_number past + 1) e c.self.inside.recording =
    λ i. On (record {
      start = number i;
      target = to i;
      captured = c.args.captured;
      repeats = c.args.repeats;
      exchanges = c.new.ensures i;
    }) in
    fits_added past c.prepare.new.history.past c.push_reserved.new.self.past e c.in_ok-made.made.event
    store store c.self.inside.scenarios c.self.inside.scenarios c.self.inside.recording
    (On (record {
      start = c.last_number-start.result + 1;
      target = c.in_ok-upstream.upstream;
      captured = c.args.captured;
      repeats = c.args.repeats;
      exchanges = c.new.result;
    }))
    c.prepare.ensures.same same c.push_reserved.ensures c.self.invariant
    (next_plain past e answer refl c.self.invariant.few_live ok.2)
    (follows_same store (last_number past + 1) e (left_all e (λ id. refl) (λ placed. refl) store.live) refl)
    (λ name. refl) started

pub returns-clause-ok : goal.returns-clause-ok
returns-clause-ok c =
    let past = c.self.inside.history.past in
    let ok = c.in_ok-made.ensures.ok in
    let up = c.in_ok-upstream.ensures.ok in
    let to = up.0 ∙ c.as_str.ensures in
    let e : Event = event.StartRecording c.args.target c.args.captured c.args.repeats in
    let given : event.StartRecording c.in_ok-kept.kept c.in_ok-names.names c.args.repeats ≡ e =
    λ i. event.StartRecording ((c.in_ok-kept.ensures.cases ∙ to) i)
    (each_same c.args.captured c.in_ok-names.names c.in_ok-names.ensures.cases i) c.args.repeats in
    let same : c.in_ok-made.made.event ≡ e = ok.0.is ∙ given in
    let answer : IsAnswer past e =
    subst (λ (p : Past). ¬ (IsOn (recording p)) × IsTarget c.args.target) (sym c.self.view_is)
    (up.2, subst (λ (t : List ℕ). IsTarget t) c.as_str.ensures up.1) in
    accepts c.args.self.now c.push_reserved.new.self.past
    (input.StartRecording c.args.target c.args.captured c.args.repeats)
    (event.StartRecording c.in_ok-kept.kept c.in_ok-names.names c.args.repeats) e c.in_ok-made.made ok.0 given
    (refl, refl, refl)
    (grew c.args.self.now past c.prepare.new.history.past c.push_reserved.new.self.past e c.in_ok-made.made.event
    c.self.view_is c.prepare.ensures.same same c.push_reserved.ensures refl
    (next_plain past e answer refl c.self.invariant.few_live ok.2))
