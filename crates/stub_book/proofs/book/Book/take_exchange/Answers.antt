use Rattle.std.proofs.Common.{◌≡◌, ◌+◌, ◌∙◌, refl, ap, subst, arith}
use Rattle.recorder.specs.Recording.{TakesFrom}
use Rattle.recorder.specs.Recording as recorder
use Rattle.recorder.specs.declared.exchange.Exchange.{Exchange}
use Rattle.recorder.specs.declared.recording.Recording.{Recording}
use Rattle.request_journal.specs.Legal.{IsTaken}
use Rattle.request_journal.specs.Past.{last_number}
use Rattle.request_journal.specs.declared.event.Event.{Event}
use Rattle.request_journal.specs.declared.event.Event.TheVariants as event
use Rattle.request_journal.specs.declared.input.BookInput.TheVariants as input
use Rattle.stub_book.proofs.Fits.{fits_added, follows_same, grew}
use Rattle.stub_book.proofs.LeftLemmas.{left_all}
use Rattle.stub_book.proofs.NextLemmas.{next_plain}
use Rattle.stub_book.proofs.StateLemmas.{after_record, did_take}
use Rattle.stub_book.proofs.ApplyLemmas.{accepts}
use Rattle.stub_book.proofs.book.Book.take_exchange.Goals as goal

pub invariant_of-self-2 : goal.invariant_of-self-2
invariant_of-self-2 c =
    let past = c.self.inside.history.past in
    let store = c.self.inside.store in
    let old = c.self.inside.recording in
    let ok = c.in_ok-made.ensures.ok in
    let e : Event = event.Record c.args.serve c.args.exchange in
    let took = c.in_ok-take.ensures.ok in
    let takes : TakesFrom old c.args.serve =
    did_take c.args.serve c.args.exchange old c.take.new.self took
    (λ h. let is = c.in_ok-take.ensures.not_recording.1 h in cc) in
    let room : ¬ (recorder.IsFull old) = λ h. let is = c.in_ok-take.ensures.full.1 (takes, h) in cc in
    let taken : IsTaken past c.args.serve = record {
      takes = subst (λ (r : Recording). TakesFrom r c.args.serve) c.self.invariant.same_recording takes;
      known = omega (arith, c.if-serve-last_number.false, c.last_number.ensures.value);
      room = subst (λ (r : Recording). ¬ (recorder.IsFull r)) c.self.invariant.same_recording room;
    } in
    let given = ap (λ (x : Exchange). event.Record c.args.serve x) c.in_ok-kept.ensures.cases in
    let same : c.in_ok-made.made.event ≡ e = ok.0.is ∙ given in
    fits_added past c.prepare.new.history.past c.push_reserved.new.self.past e c.in_ok-made.made.event
    store store c.self.inside.scenarios c.self.inside.scenarios old c.take.new.self
    c.prepare.ensures.same same c.push_reserved.ensures c.self.invariant
    (next_plain past e taken refl c.self.invariant.few_live ok.2)
    (follows_same store (last_number past + 1) e (left_all e (λ id. refl) (λ placed. refl) store.live) refl)
    (λ name. refl)
    (after_record (last_number past + 1) c.args.serve c.args.exchange old c.take.new.self took)

pub returns-clause-ok : goal.returns-clause-ok
returns-clause-ok c =
    let past = c.self.inside.history.past in
    let old = c.self.inside.recording in
    let ok = c.in_ok-made.ensures.ok in
    let e : Event = event.Record c.args.serve c.args.exchange in
    let took = c.in_ok-take.ensures.ok in
    let takes : TakesFrom old c.args.serve =
    did_take c.args.serve c.args.exchange old c.take.new.self took
    (λ h. let is = c.in_ok-take.ensures.not_recording.1 h in cc) in
    let room : ¬ (recorder.IsFull old) = λ h. let is = c.in_ok-take.ensures.full.1 (takes, h) in cc in
    let taken : IsTaken past c.args.serve = record {
      takes = subst (λ (r : Recording). TakesFrom r c.args.serve) c.self.invariant.same_recording takes;
      known = omega (arith, c.if-serve-last_number.false, c.last_number.ensures.value);
      room = subst (λ (r : Recording). ¬ (recorder.IsFull r)) c.self.invariant.same_recording room;
    } in
    let given = ap (λ (x : Exchange). event.Record c.args.serve x) c.in_ok-kept.ensures.cases in
    let same : c.in_ok-made.made.event ≡ e = ok.0.is ∙ given in
    accepts c.args.self.now c.push_reserved.new.self.past (input.Record c.args.serve c.args.exchange)
    (event.Record c.args.serve c.in_ok-kept.kept) e
    c.in_ok-made.made ok.0 given (refl, refl)
    (grew c.args.self.now past c.prepare.new.history.past c.push_reserved.new.self.past e c.in_ok-made.made.event
    c.self.view_is c.prepare.ensures.same same c.push_reserved.ensures refl
    (next_plain past e taken refl c.self.invariant.few_live ok.2))
