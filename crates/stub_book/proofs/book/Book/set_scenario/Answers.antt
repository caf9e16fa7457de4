use Rattle.std.proofs.Common.{inl, inr, ◌≡◌, ◌+◌, ◌∙◌, ℕ, List, refl, sym, subst}
use Rattle.request_journal.specs.Past.{Past, last_number}
use Rattle.request_journal.specs.State.{HasState, StatesFollow}
use Rattle.scenario_core.specs.Scenarios.{state_of}
use Rattle.request_journal.specs.declared.event.Event.{Event}
use Rattle.request_journal.specs.declared.event.Event.TheVariants as event
use Rattle.request_journal.specs.declared.input.BookInput.TheVariants as input
use Rattle.std.proofs.lemmas.Result.{err_from_is_err_and}
use Rattle.stub_book.specs.Refusals.{IsOwnReason}
use Rattle.stub_book.proofs.Fits.{fits_added, follows_same, grew}
use Rattle.stub_book.proofs.LeftLemmas.{left_all}
use Rattle.stub_book.proofs.NextLemmas.{next_plain}
use Rattle.stub_book.proofs.StateLemmas.{moved}
use Rattle.stub_book.proofs.ApplyLemmas.{accepts}
use Rattle.stub_book.proofs.book.Book.set_scenario.Goals as goal

pub invariant_of-self-2 : goal.invariant_of-self-2
invariant_of-self-2 c =
    let past = c.self.inside.history.past in
    let store = c.self.inside.store in
    let ok = c.in_ok-made.ensures.ok in
    let name = c.args.name in
    let state = c.args.state in
    let e : Event = event.SetScenario name state in
    let has : HasState c.args.self.now name state =
    subst (λ (n : List ℕ). HasState c.args.self.now n state) c.as_str.ensures
    (subst (λ (s : List ℕ). HasState c.args.self.now c.as_str.result.now s) c.as_str-2.ensures
    c.in_ok-has_state.ensures.ok) in
    let given : event.SetScenario c.in_ok-scenario.scenario c.in_ok-target.target ≡ e =
    λ i. event.SetScenario (c.in_ok-scenario.ensures.cases i) (c.in_ok-target.ensures.cases i) in
    let same : c.in_ok-made.made.event ≡ e = ok.0.is ∙ given in
    let moves : StatesFollow (state_of c.self.inside.scenarios) (state_of c.move_to.new.self)
    (event.SetScenario c.as_str-3.result.now c.as_str-4.result.now) =
    moved c.self.inside.scenarios c.move_to.new.self c.as_str-3.result.now c.as_str-4.result.now
    c.in_ok-move_to.ensures.ok in
    fits_added past c.prepare.new.history.past c.push_reserved.new.self.past e c.in_ok-made.made.event
    store store c.self.inside.scenarios c.move_to.new.self c.self.inside.recording c.self.inside.recording
    c.prepare.ensures.same same c.push_reserved.ensures c.self.invariant
    (next_plain past e (subst (λ (p : Past). HasState p name state) (sym c.self.view_is) has) refl
    c.self.invariant.few_live ok.2)
    (follows_same store (last_number past + 1) e (left_all e (λ id. refl) (λ placed. refl) store.live) refl)
    (subst (λ (n : List ℕ).
    StatesFollow (state_of c.self.inside.scenarios) (state_of c.move_to.new.self) (event.SetScenario n state)) c.as_str-3.ensures
    (subst (λ (s : List ℕ).
    StatesFollow (state_of c.self.inside.scenarios) (state_of c.move_to.new.self) (event.SetScenario c.as_str-3.result.now s))
    c.as_str-4.ensures moves))
    refl

pub returns-clause-ok : goal.returns-clause-ok
returns-clause-ok c =
    let past = c.self.inside.history.past in
    let ok = c.in_ok-made.ensures.ok in
    let name = c.args.name in
    let state = c.args.state in
    let e : Event = event.SetScenario name state in
    let has : HasState c.args.self.now name state =
    subst (λ (n : List ℕ). HasState c.args.self.now n state) c.as_str.ensures
    (subst (λ (s : List ℕ). HasState c.args.self.now c.as_str.result.now s) c.as_str-2.ensures
    c.in_ok-has_state.ensures.ok) in
    let given : event.SetScenario c.in_ok-scenario.scenario c.in_ok-target.target ≡ e =
    λ i. event.SetScenario (c.in_ok-scenario.ensures.cases i) (c.in_ok-target.ensures.cases i) in
    let same : c.in_ok-made.made.event ≡ e = ok.0.is ∙ given in
    accepts c.args.self.now c.push_reserved.new.self.past (input.SetScenario name state)
    (event.SetScenario c.in_ok-scenario.scenario c.in_ok-target.target) e
    c.in_ok-made.made ok.0 given (refl, refl)
    (grew c.args.self.now past c.prepare.new.history.past c.push_reserved.new.self.past e c.in_ok-made.made.event
    c.self.view_is c.prepare.ensures.same same c.push_reserved.ensures refl
    (next_plain past e (subst (λ (p : Past). HasState p name state) (sym c.self.view_is) has) refl
    c.self.invariant.few_live ok.2))

-- the scenario isn't known, or has no such state
pub returns-in_err-has_state-clause-why : goal.returns-in_err-has_state-clause-why
returns-in_err-has_state-clause-why c =
    let past = c.args.self.now in
    let reason = c.in_err-has_state.field-0.0.code in
    let own : IsOwnReason past (input.SetScenario c.args.name c.args.state) reason =
    subst (λ (n : List ℕ). IsOwnReason past (input.SetScenario n c.args.state) reason) c.as_str.ensures
    (subst (λ (s : List ℕ). IsOwnReason past (input.SetScenario c.as_str.result.now s) reason) c.as_str-2.ensures
    c.in_err-has_state.ensures.why) in
    let p = err_from_is_err_and c.from_residual-in_err-has_state.result c.from_residual-in_err-has_state.ensures.1 in
    rw (p.1, p.2) (inr (c.in_ok-has_number.ensures.ok, inl own))
