use Rattle.std.proofs.Common.{◌≡◌, rules, List, ◌<◌, length, get_or, subst, sym, ◌∙◌, true, false}
use Rattle.std.proofs.lemmas.List.{get_or_default}
use Rattle.std.specs.Ordering.{is_gt}
use Rattle.request_journal.specs.Choice.{IsEligible}
use Rattle.scenario_core.specs.Scenarios.{state_of}
use Rattle.mapping_store.specs.declared.entry.Entry.{Entry}
use Rattle.mapping_store.specs.Kept.{key_order, placed_of}
use Rattle.mapping_store.proofs.BestLemmas.{IsStart, best_at, none_at_all, none_up_to}
use Rattle.mapping_store.proofs.eligible.best_of.Goals as goal

-- nothing from here on has the key
pub returns-then-is_gt-clause-found : goal.returns-then-is_gt-clause-found
returns-then-is_gt-clause-found c =
    let entries : List Entry = c.args.entries.now in
    let start : IsStart entries c.args.key c.start_of-start.result =
    record { before = c.start_of-start.ensures.before; from = c.start_of-start.ensures.from } in
    let Meets : Entry → Type 0 =
    λ e. IsEligible (state_of c.args.scenarios.now) c.args.request.now (placed_of e).mapping in
    let e : Entry = c.index-entries-i.result in
    let within : c.loop-i.i < length entries = search rules in
    let here : e ≡ get_or entries c.loop-i.i e =
    subst (λ xs. e ≡ get_or xs c.loop-i.i e) c.loop-i.invariant.same_entries c.index-entries-i.is in
    let read : (d : Entry) → e ≡ get_or entries c.loop-i.i d =
    λ d. here ∙ get_or_default entries c.loop-i.i e d within in
    let greater : is_gt (key_order e.key c.args.key) ≡ true = search rules in
    none_up_to entries c.args.key c.start_of-start.result start Meets c.requires.in_order c.loop-i.i
    (λ d. subst (λ (x : Entry). is_gt (key_order x.key c.args.key) ≡ true) (read d) greater) c.loop-i.invariant.passed

pub returns-then-branch-clause-found : goal.returns-then-branch-clause-found
returns-then-branch-clause-found c =
    let entries : List Entry = c.args.entries.now in
    let start : IsStart entries c.args.key c.start_of-start.result =
    record { before = c.start_of-start.ensures.before; from = c.start_of-start.ensures.from } in
    let Meets : Entry → Type 0 =
    λ e. IsEligible (state_of c.args.scenarios.now) c.args.request.now (placed_of e).mapping in
    let e : Entry = c.index-entries-i-in-loop-i.result in
    let within : c.loop-i.i < length entries = search rules in
    let here : e ≡ get_or entries c.loop-i.i e =
    subst (λ xs. e ≡ get_or xs c.loop-i.i e) c.loop-i.invariant.same_entries c.index-entries-i-in-loop-i.is in
    let read : (d : Entry) → e ≡ get_or entries c.loop-i.i d =
    λ d. here ∙ get_or_default entries c.loop-i.i e d within in
    let no_greater : is_gt (key_order e.key c.args.key) ≡ false = search rules in
    let yes : Meets e =
    subst Meets (sym c.index-entries-i-in-loop-i.is)
    (rw c.loop-i.invariant.same_request at c.in_ok-is_eligible.ensures.answer.0 c.if-branch.true) in
    best_at entries c.args.key c.start_of-start.result start Meets c.requires.in_order c.loop-i.i (search rules) within
    (λ d. subst (λ (x : Entry). is_gt (key_order x.key c.args.key) ≡ false) (read d) no_greater)
    (λ d. subst Meets (read d) yes) c.loop-i.invariant.passed

pub returns-clause-found : goal.returns-clause-found
returns-clause-found c =
    let entries : List Entry = c.args.entries.now in
    let start : IsStart entries c.args.key c.start_of-start.result =
    record { before = c.start_of-start.ensures.before; from = c.start_of-start.ensures.from } in
    none_at_all entries c.args.key c.start_of-start.result start
    (λ e. IsEligible (state_of c.args.scenarios.now) c.args.request.now (placed_of e).mapping)
    (search rules)
