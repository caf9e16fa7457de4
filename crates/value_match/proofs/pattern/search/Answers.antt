use Rattle.std.proofs.Common.{sym, ◌∙◌, arith}
use Rattle.value_match.proofs.SearchLemmas.{found_by_run, none_of_is_some, not_found, not_found_anchored}
use Rattle.value_match.proofs.SearchLemmas.{none_from_start}
use Rattle.value_match.proofs.pattern.search.Goals as goal

pub returns-then-matches_at-clause-found : goal.returns-then-matches_at-clause-found
returns-then-matches_at-clause-found c =
    rw (← c.as_bytes-hay.ensures.value)
    (sym (found_by_run c.args.automaton.now.dfa.nfa c.as_bytes-hay.result.now c.loop-at.at c.loop-at-test.true
    (sym c.matches_at.ensures.found ∙ c.if-matches_at.true)))

pub returns-then-automaton-clause-found : goal.returns-then-automaton-clause-found
returns-then-automaton-clause-found c =
    let nfa = c.args.automaton.now.dfa.nfa in
    let hay = c.as_bytes-hay.result.now in
    let none = none_of_is_some _ (sym c.matches_at.ensures.found ∙ c.if-matches_at.false) in
    rw (← c.as_bytes-hay.ensures.value)
    (sym (not_found_anchored nfa hay c.args.automaton.now.anchored c.args.automaton.now.starts c.if-automaton.true
    (none_from_start nfa hay c.loop-at.at c.loop-at.invariant.none none 0 (omega arith))))

pub returns-else-automaton-clause-found : goal.returns-else-automaton-clause-found
returns-else-automaton-clause-found c =
    let nfa = c.args.automaton.now.dfa.nfa in
    let hay = c.as_bytes-hay.result.now in
    let none = none_of_is_some _ (sym c.matches_at.ensures.found ∙ c.if-matches_at.false) in
    rw (← c.as_bytes-hay.ensures.value)
    (sym (not_found nfa hay (λ i le.
    none_from_start nfa hay c.loop-at.at c.loop-at.invariant.none none i (omega arith))))
