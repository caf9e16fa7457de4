use Rattle.std.proofs.Common.{◌≡◌, true, cond, None, is_some, sym, ap, ◌∙◌, length, rules}
use Rattle.regex_hir.specs.Text.{is_boundary}
use Rattle.regex_nfa.specs.Run.{run}
use Rattle.value_match.proofs.SearchLemmas.{only_at}
use Rattle.value_match.proofs.pattern.matches_at.Goals as goal

-- the DFA gave up, and the NFA was searched at this byte alone
pub returns-in-Idle-clause-found : goal.returns-in-Idle-clause-found
returns-in-Idle-clause-found c =
    let hay = c.args.hay.now in
    let nfa = c.args.automaton.now.dfa.nfa in
    let cut : is_boundary hay c.args.at ≡ true = search rules in
    c.is_match.ensures.found ∙ only_at _ c.args.at
    ∙ ap (λ b. is_some (cond b (run nfa hay (length hay) nfa.start c.args.at) None)) (sym cut)
