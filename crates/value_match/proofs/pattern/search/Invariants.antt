use Rattle.std.proofs.Common.{◌≡◌, ℕ, ◌<◌, None}
use Rattle.regex_dfa.specs.Search.{IsForwardFor}
use Rattle.value_match.specs.Inner.Search.{run_in_text}
use Rattle.value_match.proofs.pattern.search.Given as goal

abbrev pub invariant-loop-at : goal.invariant-loop-at
invariant-loop-at l = record {
  runs : IsForwardFor l.forward l.automaton.dfa;
  states : l.pikevm ≡ l.fn.pikevm;
  none : (k : ℕ) → k < l.at → run_in_text l.automaton.dfa.nfa l.hay k ≡ None;
}
