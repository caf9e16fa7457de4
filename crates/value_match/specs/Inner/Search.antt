-- A search for a match in a text, byte by byte, by an automaton that reads the text.
use Rattle.std.specs.Prelude.{◌≡◌, ℕ, ◌≤◌, List, length, Option, Some, None, if◌then◌else◌}
use Rattle.regex_hir.specs.Re.{Trace}
use Rattle.regex_hir.specs.Find.{Match, first_between}
use Rattle.regex_hir.specs.Text.{is_boundary}
use Rattle.regex_nfa.specs.Run.{run}
use Rattle.regex_nfa.specs.declared.nfa.Nfa.{Nfa}

-- the match that starts at the byte, if there is one: none starts inside a character
abbrev pub run_in_text : Nfa → List ℕ → ℕ → Option Trace
run_in_text nfa hay i = if is_boundary hay i then run nfa hay (length hay) nfa.start i else None

-- the leftmost match in the text
abbrev pub found_in : Nfa → List ℕ → Option Match
found_in nfa hay = first_between (run_in_text nfa hay) 0 (length hay)

-- each match starts at the first byte
abbrev pub StartsAtZero : Nfa → Type 0
StartsAtZero nfa = (hay : List ℕ) (i : ℕ) (t : Trace) → i ≤ length hay
    → run nfa hay (length hay) nfa.start i ≡ Some t → i ≡ 0
