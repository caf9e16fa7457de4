-- What private clauses see of a pattern that was compiled.
use Rattle.std.specs.Prelude.{ℕ, List}
use Rattle.regex.specs.Patterns.{default_config, Reads}
use Rattle.regex_compile.specs.Implements.{Implements}
use Rattle.regex_hir.specs.Meaning.{meaning}
use Rattle.regex_hir.specs.declared.hir.Hir.{Hir}
use Rattle.regex_syntax.specs.Grammar.{Names}
use Rattle.value_match.specs.declared.automaton.Automaton.{Automaton}

-- the automaton finds what the tree finds that the text is read as
abbrev pub IsReadFrom : List ℕ → Automaton → Type 0
IsReadFrom source p =
    (hir : Hir) × (names : Names) × Reads default_config source hir names × Implements p.dfa.nfa (meaning hir)
