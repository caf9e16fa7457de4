-- What a compiled pattern finds is what its text means.
use Rattle.std.proofs.Common.{◌≡◌, ℕ, ◌<◌, ◌≤◌, ◌↔◌, cond, length, true, List, get_or, Option}
use Rattle.std.proofs.Common.{None, Some, is_some, IsTrue, IsSomeAnd, sym, ap, ◌∙◌}
use Rattle.regex_hir.specs.Find.{find_str}
use Rattle.regex_hir.specs.Meaning.{meaning}
use Rattle.regex_hir.specs.Text.{is_boundary}
use Rattle.regex_hir.specs.declared.hir.Hir.{Hir}
use Rattle.regex_hir.proofs.FindLemmas.{first_between_cong}
use Rattle.regex_nfa.specs.declared.nfa.Nfa.{Nfa}
use Rattle.regex_compile.specs.Implements.{Implements}
use Rattle.regex_syntax.specs.Brackets.{Nested}
use Rattle.regex_syntax.specs.Captures.{SameCaptures}
use Rattle.regex_syntax.specs.Grammar.{Names, group_count}
use Rattle.regex.specs.Patterns.{Re, default_config, Reads}
use Rattle.regex.proofs.ForCallers.{is_match_alike}
use Rattle.value_match.specs.declared.automaton.Automaton.{Automaton}
use Rattle.value_match.specs.Inner.Engine.{IsReadFrom}
use Rattle.value_match.specs.Inner.Search.{found_in}
use Rattle.value_match.specs.Patterns.{IsPattern, FindsIn}

-- what the grammar reads, as far as it describes a tree
abbrev pub IsReadOf : Re → Names → Option (Nested Re × Names) → Type 0
IsReadOf tree names o = IsSomeAnd o (λ (re, found).
    (re.depth ≤ 250) × SameCaptures tree re.value × (names ≡ found) × (group_count tree ≤ length names))

depth_read : (tree : Re) (names : Names) (o : Option (Nested Re × Names)) → IsReadOf tree names o →
    IsSomeAnd o (λ (re, _). re.depth ≤ 250)
depth_read tree names None h = absurd h
depth_read tree names (Some x) h = h.0

-- what is read is a pattern
pub pattern_of_read : (source : List ℕ) (hir : Hir) (names : Names) → Reads default_config source hir names →
    IsPattern source
unfolding Reads
pattern_of_read source hir names given = depth_read (meaning hir) names _ given

module _ (value : List ℕ) (bytes : (k : ℕ) → get_or value k 0 < 256) where
  finds_alike : (tree : Re) (names : Names) (o : Option (Nested Re × Names)) → IsReadOf tree names o →
      IsTrue (is_some (find_str tree value 0))
      ↔ IsSomeAnd o (λ (re, _). IsTrue (is_some (find_str re.value value 0)))
  finds_alike tree names None h = absurd h
  finds_alike tree names (Some x) h =
      let same = is_match_alike h.1 value bytes true 0 in
      (λ yes. sym same ∙ yes, λ yes. same ∙ yes)

  -- an automaton finds what the tree finds that it implements
  found_as_meant : (nfa : Nfa) (tree : Re) → Implements nfa tree → found_in nfa value ≡ find_str tree value 0
  unfolding find_str
  found_as_meant nfa tree implements =
      first_between_cong _ _ 0 (length value)
      (λ i low high. ap (λ o. cond (is_boundary value i) o None) (implements value i))

  pub finds_as_read : (source : List ℕ) (p : Automaton) → IsReadFrom source p →
      IsTrue (is_some (found_in p.dfa.nfa value)) ↔ FindsIn source value
  unfolding Reads
  finds_as_read source p (hir, names, given, implements) =
      rw (found_as_meant p.dfa.nfa (meaning hir) implements) (finds_alike (meaning hir) names _ given)
