use Rattle.std.proofs.Common.{ℕ, List}
use Rattle.std.proofs.lemmas.Result.{err_from_is_err_and}
use Rattle.regex.specs.Failures.{IsPattern, IsRightKind, of_compiler}
use Rattle.regex.specs.Patterns.{Config}
use Rattle.regex_compile.specs.declared.error.Error.{Error}
use Rattle.regex_compile.specs.declared.error.Error.TheVariants.{TooBig, Malformed, OutOfMemory}
use Rattle.value_match.proofs.SearchLemmas.{starts_at_zero}
use Rattle.value_match.proofs.automaton.Automaton.new.Goals as goal

-- a pattern gets any error of the compiler
right_kind : (config : Config) (source : List ℕ) → IsPattern config source → (e : Error) →
    IsRightKind config source (of_compiler e)
right_kind config source read TooBig = read
right_kind config source read Malformed = read
right_kind config source read OutOfMemory = tt

pub invariant_of-result : goal.invariant_of-result
invariant_of-result c = record {
  starts = ∣ (λ is. starts_at_zero _ _ c.in_ok-compiled.ensures (c.is_anchored_start.ensures.anchored is)) ∣₁;
}

pub returns-in_err-compiled-clause-kind : goal.returns-in_err-compiled-clause-kind
returns-in_err-compiled-clause-kind c =
    let p = err_from_is_err_and c.from_residual-in_err-compiled.result c.from_residual-in_err-compiled.ensures.1 in
    rw (p.1, p.2) (right_kind _ _ (_, _, c.in_ok-parsed.ensures.read) _)
