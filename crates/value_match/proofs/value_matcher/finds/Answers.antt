use Rattle.std.proofs.Common.{arith}
use Rattle.value_match.proofs.PatternLemmas.{finds_as_read}
use Rattle.value_match.proofs.value_matcher.finds.Goals as goal

pub returns-in-Some-clause-found : goal.returns-in-Some-clause-found
returns-in-Some-clause-found c = λ source searches.
    let read = rw c.in-Some.is at searches in
    rw (c.is_match.ensures.found, c.deref_mut.ensures.value)
    (finds_as_read c.args.value.now (λ k. omega (arith, c.type_inv.value k)) source
    c.in-Some.pattern.value.automaton read)
