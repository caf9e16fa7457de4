use Rattle.std.proofs.Common.{List, map, subst, sym, arith}
use Rattle.std.proofs.lemmas.List.{drop_more}
use Rattle.mapping_commands.specs.Explaining.{AreSet, given_of}
use Rattle.mapping_commands.specs.declared.explanation.GivenState.{GivenState}
use Rattle.mapping_commands.proofs.explanation.set_states.Goals as goal

pub loop-given-preserved : goal.loop-given-preserved
loop-given-preserved c = λ last rest.
    let states : List GivenState = c.args.states.now in
    let i = c.loop-given.given-index in
    c.loop-given.invariant last
    (subst (λ (ss : List GivenState). AreSet (map given_of ss) c.loop-given.book last)
    (sym (drop_more states i _ (omega arith)))
    (c.set_state.new.book, c.in_ok-set_state.ensures, rest))
