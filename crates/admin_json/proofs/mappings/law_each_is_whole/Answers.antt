use Rattle.std.proofs.Common.{All, subst, take_all}
use Rattle.std.proofs.lemmas.List.Elements.{All-more}
use Rattle.admin_json.specs.WholeNumbers.{HasWholeNumbers}
use Rattle.admin_json.proofs.mappings.law_each_is_whole.Goals as goal

pub loop-mapping-preserved : goal.loop-mapping-preserved
loop-mapping-preserved c =
    All-more HasWholeNumbers c.args.mappings.now c.loop-mapping.mapping-index c.mapping-item.result
    c.loop-mapping-test.true c.loop-mapping.invariant
    (subst HasWholeNumbers c.mapping-item.is c.law_numbers_are_whole.ensures.numbers)

pub returns : goal.returns
returns c =
    subst (λ ms. All HasWholeNumbers ms)
    (take_all c.loop-mapping.mapping-index c.args.mappings.now c.loop-mapping-test.false) c.loop-mapping.invariant
