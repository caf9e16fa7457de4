use Rattle.template_machine.proofs.NeedFacts.{covers_next, covers_all}
use Rattle.template_machine.proofs.needs.add_code.Goals as goal

pub loop-index-preserved : goal.loop-index-preserved
loop-index-preserved c =
    let more = c.add_instr.ensures.more in
    let before = c.loop-index.invariant in (
      λ r r' alike. before.0 r r' (more r r' alike),
      covers_next c.loop-index.index c.loop-index.needed c.add_instr.new.needed c.args.code.now
          c.instrs-instr-items.result.now c.instrs-instr-items.ensures before.1 more c.add_instr.ensures.instr,
    )

pub returns-clause-code : goal.returns-clause-code
returns-clause-code c =
    covers_all c.loop-index.index c.loop-index.needed c.args.code.now c.instrs-instr-items.result.now
    c.instrs-instr-items.ensures c.loop-index-test.false c.loop-index.invariant.1
