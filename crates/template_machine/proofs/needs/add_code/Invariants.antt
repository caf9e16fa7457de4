use Rattle.needed_data.specs.Needed.{Includes}
use Rattle.template_machine.proofs.NeedFacts.{CoversFirst}
use Rattle.template_machine.proofs.needs.add_code.Given as goal

abbrev pub invariant-loop-index : goal.invariant-loop-index
invariant-loop-index l = Includes l.needed l.fn.needed × CoversFirst l.index l.needed l.code
