-- Where the states that are left are set, all of them were.
use Rattle.std.proofs.Common.{drop, map}
use Rattle.mapping_commands.specs.Explaining.{AreSet, given_of}
use Rattle.request_journal.specs.Past.{Past}
use Rattle.mapping_commands.proofs.explanation.set_states.Given as goal

abbrev pub invariant-loop-given : goal.invariant-loop-given
invariant-loop-given l =
    (last : Past) → AreSet (map given_of (drop l.given-index l.states)) l.book last
    → AreSet (map given_of l.fn.states) l.fn.book last
