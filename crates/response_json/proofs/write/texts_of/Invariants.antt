use Rattle.std.proofs.Common.{◌≡◌, ◌++◌, drop, map}
use Rattle.response_json.specs.Writing.{texts_of}
use Rattle.serde_json.specs.View.{view}
use Rattle.response_json.proofs.write.texts_of.Given as goal

-- the texts so far, and those of the lines that are left
abbrev pub invariant-loop-line : goal.invariant-loop-line
invariant-loop-line l =
    texts_of l.name l.fn.lines ≡ map view l.texts.items ++ texts_of l.name (drop l.line-index l.fn.lines)
