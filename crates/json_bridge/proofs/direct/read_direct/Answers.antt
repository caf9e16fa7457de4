use Rattle.std.proofs.Common.{◌≡◌, [], rules}
use Rattle.json_bridge.proofs.TreeSteps.{text_read}
use Rattle.json_bridge.proofs.direct.read_direct.Goals as goal

pub returns-clause-value : goal.returns-clause-value
returns-clause-value c =
    let none : c.read.new.reader ≡ [] = search rules in
    text_read c.args.text.now _ (rw (c.in_ok-reader.ensures.ok, none) at c.in_ok-value.ensures.ok)
