use Rattle.std.proofs.Common.{◌≡◌, [], rules}
use Rattle.json_bridge.proofs.TreeSteps.{text_read}
use Rattle.json_bridge.proofs.part.read_part.Goals as goal

pub returns-clause-value : goal.returns-clause-value
returns-clause-value c =
    let none : c.read_parts.new.reader ≡ [] = search rules in
    let found = c.in_ok-value.ensures.ok in
    (found.0, text_read c.args.text.now found.0 (rw (c.in_ok-reader.ensures.ok, none) at found.1), found.2)
