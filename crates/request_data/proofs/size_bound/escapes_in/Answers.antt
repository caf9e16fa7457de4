use Rattle.std.proofs.Common.{◌≤◌, length, get_or, arith, sym, ◌∙◌}
use Rattle.std.proofs.lemmas.Bool.{ltb-false}
use Rattle.json.specs.Print.{escape_byte}
use Rattle.request_data.proofs.TextBounds.{escape_byte_most, escape_from}
use Rattle.request_data.proofs.size_bound.escapes_in.Goals.{then-has_escape, else-has_escape}
use Rattle.request_data.proofs.size_bound.escapes_in.Goals as goal

pub loop-byte-preserved : goal.loop-byte-preserved
loop-byte-preserved c =
    let items = c.args.block.now in
    let i = c.loop-byte.byte-index in
    let byte = get_or items i 0 in
    let from = escape_from items i (omega (arith, c.loop-byte-test.true)) in
    elim c.if-has_escape.branch [
      | then-has_escape w ↦ record {
        few = omega (arith, c.loop-byte.invariant.few, w.count-is);
        whole = omega (arith, c.loop-byte.invariant.whole, from, escape_byte_most byte, w.count-is);
      }
      | else-has_escape w ↦ record {
        few = omega (arith, c.loop-byte.invariant.few, w.count-is);
        whole = let one : length (escape_byte byte) ≤ 1 = ltb-false 1 (length (escape_byte byte)) (sym c.has_escape.ensures ∙ w.if-has_escape.false) in
            omega (arith, c.loop-byte.invariant.whole, from, one, w.count-is);
      }
    ]
