use Rattle.std.proofs.Common.{◌<◌, length, arith}
use Rattle.std.proofs.lemmas.List.{get_or_read}
use Rattle.mock_request.proofs.BlockLemmas.{bounds, part_at, length_parts}
use Rattle.mock_request.proofs.block.Block.part.Goals as goal

pub slice_bounds-result-count : goal.slice_bounds-result-count
slice_bounds-result-count c =
    let ends = c.self.inside.ends.items in
    let i : c.args.index < length ends = rw (← c.self.view_is, length_parts) at c.requires in
    let end = get_or_read ends c.args.index c.index.result.now i c.index.ensures 0 in
    let b = bounds 0 ends (length c.self.inside.bytes.items) c.args.index c.self.invariant i in
    let start = rw c.as_slice.ensures.value at c.start-start.ensures in
    omega (arith, end, b.0, start)

pub returns : goal.returns
returns c =
    let ends = c.self.inside.ends.items in
    let i : c.args.index < length ends = rw (← c.self.view_is, length_parts) at c.requires in
    let end = get_or_read ends c.args.index c.index.result.now i c.index.ensures 0 in
    let part = part_at 0 ends c.self.inside.bytes.items c.args.index i in
    rw (
      ← c.self.view_is,
      part,
      ← end,
      ← c.as_slice.ensures.value,
      ← c.start-start.ensures,
      ← c.deref.ensures.value,
    )
