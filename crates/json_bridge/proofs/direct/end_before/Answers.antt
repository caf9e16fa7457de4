use Rattle.std.proofs.Common.{◌≡◌, ◌-◌, length, slice_index_or, nat_cmp, Less, arith, rules}
use Rattle.std.specs.Cmp.Lexicographic.{slice_cmp}
use Rattle.json_bridge.proofs.Places.{end_before}
use Rattle.json_bridge.proofs.direct.end_before.Goals as goal

pub returns : goal.returns
returns c = λ is.
    let ms = c.args.members.now in
    let any = c.index-members-count.result in
    let less : slice_cmp nat_cmp (slice_index_or ms (length ms - 1) any).0 c.args.name.now ≡ Less =
    search rules in
    end_before ms (length ms - 1) any c.args.name.now (omega arith) less
