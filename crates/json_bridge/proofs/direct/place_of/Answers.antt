use Rattle.std.proofs.Common.{◌≡◌, ◌<◌, ◌+◌, suc, length, slice_index_or, Less, Equal, Greater, nat_cmp, rules, arith, subst}
use Rattle.std.specs.Cmp.Lexicographic.{slice_cmp}
use Rattle.json_bridge.proofs.Places.{ArePassed}
use Rattle.json_bridge.proofs.Places.{passed_more, found_after, belongs_after, belongs_last}
use Rattle.json_bridge.proofs.direct.place_of.Goals as goal

pub returns-in-Less : goal.returns-in-Less
returns-in-Less c =
    let i = c.loop-index.index in
    let ms = c.args.members.now in
    let m = c.index-members-index.result in
    let within : i < length ms = search rules in
    let is : slice_cmp nat_cmp c.args.name.now (slice_index_or ms i m).0 ≡ Less = search rules in
    belongs_after c.args.name.now i ms m c.loop-index.invariant.passed within is

pub returns-in-Equal : goal.returns-in-Equal
returns-in-Equal c =
    let i = c.loop-index.index in
    let ms = c.args.members.now in
    let m = c.index-members-index.result in
    let within : i < length ms = search rules in
    let is : slice_cmp nat_cmp c.args.name.now (slice_index_or ms i m).0 ≡ Equal = search rules in
    found_after c.args.name.now i ms m c.loop-index.invariant.passed within is

pub loop-index-preserved : goal.loop-index-preserved
loop-index-preserved c =
    let i = c.loop-index.index in
    let ms = c.args.members.now in
    let m = c.index-members-index.result in
    let within : i < length ms = search rules in
    let is : slice_cmp nat_cmp c.args.name.now (slice_index_or ms i m).0 ≡ Greater = search rules in
    let next : suc i ≡ i + 1 = omega arith in
    record {
      within = omega (arith, within);
      passed = subst (λ n. ArePassed c.args.name.now n ms) next
          (passed_more c.args.name.now i ms m c.loop-index.invariant.passed within is);
    }

pub returns : goal.returns
returns c =
    let i = c.loop-index.index in
    let ms = c.args.members.now in
    let last : i ≡ length ms = grind (arith, c.loop-index.invariant.within) in
    belongs_last c.args.name.now i ms c.loop-index.invariant.passed last
