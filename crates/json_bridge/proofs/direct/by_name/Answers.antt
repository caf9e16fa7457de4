use Rattle.std.proofs.Common.{ap, sym, ◌∙◌, length, arith}
use Rattle.std.specs.Vec.Iter.{into_iter_items}
use Rattle.data_tree.specs.Tree.{members_view}
use Rattle.json_bridge.specs.Inner.Direct.{put_all}
use Rattle.json_bridge.proofs.TreeSteps.{put_entry, put_none}
use Rattle.json_bridge.proofs.direct.by_name.Goals as goal

pub loop-name-preserved : goal.loop-name-preserved
loop-name-preserved c =
    let l = c.loop-name in
    let rest = into_iter_items c.next.new.self in
    let steps = c.in-Some.ensures.steps in
    let inserted = ap members_view c.in_ok-insert.ensures.entries
    ∙ put_entry l.members.entries c.in-Some.name c.in-Some.member in
    record {
      counted = omega (arith, l.invariant.counted, steps.1, ap length steps.0);
      whole = l.invariant.whole ∙ ap (λ es. put_all es (members_view l.members.entries)) steps.0
          ∙ ap (put_all rest) (sym inserted);
    }

pub returns : goal.returns
returns c =
    let l = c.loop-name in
    sym (l.invariant.whole
    ∙ put_none (into_iter_items l.name-iterator) (members_view l.members.entries)
    (sym l.invariant.counted ∙ c.in-None.ensures.steps.0))
