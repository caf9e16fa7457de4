use Rattle.std.proofs.Common.{ap, sym, subst, ◌∙◌, length, arith}
use Rattle.std.specs.Vec.Iter.{into_iter_items}
use Rattle.data_tree.specs.Parts.{names_of}
use Rattle.data_tree.specs.Tree.{members_view, view}
use Rattle.data_tree.specs.WellFormed.{IsAscending}
use Rattle.json_bridge.specs.Inner.Direct.{put_all}
use Rattle.json_bridge.proofs.KeptSteps.{ascends_put}
use Rattle.json_bridge.proofs.TreeSteps.{put_none}
use Rattle.json_bridge.proofs.direct.put_each.Goals as goal

pub loop-name-preserved : goal.loop-name-preserved
loop-name-preserved c =
    let l = c.loop-name in
    let rest = into_iter_items c.next.new.self in
    let steps = c.in-Some.ensures.steps in
    record {
      up = subst (λ ms. IsAscending (names_of ms)) (sym c.in_ok-put.ensures)
          (ascends_put c.in-Some.name (view c.in-Some.member) (members_view l.made.items) l.invariant.up);
      counted = omega (arith, l.invariant.counted, steps.1, ap length steps.0);
      whole = l.invariant.whole ∙ ap (λ es. put_all es (members_view l.made.items)) steps.0
          ∙ ap (put_all rest) (sym c.in_ok-put.ensures);
    }

pub returns : goal.returns
returns c =
    let l = c.loop-name in
    sym (l.invariant.whole
    ∙ put_none (into_iter_items l.name-iterator) (members_view l.made.items)
    (sym l.invariant.counted ∙ c.in-None.ensures.steps.0))
