use Rattle.std.proofs.Common.{ap, sym, ◌∙◌}
use Rattle.data_tree.specs.Tree.{members_view}
use Rattle.json_bridge.proofs.Grown.{members_before, members_before-none}
use Rattle.json_bridge.proofs.TreeSteps.{members_before-last}
use Rattle.json_bridge.proofs.direct.in_list.Goals as goal

pub loop-name-preserved : goal.loop-name-preserved
loop-name-preserved c =
    let l = c.loop-name in
    let rest = members_view c.next.new.self in
    l.invariant
    ∙ ap (λ es. members_before l.made.items (members_view es)) c.in-Some.ensures.steps
    ∙ sym (members_before-last l.made.items (c.in-Some.name, c.in-Some.member) rest)
    ∙ ap (λ es. members_before es rest) (sym c.in_ok-push.ensures.items)

pub returns : goal.returns
returns c =
    let l = c.loop-name in
    sym (l.invariant ∙ ap (λ es. members_before l.made.items (members_view es)) c.in-None.ensures.steps.0
    ∙ members_before-none l.made.items)
