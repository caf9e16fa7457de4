use Rattle.std.proofs.Common.{[], ◌∷◌, length, arith, sym, ap, subst, ◌∙◌, length-append}
use Rattle.data_tree.specs.Parts.{names_of}
use Rattle.data_tree.specs.Tree.{members_view, no_members, view}
use Rattle.data_tree.specs.WellFormed.{IsAscending}
use Rattle.json_bridge.specs.Inner.Direct.{put, put_all, AreFewInOrder}
use Rattle.json_bridge.proofs.KeptSteps.{ascends_put}
use Rattle.json_bridge.proofs.TreeSteps.{put_all_ascending, put_all_last}
use Rattle.json_bridge.proofs.direct.add.Goals as goal

pub put-requires : goal.put-requires
put-requires c =
    let few : AreFewInOrder c.make_room.new.found.items = subst AreFewInOrder (sym c.in_ok-make_room.ensures) c.requires in
    few (omega arith)

pub returns-then-len-lt-FEW-clause-put : goal.returns-then-len-lt-FEW-clause-put
returns-then-len-lt-FEW-clause-put c =
    let same = c.in_ok-make_room.ensures in
    let old = c.make_room.new.found.items in
    let k = c.args.name in
    let t = view c.args.member in
    let few : AreFewInOrder old = subst AreFewInOrder (sym same) c.requires in
    let up : IsAscending (names_of (members_view old)) = few (omega arith) in
    let later : IsAscending (names_of (members_view c.put.new.made.items)) =
    subst (λ ms. IsAscending (names_of ms)) (sym c.in_ok-put.ensures) (ascends_put k t (members_view old) up) in
    sym (put_all_ascending c.put.new.made.items later) ∙ c.in_ok-put.ensures
    ∙ ap (put k t) (put_all_ascending old up ∙ ap (λ ms. put_all ms no_members) same)

pub returns-then-len-lt-FEW-clause-in_order : goal.returns-then-len-lt-FEW-clause-in_order
returns-then-len-lt-FEW-clause-in_order c = λ _.
    let old = c.make_room.new.found.items in
    let few : AreFewInOrder old = subst AreFewInOrder (sym c.in_ok-make_room.ensures) c.requires in
    subst (λ ms. IsAscending (names_of ms)) (sym c.in_ok-put.ensures)
    (ascends_put c.args.name (view c.args.member) (members_view old) (few (omega arith)))

pub returns-clause-put : goal.returns-clause-put
returns-clause-put c =
    let old = c.make_room.new.found.items in
    ap (λ ms. put_all ms no_members) c.in_ok-push.ensures.items
    ∙ put_all_last old (c.args.name, c.args.member) no_members
    ∙ ap (λ ms. put c.args.name (view c.args.member) (put_all ms no_members)) c.in_ok-make_room.ensures

pub returns-clause-in_order : goal.returns-clause-in_order
returns-clause-in_order c = λ few.
    absurd (omega (
      arith,
      few,
      ap length c.in_ok-push.ensures.items,
      length-append c.make_room.new.found.items ((c.args.name, c.args.member) ∷ []),
    ))
