use Rattle.std.proofs.Common.{ℕ, List, arith, get_or, subst, sym}
use Rattle.std.proofs.lemmas.List.{drop_all, drop_more}
use Rattle.shared_book.proofs.ShortLemmas.{IsAtLists, lists_ended, lists_entered, lists_more, lists_wrong}
use Rattle.shared_book.proofs.short_lists.ShortLists.misplaced.Goals as goal

pub loop-size-init : goal.loop-size-init
loop-size-init c =
    subst (λ (ss : List ℕ). IsAtLists c.args.last c.args.self.now ss c.iter-left.result)
    (sym c.deref-size-items.ensures.value)
    (subst (IsAtLists c.args.last c.args.self.now c.self.inside.sizes.items) (sym c.iter-left.ensures)
    (lists_entered c.args.last c.args.self.now c.self.inside.sizes.items c.self.inside.numbers c.self.invariant
    c.self.view_is))

pub returns-in-Some : goal.returns-in-Some
returns-in-Some c =
    lists_wrong c.args.last c.in-Some.number c.args.self.now _ _ c.loop-size.left
    (get_or c.deref-size-items.result.now c.loop-size.size-index 0) c.loop-size.invariant
    (drop_more c.deref-size-items.result.now c.loop-size.size-index 0 (omega (arith, c.loop-size-test.true)))
    c.in-Some.ensures.list

pub loop-size-preserved : goal.loop-size-preserved
loop-size-preserved c =
    lists_more c.args.last c.args.self.now _ _ c.loop-size.left c.misplaced_in_next.new.left
    (get_or c.deref-size-items.result.now c.loop-size.size-index 0) c.loop-size.invariant
    (drop_more c.deref-size-items.result.now c.loop-size.size-index 0 (omega (arith, c.loop-size-test.true)))
    c.in_default.ensures.left c.in_default.ensures.list

pub returns : goal.returns
returns c =
    lists_ended c.args.last c.args.self.now _ c.loop-size.left c.loop-size.invariant
    (drop_all c.loop-size.size-index c.deref-size-items.result.now (omega (arith, c.loop-size-test.false)))
