use Rattle.std.proofs.Common.{◌≤◌, arith}
use Rattle.std.proofs.lemmas.List.Elements.{All-more}
use Rattle.shared_book.proofs.receipt_list.first_up_to.Goals as goal

pub loop-i-preserved : goal.loop-i-preserved
loop-i-preserved c =
    All-more (λ r. r.number ≤ c.args.last) c.args.receipts.now c.loop-i.i c.index-receipts-i.result (omega arith)
    c.loop-i.invariant (omega (arith, c.if-receipts-i.false))
