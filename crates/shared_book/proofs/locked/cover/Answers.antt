use Rattle.std.proofs.Common.{List, All, arith, subst}
use Rattle.std.proofs.lemmas.List.Elements.{All-more}
use mathlib.Core.List.{IsPrefix}
use Rattle.shared_book.proofs.HoldLemmas.{held_all, held_later}
use Rattle.shared_book.proofs.ReceiptLemmas.{all_taken}
use Rattle.shared_book.proofs.SeenLemmas.{have_seen_more}
use Rattle.shared_book.specs.Held.{Held, HoldReceipts, lists}
use Rattle.shared_book.specs.Reached.{Log}
use Rattle.shared_book.specs.Settled.{HaveSeen}
use Rattle.shared_book.proofs.locked.cover.Goals as goal

pub loop-seat-preserved : goal.loop-seat-preserved
loop-seat-preserved g c =
    let seat : Held = c.seat-item.result in
    let begins : IsPrefix seat.seen c.args.history.now =
    subst (λ (log : Log). IsPrefix log c.args.history.now) c.front-in-loop-seat.ensures.value
    c.covers-in-loop-seat.ensures.begins in
    record {
      seen = have_seen_more c.args.history.now c.args.seats.now c.loop-seat.seat-index seat (omega arith)
          c.loop-seat.invariant.seen
          (subst (λ (s : Held). IsPrefix s.seen c.args.history.now) c.seat-item.is begins);
      receipts = All-more (λ (s : Held). HoldReceipts g.L.Origin.origin c.args.history.now (lists s)) c.args.seats.now
          c.loop-seat.seat-index seat (omega arith) c.loop-seat.invariant.receipts
          (subst (λ (s : Held). HoldReceipts g.L.Origin.origin c.args.history.now (lists s)) c.seat-item.is
          (held_later g.L.Origin.origin seat.seen c.args.history.now (lists seat) begins
          c.front-in-loop-seat.ensures.receipts));
    }

pub returns-clause-beginnings : goal.returns-clause-beginnings
returns-clause-beginnings g c =
    all_taken (HaveSeen c.args.history.now) c.args.seats.now c.loop-seat.seat-index (omega arith)
    c.loop-seat.invariant.seen

pub returns-clause-receipts : goal.returns-clause-receipts
returns-clause-receipts g c =
    held_all g.L.Origin.origin c.args.history.now c.args.seats.now
    (all_taken (λ (seats : List Held).
    All (λ s. HoldReceipts g.L.Origin.origin c.args.history.now (lists s)) seats) c.args.seats.now
    c.loop-seat.seat-index (omega arith) c.loop-seat.invariant.receipts)
