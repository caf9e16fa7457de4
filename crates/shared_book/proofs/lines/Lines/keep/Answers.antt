use Rattle.std.proofs.Common.{ap, List}
use Rattle.shared_book.specs.Inner.Seat.{line_of}
use Rattle.shared_book.specs.declared.receipt.Receipt.{Receipt}
use Rattle.shared_book.proofs.lines.Lines.keep.Goals as goal

pub returns-clause-own : goal.returns-clause-own
returns-clause-own c = record {
  before = line_of c.let_go.new.self.own;
  let_go = c.let_go.ensures.own;
  added = ap (λ (l : List Receipt). record { let_go = c.let_go.new.self.own.let_go; held = l })
      c.in-Ok.ensures.items;
}
