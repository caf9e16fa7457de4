use Rattle.std.proofs.Common.{ap, length, arith}
use Rattle.shared_book.proofs.NumberLemmas.{unpacked_length}
use Rattle.shared_book.proofs.numbers.Numbers.len.Goals as goal

pub returns-clause-value : goal.returns-clause-value
returns-clause-value c =
    let inside = c.self.inside in
    omega (
      arith,
      unpacked_length 0 inside.steps.items inside.far.items inside.last c.self.invariant,
      ap length c.self.view_is,
      c.len.ensures,
    )
