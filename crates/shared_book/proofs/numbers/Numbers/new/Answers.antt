use Rattle.std.proofs.Common.{ap}
use Rattle.shared_book.specs.Inner.Numbers.{unpacked}
use Rattle.shared_book.proofs.numbers.Numbers.new.Goals as goal

pub returns : goal.returns
returns c = ap (λ ss. unpacked 0 ss c.new-2.result.items) c.new.ensures.items
