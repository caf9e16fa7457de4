-- Exchanges that are lent.
use Rattle.std.specs.Prelude.{List, map}
use Rattle.std.specs.Borrow.{Bor}
use Rattle.recorder.specs.declared.exchange.Exchange.{Exchange}

abbrev pub lent : List (Bor Exchange) → List Exchange
lent exchanges = map (λ exchange. exchange.now) exchanges
