use Rattle.std.proofs.Common.{refl}
use Rattle.shared_book.proofs.TellLemmas.{lends_served}
use Rattle.shared_book.proofs.seat.Seat.serve.Goals as goal

pub returns-in-Ok : goal.returns-in-Ok
returns-in-Ok g c = (
  (
    refl,
    (λ _. tt),
    lends_served g.L.Origin.origin c.args.self.now c.keep_served.new.self c.args.request c.last.result.now
        c.in-Ok.ensures.ok c.last.ensures,
  ),
  record { after = tt },
)

pub returns-in-Err : goal.returns-in-Err
returns-in-Err g c = ((refl, (λ _. tt), c.in-Err.ensures.why), record { after = tt })
