use Rattle.std.proofs.Common.{refl}
use Rattle.shared_book.proofs.TellLemmas.{lends_applied}
use Rattle.shared_book.proofs.seat.Seat.apply.Goals as goal

pub returns-in-Ok : goal.returns-in-Ok
returns-in-Ok g c = (
  (
    refl,
    (λ _. tt),
    lends_applied g.L.Origin.origin c.args.self.now c.keep_applied.new.self c.args.input c.last.result.now
        c.in-Ok.ensures.ok c.last.ensures,
  ),
  record { after = tt },
)

pub returns-in-Err : goal.returns-in-Err
returns-in-Err g c = ((refl, (λ _. tt), c.in-Err.ensures.why), record { after = tt })
