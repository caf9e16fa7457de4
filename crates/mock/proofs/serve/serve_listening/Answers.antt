use Rattle.std.proofs.Common.{inr, refl}
use Rattle.mock.proofs.serve.serve_listening.Goals as goal

pub returns-in-Ok-answers_of-clause-serves : goal.returns-in-Ok-answers_of-clause-serves
returns-in-Ok-answers_of-clause-serves g c =
    inr (g.L.Origin.origin, refl, g.L.Ledger.parts, g.L.Naming.book, c.open_connections.new.err, c.serve_answers.ensures.written)
