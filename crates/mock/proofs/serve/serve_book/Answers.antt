use Rattle.std.proofs.Common.{◌≡◌, ◌∙◌, sym}
use Rattle.mock.proofs.Serves.{serves_as}
use Rattle.mock.proofs.serve.serve_book.Goals as goal

pub returns-in-Ok-clause-serves : goal.returns-in-Ok-clause-serves
returns-in-Ok-clause-serves g c =
    serves_as g.O.Write.contents g.E.Write.contents (λ past. past ≡ g.L.Origin.origin) (λ past. past ≡ c.args.book)
    (λ past same. same ∙ sym c.requires.origin) c.args.out.now c.serve_shared.new.out c.serve_shared.new.err
    c.serve_shared.result c.serve_shared.ensures.serves
