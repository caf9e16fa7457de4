use Rattle.std.proofs.Common.{◌≡◌, option_copied, subst, sym}
use Rattle.mock.proofs.Serves.{serves_as}
use Rattle.mock.proofs.serve.serve.Goals as goal
use Rattle.mapping_files.specs.Served.{IsServedBook}

pub returns-in-Ok-log_to-clause-serves : goal.returns-in-Ok-log_to-clause-serves
returns-in-Ok-log_to-clause-serves g c =
    let given = c.args.arguments in
    let IsServed = IsServedBook given.first_event given.skips_refused given.escape (option_copied given.mappings)
    (g.R.FileReader.listed c.args.rt) (g.R.FileReader.content c.args.rt) in
    serves_as g.O.Write.contents g.E.Write.contents (λ past. past ≡ c.in-Some.book) IsServed
    (λ past same. subst IsServed (sym same) c.in-Some.ensures) c.args.out.now c.serve_book-status.new.out
    c.serve_book-status.new.err c.serve_book-status.result c.serve_book-status.ensures.serves
