use Rattle.admin_answers.proofs.ReadLemmas.{refused_in, replied_in}
use Rattle.admin_answers.proofs.reads.read.Goals as goal

pub returns-clause-ok : goal.returns-clause-ok
returns-clause-ok g c =
    replied_in g.L.Origin.origin c.read.new.self.seen c.args.asked c.in_ok-number.field-0 c.reading_answer.result
    c.read.ensures.seen c.in_ok-number.ensures.ok c.reading_answer.ensures.ok

pub returns-clause-refused : goal.returns-clause-refused
returns-clause-refused g c =
    refused_in g.L.Origin.origin c.read.new.self.seen c.args.asked c.in_ok-number.field-0 c.reading_answer.result
    c.read.ensures.seen c.in_ok-number.ensures.ok c.reading_answer.ensures.refused
