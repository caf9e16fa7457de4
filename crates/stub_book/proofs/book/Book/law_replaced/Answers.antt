use Rattle.stub_book.proofs.LeftLemmas.{gives_way, stop_counts}
use Rattle.stub_book.proofs.book.Book.law_replaced.Goals as goal

pub returns-clause-add : goal.returns-clause-add
returns-clause-add c = λ past mapping. gives_way past mapping

pub returns-clause-stop : goal.returns-clause-stop
returns-clause-stop c = λ past mappings skipped. stop_counts past mappings skipped
