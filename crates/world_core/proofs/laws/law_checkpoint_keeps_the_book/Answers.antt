use Rattle.world_core.proofs.SameBooks.{legal_with_all, number_of_all, same_after_clear, same_as_all}
use Rattle.world_core.proofs.laws.law_checkpoint_keeps_the_book.Goals as goal

pub returns-clause-same : goal.returns-clause-same
returns-clause-same c = same_as_all

pub returns-clause-number : goal.returns-clause-number
returns-clause-number c = number_of_all

pub returns-clause-legal : goal.returns-clause-legal
returns-clause-legal c = legal_with_all

pub returns-clause-clear : goal.returns-clause-clear
returns-clause-clear c = same_after_clear
