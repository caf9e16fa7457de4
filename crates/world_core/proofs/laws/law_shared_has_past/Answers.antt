use Rattle.shared_book.proofs.ReachedLemmas.{lawful_past}
use Rattle.world_core.proofs.laws.law_shared_has_past.Goals as goal

pub returns : goal.returns
returns c = lawful_past
