use Rattle.safe_code.proofs.Safety.{safe}
use Rattle.safe_code.proofs.laws.law_well_formed_code_is_safe.Goals as goal

pub returns : goal.returns
returns c = safe
