use Rattle.code_rules.proofs.RegionFacts.{bounds_at-next, own-grows, region-opens, region-closes}
use Rattle.code_rules.proofs.laws.law_regions_are_what_a_pass_adds_up.Goals as goal

pub returns-clause-bounds : goal.returns-clause-bounds
returns-clause-bounds c = bounds_at-next

pub returns-clause-own : goal.returns-clause-own
returns-clause-own c = own-grows

pub returns-clause-opens : goal.returns-clause-opens
returns-clause-opens c = region-opens

pub returns-clause-closes : goal.returns-clause-closes
returns-clause-closes c = region-closes
