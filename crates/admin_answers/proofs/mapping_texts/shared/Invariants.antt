use Rattle.std.proofs.Common.{◌≡◌, take}
use Rattle.admin_answers.proofs.mapping_texts.shared.Given as goal

abbrev pub invariant-loop-mapping : goal.invariant-loop-mapping
invariant-loop-mapping l = l.shared.items ≡ take l.mapping-index l.fn.mappings
