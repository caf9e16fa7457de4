use Rattle.std.proofs.Common.{map, take}
use Rattle.mapping_commands.specs.Answering.{SpellDocuments}
use Rattle.mapping_commands.proofs.fresh.mappings_of.Given as goal

-- the mappings of the first documents
abbrev pub invariant-loop-text : goal.invariant-loop-text
invariant-loop-text l =
    SpellDocuments l.fn.escape (map (λ text. text.items) (take l.text-index l.texts)) l.mappings.items
