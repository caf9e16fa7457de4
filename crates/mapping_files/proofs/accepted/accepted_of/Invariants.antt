use Rattle.std.proofs.Common.{map, take}
use Rattle.mapping_files.specs.Served.{SpellAccepted}
use Rattle.mapping_files.proofs.accepted.accepted_of.Given as goal

-- the mappings of the first documents
abbrev pub invariant-loop-text : goal.invariant-loop-text
invariant-loop-text l =
    SpellAccepted l.fn.escape (map (λ text. text.items) (take l.text-index l.texts)) l.accepted.mappings.items
