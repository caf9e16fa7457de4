use Rattle.std.proofs.Common.{◌≡◌, ◌++◌, drop}
use Rattle.std.specs.Prelude.{string_bytes}
use Rattle.template_code.specs.Listing.{lines_from}
use Rattle.template_code.proofs.listing.listing.Given as goal

abbrev pub invariant-loop-index : goal.invariant-loop-index
invariant-loop-index l = string_bytes l.text ++ lines_from l.index (drop l.index l.instr-items)
    ≡ lines_from 0 l.instr-items
