use Rattle.std.proofs.Common.{◌≡◌, ◌++◌, length, drop}
use Rattle.recorder.specs.Stubs.{mappings_of, numbered, parts_of}
use Rattle.recorded_stubs.specs.Inner.Lent.{lent}
use Rattle.recorded_stubs.proofs.stubs.stubs_of.Given as goal

-- the mappings so far, and those of the exchanges that are left
abbrev pub invariant-loop-index : goal.invariant-loop-index
invariant-loop-index l =
    l.mappings.items
    ++ numbered l.captured l.number (length l.mappings.items)
    (parts_of l.repeats l.number (drop l.index (lent l.kept.items)) (drop l.index l.places.items))
    ≡ mappings_of l.captured l.exchanges l.repeats l.number
