use Rattle.std.proofs.Common.{◌≡◌, ◌++◌, [], Some, string_bytes}
use Rattle.admin_answers.specs.Inner.Joined.{left_of}
use Rattle.admin_answers.proofs.listing.piece_from.Given as goal

-- what was written, and what is left from the next entry on, are the whole
abbrev pub invariant-loop-index : goal.invariant-loop-index
invariant-loop-index l =
    left_of l.fn.head l.fn.entries (Some l.fn.first) ≡ string_bytes l.piece ++ left_of [] l.fn.entries (Some l.index)
