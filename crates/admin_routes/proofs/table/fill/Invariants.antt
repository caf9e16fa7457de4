use Rattle.std.proofs.Common.{◌≡◌, true, drop, []}
use Rattle.admin_routes.specs.Inner.Table.{is_clean, put}
use Rattle.admin_routes.proofs.table.fill.Given as goal

-- what is put so far, with what is left, is the whole
abbrev pub invariant-loop-pattern : goal.invariant-loop-pattern
invariant-loop-pattern l =
    (is_clean (drop l.pattern-index l.entries) l.router ≡ true)
    × (put (drop l.pattern-index l.entries) l.router ≡ put l.entries [])
