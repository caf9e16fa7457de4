use Rattle.std.proofs.Common.{◌≤◌, ap, arith, length}
use mathlib.Core.List.{IsPrefix}
use Rattle.shared_history.proofs.Lines.{prefix_entries}
use Rattle.shared_history.proofs.Prefixes.{prefix_same, prefix_shorter}
use Rattle.shared_history.proofs.history.History.covers.Goals as goal

pub returns-clause-begins : goal.returns-clause-begins
returns-clause-begins g c =
    let both = c.learn.new.self.log in
    let whole : IsPrefix c.self.inside.whole.seen.log both =
    prefix_same (ap (λ s. s.log) c.again-both.ensures) c.learn.ensures.2 in
    let less : length c.front.inside.seen.log ≤ length c.self.inside.whole.seen.log =
    omega (arith, c.self.invariant.front.counted, c.front.invariant.counted, c.if-self-front.false) in
    rw (← c.self.view_is, ← c.front.view_is)
    (prefix_entries c.front.inside.seen.log c.self.inside.whole.seen.log
    (prefix_shorter c.front.inside.seen.log c.self.inside.whole.seen.log both c.learn.ensures.3 whole less))
