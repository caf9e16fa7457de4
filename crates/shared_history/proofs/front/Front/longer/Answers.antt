use Rattle.std.proofs.Common.{◌≤◌, ap, arith, length}
use mathlib.Core.List.{IsPrefix}
use Rattle.shared_history.proofs.Prefixes.{prefix_same, prefix_shorter}
use Rattle.shared_history.proofs.Lines.{prefix_entries}
use Rattle.shared_history.proofs.front.Front.longer.Goals as goal

pub returns-then-self-other-clause-this : goal.returns-then-self-other-clause-this
returns-then-self-other-clause-this g c =
    let both = c.learn.new.self.log in
    let this : IsPrefix c.self.inside.seen.log both =
    prefix_same (ap (λ s. s.log) c.again-both.ensures) c.learn.ensures.2 in
    let less : length c.self.inside.seen.log ≤ length c.other.inside.seen.log =
    omega (arith, c.self.invariant.counted, c.other.invariant.counted) in
    rw (c.again.ensures.front, ← c.self.view_is, ← c.other.view_is)
    (prefix_entries c.self.inside.seen.log c.other.inside.seen.log
    (prefix_shorter c.self.inside.seen.log c.other.inside.seen.log both this c.learn.ensures.3 less))

pub returns-clause-that : goal.returns-clause-that
returns-clause-that g c =
    let both = c.learn.new.self.log in
    let this : IsPrefix c.self.inside.seen.log both =
    prefix_same (ap (λ s. s.log) c.again-both.ensures) c.learn.ensures.2 in
    let less : length c.other.inside.seen.log ≤ length c.self.inside.seen.log =
    omega (arith, c.self.invariant.counted, c.other.invariant.counted) in
    rw (c.again-else-self-other.ensures.front, ← c.self.view_is, ← c.other.view_is)
    (prefix_entries c.other.inside.seen.log c.self.inside.seen.log
    (prefix_shorter c.other.inside.seen.log c.self.inside.seen.log both c.learn.ensures.3 this less))
