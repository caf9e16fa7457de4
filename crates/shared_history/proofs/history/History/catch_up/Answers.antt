use Rattle.std.proofs.Common.{◌≤◌, ap, arith, length, ◌∙◌, refl}
use mathlib.Core.List.{IsPrefix}
use Rattle.shared_history.specs.Inner.Lines.{entries_of}
use Rattle.shared_history.specs.Seal.{seal}
use Rattle.shared_history.proofs.Growing.{caught_up}
use Rattle.shared_history.proofs.Prefixes.{prefix_same}
use Rattle.shared_history.proofs.history.History.catch_up.Goals.{then-self-seat, else-self-seat}
use Rattle.shared_history.proofs.history.History.catch_up.Goals as goal

pub invariant_of-seat : goal.invariant_of-seat
invariant_of-seat g c =
    let both = c.learn.new.self.log in
    let whole : IsPrefix c.self.inside.whole.seen.log both =
    prefix_same (ap (λ s. s.log) c.again-seen.ensures) c.learn.ensures.2 in
    let enough : c.seat.inside.holder.count ≤ c.self.inside.whole.count =
    elim c.if-self-seat.branch [
      | then-self-seat w ↦ absurd w.stuck.ensures
      | else-self-seat w ↦ w.if-self-seat.false
    ] in
    let less : length c.seat.inside.holder.seen.log ≤ length c.self.inside.whole.seen.log =
    omega (arith, c.self.invariant.front.counted, c.seat.invariant.front.counted, enough) in
    let found =
    caught_up g.C.Rule.may c.seat.inside.holder.seen.log c.self.inside.whole.seen.log both c.look.new.seen.log
    c.seat.inside.holder.number c.seat.inside.holder.turn.nib.key c.seat.invariant.has c.self.invariant.front.legal
    whole c.learn.ensures.3 c.look.ensures.begins c.look.ensures.unused less in
    rw (c.again.ensures, c.look.ensures.nib)
    (record {
      front = c.self.invariant.front;
      pen_name = c.look.ensures.pen ∙ c.seat.invariant.pen_name;
      right = c.seat.invariant.right;
      has = found.0;
    })

pub returns-clause-catches_up : goal.returns-clause-catches_up
returns-clause-catches_up g c =
    let both = c.learn.new.self.log in
    let whole : IsPrefix c.self.inside.whole.seen.log both =
    prefix_same (ap (λ s. s.log) c.again-seen.ensures) c.learn.ensures.2 in
    let enough : c.seat.inside.holder.count ≤ c.self.inside.whole.count =
    elim c.if-self-seat.branch [
      | then-self-seat w ↦ absurd w.stuck.ensures
      | else-self-seat w ↦ w.if-self-seat.false
    ] in
    let less : length c.seat.inside.holder.seen.log ≤ length c.self.inside.whole.seen.log =
    omega (arith, c.self.invariant.front.counted, c.seat.invariant.front.counted, enough) in
    let found =
    caught_up g.C.Rule.may c.seat.inside.holder.seen.log c.self.inside.whole.seen.log both c.look.new.seen.log
    c.seat.inside.holder.number c.seat.inside.holder.turn.nib.key c.seat.invariant.has c.self.invariant.front.legal
    whole c.learn.ensures.3 c.look.ensures.begins c.look.ensures.unused less in
    rw (← c.self.view_is, ← c.seat.view_is, c.again.ensures) (record { before = found.1; number = refl; seen = refl })

pub returns-clause-seen : goal.returns-clause-seen
returns-clause-seen g c =
    rw (← c.self.view_is)
    (seal g.C.Rule.may g.J.Naming.book (entries_of c.self.inside.whole.seen.log) c.self.invariant.front.legal.history)
