use Rattle.std.proofs.Common.{ap, sym, ◌∙◌, arith, length, length-append}
use mathlib.Core.List.{IsPrefix}
use Rattle.shared_history.specs.Inner.Drafts.{deed_of}
use Rattle.shared_history.proofs.Growing.{may_add, written}
use Rattle.shared_history.proofs.Prefixes.{prefix_same, prefix_length}
use Rattle.shared_history.proofs.history.History.write_as.Goals as goal

pub add-whole-requires : goal.add-whole-requires
add-whole-requires g c =
    let all = c.learn.new.self.log in
    let whole = c.args.whole.now.seen.log in
    let begins : IsPrefix whole all = prefix_same (ap (λ s. s.log) c.again-all.ensures) c.learn.ensures.2 in
    let book = c.learn.ensures.0 ∙ (ap (λ s. s.book) c.again-all.ensures ∙ c.requires.whole.name) in
    record {
      name = rw book c.requires.head;
      pen = c.requires.seat.pen_name ∙ sym book;
      right = c.requires.seat.right;
      long = omega (arith, prefix_length whole all begins, c.requires.whole.counted);
      allowed =
          may_add g.C.Rule.may whole c.args.seat.now.seen.log all c.args.whole.now.count c.args.seat.now.number
          c.args.seat.now.turn.nib.key c.draw-next.result.nib.key c.args.child.now.nib.key (deed_of c.args.ask)
          c.requires.whole.counted c.requires.whole.legal c.requires.seat.has begins c.learn.ensures.3
          c.requires.allowed;
    }

pub returns-clause-written : goal.returns-clause-written
returns-clause-written g c =
    let all = c.learn.new.self.log in
    let whole = c.args.whole.now.seen.log in
    let begins : IsPrefix whole all = prefix_same (ap (λ s. s.log) c.again-all.ensures) c.learn.ensures.2 in
    written g.C.Rule.may c.args.seat.now.seen.log whole all c.add-whole.new.seen.log c.args.whole.now.count
    c.args.seat.now.number c.args.seat.now.turn.nib.key c.draw-next.result.nib.key c.args.child.now.nib.key
    (deed_of c.args.ask) c.requires.whole.counted c.requires.whole.legal c.requires.seat.has begins
    c.learn.ensures.3 c.requires.allowed c.add-whole.ensures.whole c.add-whole.ensures.unused
    c.add-whole.ensures.added

pub returns-clause-whole : goal.returns-clause-whole
returns-clause-whole g c =
    let a = c.add-whole.ensures in
    let all = c.learn.new.self.log in
    record {
      name = a.book ∙ (c.learn.ensures.0 ∙ (ap (λ s. s.book) c.again-all.ensures ∙ c.requires.whole.name));
      counted = omega (arith, a.count, a.whole, ap length a.added, length-append all);
      legal = (returns-clause-written g c).legal;
    }

pub returns-clause-seat : goal.returns-clause-seat
returns-clause-seat g c =
    λ stays. rw c.again.ensures
    (record {
      front = returns-clause-whole g c;
      pen_name = c.draw-next.ensures.book ∙ c.requires.whole.name;
      right = c.draw-next.ensures.right;
      has = (returns-clause-written g c).has_next stays;
    })
