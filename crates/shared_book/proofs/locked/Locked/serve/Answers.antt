use Rattle.std.proofs.Common.{refl, subst, sym}
use Rattle.request_journal.specs.Past.{Past}
use Rattle.shared_book.specs.Inner.Kept.{IsKept}
use Rattle.shared_book.proofs.KeptLemmas.{in_past, kept_looked, sees_all, served_changes}
use Rattle.stub_book.specs.Refusals.{IsServeRefusal}
use Rattle.shared_book.proofs.locked.Locked.serve.Goals as goal

pub enter-requires-clause-grown : goal.enter-requires-clause-grown
enter-requires-clause-grown g c = (
  c.self.inside.book,
  c.self.invariant.past_of,
  served_changes c.self.inside.book c.serve_read.new.self c.args.request
      (record { event = c.in-Ok.event; replaced = 0 }) c.in-Ok.ensures.ok.0 c.in-Ok.ensures.ok.1 refl,
)

pub returns-in-Err-clause-why : goal.returns-in-Err-clause-why
returns-in-Err-clause-why g c =
    in_past g.L.Origin.origin c.self.inside.book c.self.inside.history c.args.place.now c.look.new.seat
    (λ (past : Past). IsServeRefusal past c.in-Err.error.code) c.self.invariant.past_of
    c.look.ensures.looks c.in-Err.ensures.why

pub invariant_of-self-in-Err : goal.invariant_of-self-in-Err
invariant_of-self-in-Err g c =
    subst (λ (book : Past). IsKept g.L.Origin.origin g.L.Ledger.parts book c.look.new.self c.self.inside.entries.total
    c.self.inside.parts c.self.inside.start) (sym c.in-Err.ensures.err)
    (kept_looked g.L.Origin.origin g.L.Ledger.parts c.self.inside.book c.self.inside.history c.look.new.self
    c.self.inside.entries.total c.self.inside.parts c.self.inside.start c.args.place.now c.look.new.seat
    c.self.invariant c.look.ensures.looks c.look.ensures.whole c.look.ensures.legal)

pub returns-in-Err-clause-seen : goal.returns-in-Err-clause-seen
returns-in-Err-clause-seen g c =
    sees_all g.L.Origin.origin c.self.inside.history c.look.new.self c.args.place.now c.look.new.seat
    c.self.invariant.lawful c.look.ensures.looks c.look.ensures.whole c.look.ensures.legal c.look.ensures.seen
