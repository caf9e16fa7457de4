use Rattle.shared_book.proofs.KeptLemmas.{kept_opened}
use Rattle.shared_book.proofs.locked.Locked.new.Goals as goal

pub invariant_of-result : goal.invariant_of-result
invariant_of-result g c =
    kept_opened g.L.Origin.origin g.L.Ledger.parts c.args.book c.args.history c.args.entries.total c.args.parts
    c.event_count-start.result c.requires.origin c.requires.opened c.requires.empty c.requires.parts c.requires.some
    c.event_count-start.ensures.value
