use Rattle.std.proofs.Common.{subst}
use Rattle.std.proofs.lemmas.Result.{IfOk-weaker}
use Rattle.mapping_store.proofs.PastLemmas.{listed_in_past}
use Rattle.mapping_store.specs.Stored.{IsNewestFirst}
use Rattle.request_journal.specs.Live.{live}
use Rattle.request_journal.specs.Past.{Past}
use Rattle.stub_book.proofs.book.Book.mappings.Goals as goal

pub returns : goal.returns
returns c =
    let past = c.self.inside.history.past in
    let store = c.self.inside.store in
    IfOk-weaker c.newest_first.result
    (λ listed. IsNewestFirst store.live listed.items)
    (λ listed. IsNewestFirst (live c.args.self.now) listed.items)
    (λ listed h. subst (λ (p : Past). IsNewestFirst (live p) listed.items) c.self.view_is
    (listed_in_past past store.live listed.items c.self.invariant.same_live h))
    c.newest_first.ensures
