use Rattle.std.proofs.Common.{◌≡◌, ◌∙◌, arith, length, subst}
use Rattle.std.proofs.lemmas.List.Sorted.{length_permutation}
use Rattle.request_journal.specs.Live.{live}
use Rattle.request_journal.specs.Past.{Past}
use Rattle.stub_book.proofs.book.Book.live_count.Goals as goal

pub returns-clause-count : goal.returns-clause-count
returns-clause-count c =
    let past = c.self.inside.history.past in
    let store = c.self.inside.store in
    subst (λ (p : Past). c.len.result ≡ length (live p)) c.self.view_is
    (c.len.ensures ∙ length_permutation (live past) store.live c.self.invariant.same_live)

pub returns-clause-few : goal.returns-clause-few
returns-clause-few c =
    let past = c.self.inside.history.past in
    let store = c.self.inside.store in
    let many : c.len.result ≡ length (live past) =
    c.len.ensures ∙ length_permutation (live past) store.live c.self.invariant.same_live in
    omega (arith, many, c.self.invariant.few_live)
