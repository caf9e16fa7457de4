use Rattle.std.proofs.Common.{◌≡◌, inl, inr, length, arith, rules}
use Rattle.request_journal.specs.Live.{live}
use Rattle.request_journal.specs.Past.{opened}
use Rattle.stub_book.proofs.OpenLemmas.{fits_new, many_opened}
use Rattle.stub_book.proofs.book.Book.new.Goals as goal

pub returns-then-len-gt-LIVE_LIMIT-clause-why : goal.returns-then-len-gt-LIVE_LIMIT-clause-why
returns-then-len-gt-LIVE_LIMIT-clause-why c =
    let store = c.in_ok-store.store in
    let many : length store.live ≡ length (live (opened c.args.opening c.args.defaults.items)) =
    many_opened c.args.opening c.args.defaults.items store c.in_ok-store.ensures.defaults c.in_ok-store.ensures.live in
    inr (omega arith, inl (search rules, omega (arith, many)))

pub invariant_of-result : goal.invariant_of-result
invariant_of-result c =
    fits_new c.open-2.result.past c.new.result c.args.opening c.in_ok-defaults.defaults c.in_ok-store.store
    c.open-2.ensures c.new.ensures.empty c.in_ok-defaults.ensures c.in_ok-store.ensures.live (omega arith) (omega arith)
