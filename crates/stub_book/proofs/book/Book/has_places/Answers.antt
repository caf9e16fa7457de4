use Rattle.std.proofs.Common.{◌≡◌, ◌≤◌, ◌<◌, ◌+◌, ◌∙◌, List, length, ap, subst, arith}
use Rattle.request_journal.specs.Live.{live}
use Rattle.request_journal.specs.Past.{Past, last_number, with_event}
use Rattle.request_journal.specs.declared.event.Event.TheVariants as event
use Rattle.request_journal.specs.declared.limits.TheConstants.{LIVE_LIMIT}
use Rattle.request_journal.specs.declared.mapping.Mapping.{Mapping}
use Rattle.stub_book.specs.declared.error.BookError.{BookError}
use Rattle.stub_book.proofs.StopLemmas.{many_stopped}
use Rattle.stub_book.proofs.book.Book.has_places.Goals as goal

pub returns-then-len_with-gt-LIVE_LIMIT-clause-why : goal.returns-then-len_with-gt-LIVE_LIMIT-clause-why
returns-then-len_with-gt-LIVE_LIMIT-clause-why c =
    let past = c.self.inside.history.past in
    let stubs = c.args.stubs.now in
    let many : c.len_with.result
    ≡ length (live (with_event past (event.StopRecording stubs.mappings stubs.skipped))) =
    c.len_with.ensures (last_number past + 1) stubs.skipped
    ∙ many_stopped past c.self.inside.store c.as_slice.result.now stubs.skipped
    c.self.invariant.same_defaults c.self.invariant.same_live
    ∙ ap (λ (ms : List Mapping). length (live (with_event past (event.StopRecording ms stubs.skipped))))
    (c.as_slice.ensures.value ∙ c.requires) in (
      ap (λ (e : BookError). e.code) c.from.ensures,
      subst (λ (p : Past). LIVE_LIMIT
          < length (live (with_event p (event.StopRecording stubs.mappings stubs.skipped))))
          c.self.view_is (omega (arith, many)),
    )

pub returns-clause-ok : goal.returns-clause-ok
returns-clause-ok c =
    let past = c.self.inside.history.past in
    let stubs = c.args.stubs.now in
    let many : c.len_with.result
    ≡ length (live (with_event past (event.StopRecording stubs.mappings stubs.skipped))) =
    c.len_with.ensures (last_number past + 1) stubs.skipped
    ∙ many_stopped past c.self.inside.store c.as_slice.result.now stubs.skipped
    c.self.invariant.same_defaults c.self.invariant.same_live
    ∙ ap (λ (ms : List Mapping). length (live (with_event past (event.StopRecording ms stubs.skipped))))
    (c.as_slice.ensures.value ∙ c.requires) in
    subst (λ (p : Past). length (live (with_event p (event.StopRecording stubs.mappings stubs.skipped)))
    ≤ LIVE_LIMIT)
    c.self.view_is (omega (arith, many))
