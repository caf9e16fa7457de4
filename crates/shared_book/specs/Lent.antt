-- What a call that is accepted leaves of the seat, and what a call lends: the receipt, which is then the last that the
-- seat's own line holds; or, where it was refused, what that leaves.
use Rattle.std.specs.Prelude.{MatchResult, Result}
use Rattle.std.specs.Borrow.{Bor}
use Rattle.logbook.specs.Pages.{Book as HistoryName}
use Rattle.mock_request.specs.Request.{Request}
use Rattle.request_journal.specs.Input.{IsAsked}
use Rattle.request_journal.specs.Past.{Past}
use Rattle.request_journal.specs.declared.event.Event.{Event}
use Rattle.request_journal.specs.declared.input.BookInput.{BookInput}
use Rattle.shared_book.specs.Held.{Held, Gained}
use Rattle.shared_book.specs.Refused.{IsRefused, IsServeRefused}
use Rattle.shared_book.specs.Seen.{Enters}
use Rattle.shared_book.specs.declared.receipt.Receipt.{Receipt}
use Rattle.stub_book.specs.Growth.{IsServed}
use Rattle.stub_book.specs.declared.error.BookError.{BookError}

-- what was asked for is the seat's next call in the one history, and the seat has gained its receipt
pub record Gains (origin : Past) (name : HistoryName) (old new : Held) (asked : Event → Type 0) (receipt : Receipt)
    : Type 0 where
  pub gained : Gained origin old receipt new
  pub asked_for : asked receipt.event
  pub entered : Enters origin name old new receipt

-- that of a request that was served
abbrev pub LendsServed : Past → HistoryName → Held → Held → Request → Result (Bor Receipt) BookError → Type 0
LendsServed origin name old new request result =
    MatchResult result
    (λ lent. Gains origin name old new (IsServed request) lent.now)
    (λ error. IsServeRefused origin name old new error.code)

-- that of a change that was made
abbrev pub LendsApplied : Past → HistoryName → Held → Held → BookInput → Result (Bor Receipt) BookError → Type 0
LendsApplied origin name old new asked result =
    MatchResult result
    (λ lent. Gains origin name old new (IsAsked asked) lent.now)
    (λ error. IsRefused origin name old new asked error.code)
