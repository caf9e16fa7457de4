-- Why a call on a shared book is refused, and what that leaves of the seat: memory ran out before the lock was taken,
-- and the seat is as before; or the seat has seen all of the history, as was entered there, and the book has that
-- reason in the past after it.
use Rattle.std.specs.Prelude.{◌≡◌, ◌⊎◌}
use Rattle.error_code.specs.declared.error_code.ErrorCode.{ErrorCode}
use Rattle.error_code.specs.declared.error_code.ErrorCode.TheVariants as code
use Rattle.logbook.specs.Pages.{Book as HistoryName}
use Rattle.request_journal.specs.Past.{Past}
use Rattle.request_journal.specs.declared.input.BookInput.{BookInput}
use Rattle.shared_book.specs.Held.{Held}
use Rattle.shared_book.specs.Reached.{InPastOf}
use Rattle.shared_book.specs.Seen.{HasCaughtUp}
use Rattle.stub_book.specs.Refusals.{IsRefusal, IsServeRefusal}

abbrev pub IsServeRefused : Past → HistoryName → Held → Held → ErrorCode → Type 0
IsServeRefused origin name old new reason =
    ((reason ≡ code.OutOfMemory) × (new ≡ old))
    ⊎ (HasCaughtUp origin name old new × InPastOf origin new.seen (λ past. IsServeRefusal past reason))

abbrev pub IsRefused : Past → HistoryName → Held → Held → BookInput → ErrorCode → Type 0
IsRefused origin name old new asked reason =
    ((reason ≡ code.OutOfMemory) × (new ≡ old))
    ⊎ (HasCaughtUp origin name old new × InPastOf origin new.seen (λ past. IsRefusal past asked reason))
