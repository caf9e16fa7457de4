-- What a change that was refused leaves.
use Rattle.std.proofs.Common.{◌≡◌, inl, sym, ap, subst}
use Rattle.admin_answers.specs.Answers.{IsNotChanged}
use Rattle.admin_answers.specs.declared.error.SharedError.{SharedError}
use Rattle.logbook.specs.Pages.{Book as HistoryName}
use Rattle.request_journal.specs.Past.{Past}
use Rattle.request_journal.specs.declared.input.BookInput.{BookInput}
use Rattle.shared_book.specs.Held.{Held}
use Rattle.shared_book.specs.Refused.{IsRefused}
use Rattle.stub_book.specs.declared.error.BookError.{BookError}

pub not_changed
    : (origin : Past) (name : HistoryName) (old new : Held) (asked : BookInput) (lower : BookError) (error : SharedError)
    → IsRefused origin name old new asked lower.code → error ≡ record { code = lower.code }
    → IsNotChanged origin name old new asked error.code
not_changed origin name old new asked lower error why e =
    inl (subst (IsRefused origin name old new asked) (sym (ap (λ x. x.code) e)) why)
