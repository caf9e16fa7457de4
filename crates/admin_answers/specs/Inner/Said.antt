-- What is answered, or not, of what was read, whatever was asked for and whatever past it was read of.
use Rattle.std.specs.Prelude.{◌≡◌, ◌⊎◌, ℕ}
use Rattle.admin_answers.specs.Answers.{IsReadReply, HasNoReadReply}
use Rattle.error_code.specs.declared.error_code.ErrorCode.{ErrorCode}
use Rattle.error_code.specs.declared.error_code.ErrorCode.TheVariants as code
use Rattle.mapping_model.specs.declared.reply.Reply.{Reply}
use Rattle.request_journal.specs.Past.{Past, last_number}
use Rattle.request_journal.specs.declared.read.BookRead.{BookRead}
use Rattle.shared_book.specs.Reading.{IsReadAnswer}
use Rattle.shared_book.specs.declared.book_read.ReadAnswer.{ReadAnswer}

-- where this is what a past with this last number says
abbrev pub IsSaid : ℕ → ReadAnswer → Reply → Type 0
IsSaid number found reply =
    (past : Past) (asked : BookRead) → IsReadAnswer past asked found → number ≡ last_number past
    → IsReadReply asked reply past

-- memory ran out, or the past says why there is no answer
abbrev pub IsUnsaid : ReadAnswer → ErrorCode → Type 0
IsUnsaid found reason =
    (reason ≡ code.OutOfMemory)
    ⊎ ((past : Past) (asked : BookRead) → IsReadAnswer past asked found → HasNoReadReply asked reason past)
