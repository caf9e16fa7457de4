-- Why calls are refused.
use Rattle.std.proofs.Common.{◌≡◌, inl, inr}
use Rattle.error_code.specs.declared.error_code.ErrorCode.{ErrorCode}
use Rattle.error_code.specs.declared.error_code.ErrorCode.TheVariants as code
use Rattle.request_journal.specs.Past.{Past}
use Rattle.request_journal.specs.declared.input.BookInput.{BookInput}
use Rattle.stub_book.specs.Refusals.{IsFull, IsServeRefusal, IsOwnReason, IsTooMany, IsRefusal}

module _ (past : Past) (asked : BookInput) (reason : ErrorCode) where
  -- no number is left
  pub refused_full : (reason ≡ code.HistoryFull) × IsFull past → IsRefusal past asked reason
  refused_full h = inl (inl h)

  -- memory ran out
  pub refused_memory : ¬ (IsFull past) → reason ≡ code.OutOfMemory → IsRefusal past asked reason
  refused_memory room is = inl (inr (is, room))

  -- one of both
  pub refused_serve : IsServeRefusal past reason → IsRefusal past asked reason
  refused_serve h = inl h

  -- the call's own reason
  pub refused_own : ¬ (IsFull past) → IsOwnReason past asked reason → IsRefusal past asked reason
  refused_own room own = inr (room, inl own)

  -- too many mappings
  pub refused_many : ¬ (IsFull past) → reason ≡ code.TooManyMappings → IsTooMany past asked
      → IsRefusal past asked reason
  refused_many room is many = inr (room, inr (is, many))
