-- What `mock serve` writes.
use Rattle.std.proofs.Common.{ℕ, List, Option, inl, inr}
use Rattle.mock.specs.Served.{ServesBook}
use Rattle.request_journal.specs.Past.{Past}

module _ {O E : Type 0} (out_holds : O → Option (List ℕ)) (err_holds : E → Option (List ℕ))
    (IsOrigin IsOther : Past → Type 0) (more : (past : Past) → IsOrigin past → IsOther past) where
  -- the book that is served is such a one, too
  pub serves_as : (out out' : O) (err' : E) (status : ℕ) → ServesBook out_holds err_holds IsOrigin out out' err' status
      → ServesBook out_holds err_holds IsOther out out' err' status
  serves_as out out' err' status (inl nothing) = inl nothing
  serves_as out out' err' status (inr served) =
      inr (served.0, more served.0 served.1, served.2, served.3, served.4, served.5)
