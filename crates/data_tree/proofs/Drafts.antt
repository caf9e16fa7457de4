-- A text that began to grow can be cut where it began.
use Rattle.std.proofs.Common.{ℕ, ◌≤◌, Bool, true, false, if◌then◌else◌, List, ◌++◌, length, take, sym}
use Rattle.std.proofs.Common.{subst, arith, length-append, IsUtf8}
use Rattle.std.proofs.lemmas.List.{take-append-le}

abbrev pub BeginsText : ℕ → List ℕ → Type 0
BeginsText start bytes = (start ≤ length bytes) × IsUtf8 (take start bytes)

pub begins_more : (grows : Bool) (start : ℕ) (bytes piece : List ℕ) → BeginsText start bytes
    → BeginsText start (if grows then bytes ++ piece else bytes)
begins_more false start bytes piece begun = begun
begins_more true start bytes piece begun = (
  omega (arith, length-append bytes piece, begun.0),
  subst IsUtf8 (sym (take-append-le start bytes piece begun.0)) begun.1,
)
