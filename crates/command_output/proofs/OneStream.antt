-- A command that ends so leaves one of both streams as it was.
use Rattle.std.proofs.Common.{◌≡◌, ◌⊎◌, ℕ, List, Option, inl, inr, arith}
use Rattle.command_output.specs.Ends.{Ends, EndsOnFiles}
use Rattle.command_output.specs.Output.{Followed, WritesOneStream}
use Rattle.command_output.specs.declared.error.CommandError.{CommandError}

module _ {O E : Type 0} (out out' : O) (err err' : E) (status : ℕ) where
  of_output : status ≡ 0 ⊎ status ≡ 1 → err' ≡ err → WritesOneStream out out' err err' status
  of_output either same = record {
    range = elim either [ inl zero ↦ omega arith | inr one ↦ omega arith ];
    success = λ _. same;
    invalid = λ two. elim either [ inl zero ↦ absurd (omega arith) | inr one ↦ absurd (omega arith) ];
    one_of_both = inr same;
  }

  -- an error, invalid options, or a file that can't be read
  pub of_error : status ≡ 1 ⊎ status ≡ 2 → out' ≡ out → WritesOneStream out out' err err' status
  of_error either same = record {
    range = elim either [ inl one ↦ omega arith | inr two ↦ omega arith ];
    success = λ zero. elim either [ inl one ↦ absurd (omega arith) | inr two ↦ absurd (omega arith) ];
    invalid = λ _. same;
    one_of_both = inl same;
  }

module _ {O E : Type 0} (out_holds : O → Option (List ℕ)) (err_holds : E → Option (List ℕ)) where
  pub of_end : (IsText : List ℕ → ℕ → Type 0) (IsError : CommandError → Type 0)
      → ((text : List ℕ) (status : ℕ) → IsText text status → status ≡ 0 ⊎ status ≡ 1)
      → (out out' : O) (err err' : E) (status : ℕ)
      → Ends out_holds err_holds IsText IsError out out' err err' status → WritesOneStream out out' err err' status
  of_end IsText IsError range out out' err err' status (inl (text, is, written, same)) =
      of_output out out' err err' status (range text status is) same
  of_end IsText IsError range out out' err err' status (inr (inl (error, is, one, reported, same))) =
      of_error out out' err err' status (inl one) same
  of_end IsText IsError range out out' err err' status (inr (inr (text, whole, is, one, part, same))) =
      of_output out out' err err' status (inr one) same

  pub of_files : (listed : Option (List (List ℕ))) (known : List ℕ → Option (List ℕ)) (path : List ℕ)
      (ends : List (List ℕ) → O → O → E → E → ℕ → Type 0) (out out' : O) (err err' : E) (status : ℕ)
      → ((documents : List (List ℕ)) → ends documents out out' err err' status
      → WritesOneStream out out' err err' status)
      → EndsOnFiles out_holds err_holds listed known path ends out out' err err' status
      → WritesOneStream out out' err err' status
  of_files listed known path ends out out' err err' status each (inl (documents, are, ended)) = each documents ended
  of_files listed known path ends out out' err err' status each (inr (error, is, one, reported, same)) =
      of_error out out' err err' status (inl one) same

  -- the same, where lines may follow on standard error
  pub of_followed : (listed : Option (List (List ℕ))) (known : List ℕ → Option (List ℕ)) (path : List ℕ)
      (ends : List (List ℕ) → O → O → E → E → ℕ → Type 0) (out out' : O) (err err' : E) (status : ℕ)
      → ((documents : List (List ℕ)) (middle : E) → ends documents out out' err middle status
      → WritesOneStream out out' err middle status)
      → Followed err_holds (λ e. EndsOnFiles out_holds err_holds listed known path ends out out' err e status) err'
      → Followed err_holds (λ e. WritesOneStream out out' err e status) err'
  of_followed listed known path ends out out' err err' status each (middle, ended, more) =
      (middle, of_files listed known path ends out out' err middle status (λ documents. each documents middle) ended, more)
