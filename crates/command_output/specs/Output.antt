-- What a writer holds after a write that may fail, where it is known what the writer holds.
use Rattle.std.specs.Prelude.{◌≡◌, ◌≢◌, ◌≤◌, ◌⊎◌, ℕ, List, [], ◌++◌, Option, Result, MatchResult}
use Rattle.std.specs.Io.KnownBytes.{Appends}

-- a front part of the bytes was written, and not all of them
pub record AppendsPart (old new : Option (List ℕ)) (bytes : List ℕ) : Type 0 where
  pub front : List ℕ
  pub rest : List ℕ
  pub split : bytes ≡ front ++ rest
  pub left : rest ≢ []
  pub written : Appends old new front

-- all of the bytes, or a front part where the writer refused the rest
abbrev pub AppendsFront : Option (List ℕ) → Option (List ℕ) → List ℕ → Type 0
AppendsFront old new bytes = Appends old new bytes ⊎ AppendsPart old new bytes

-- all of the bytes at `Ok`, and not all of them at `Err`
abbrev pub Writes : {T E : Type 0} → Result T E → Option (List ℕ) → Option (List ℕ) → List ℕ → Type 0
Writes r old new bytes = MatchResult r (λ _. Appends old new bytes) (λ _. AppendsPart old new bytes)

-- more was written, whatever it is
abbrev pub Continues : Option (List ℕ) → Option (List ℕ) → Type 0
Continues old new = (bytes : List ℕ) × Appends old new bytes

-- What a writer is after something was done to it, and more was written then: as lines that explain an error follow its
-- first line.
abbrev pub Followed : {W : Type 0} → (W → Option (List ℕ)) → (W → Type 0) → W → Type 0
Followed {W} holds done new = (middle : W) × done middle × Continues (holds middle) (holds new)

-- The exit status of a command, and that it left standard output or standard error as it was: standard error where it
-- succeeded, standard output where the arguments were invalid.
pub record WritesOneStream {O E : Type 0} (out out' : O) (err err' : E) (status : ℕ) : Type 0 where
  pub range : status ≤ 2
  pub success : status ≡ 0 → err' ≡ err
  pub invalid : status ≡ 2 → out' ≡ out
  pub one_of_both : (out' ≡ out) ⊎ (err' ≡ err)
