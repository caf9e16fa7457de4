-- The segments of a path.
use Rattle.std.specs.Prelude.{◌≢◌, ℕ, List, [], All}

abbrev pub slash : ℕ
slash = 47

-- a segment of a path: it isn't empty and has no slash
pub record IsSegment (text : List ℕ) : Type 0 where
  pub some : text ≢ []
  pub no_slash : All (λ b. b ≢ slash) text
