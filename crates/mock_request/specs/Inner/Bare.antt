-- How a block of bytes is a request without its headers: the method, the URL, and then the body.
use Rattle.std.specs.Prelude.{ℕ, ◌≤◌, List, length, take, drop, slice_range}

pub record Bare : Type 0 where
  pub method : List ℕ
  pub url : List ℕ
  pub body : List ℕ

-- the parts of a block where the URL and the body begin at these places
abbrev pub bare_in : ℕ → ℕ → List ℕ → Bare
bare_in url_start body_start bytes = record {
  method = take url_start bytes;
  url = slice_range bytes url_start body_start;
  body = drop body_start bytes;
}

-- the places are in the block, in this order
pub record IsCut (url_start body_start : ℕ) (bytes : List ℕ) : Type 0 where
  pub order : url_start ≤ body_start
  pub within : body_start ≤ length bytes
