-- What is in the place of a name in a path.
use Rattle.std.specs.Prelude.{ℕ, List}
use Rattle.std.specs.Str.Lossy.{utf8_lossy}
use Rattle.percent_encoding.specs.Percent.{percent_decode}

-- its escapes (`%2F`, RFC 3986, section 2.1) are decoded, and bytes that aren't UTF-8 are read with U+FFFD
-- in their place
abbrev pub decoded : List ℕ → List ℕ
decoded name = utf8_lossy (percent_decode name)
