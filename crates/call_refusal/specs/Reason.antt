-- The one line that says why an admin call is refused.
use Rattle.std.specs.Prelude.{ℕ, List, ◌≤◌, ◌<◌, length, All, Bool, ◌&&◌, ◌||◌, if◌then◌else◌, nat_lt, filter, map, take}

-- a visible character of ASCII, or a space
abbrev pub IsVisible : ℕ → Type 0
IsVisible byte = (32 ≤ byte) × (byte ≤ 126)

abbrev pub AreVisible : List ℕ → Type 0
AreVisible bytes = All IsVisible bytes

-- it says something, in at most 500 visible characters of ASCII and spaces, which the value of a header may have (RFC 9110,
-- section 5.5)
pub record IsReason (reason : List ℕ) : Type 0 where
  pub said : 0 < length reason
  pub short : length reason ≤ 500
  pub visible : AreVisible reason

-- the first byte of a character of UTF-8 (RFC 3629, section 3)
abbrev pub begins_character : ℕ → Bool
begins_character byte = nat_lt byte 128 || nat_lt 191 byte

-- a visible character or a space as it is, and a question mark for another
abbrev pub shown : ℕ → ℕ
shown byte = if nat_lt 31 byte && nat_lt byte 127 then byte else 63

-- as much of a text as a reason may have
abbrev pub reason_of : List ℕ → List ℕ
reason_of text = take 500 (map shown (filter begins_character text))
