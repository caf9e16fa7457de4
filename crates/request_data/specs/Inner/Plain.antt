-- Bytes of a form that stand for themselves, or for a space.
use Rattle.std.specs.Prelude.{◌≢◌, ◌<◌, ℕ}
use Rattle.percent_encoding.specs.Percent.{percent_sign}

-- an ASCII character that begins no escape
abbrev pub IsPlain : ℕ → Type 0
IsPlain b = (b < 128) × (b ≢ percent_sign)
