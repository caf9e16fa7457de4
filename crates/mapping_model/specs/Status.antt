-- Which statuses a response may have (RFC 9110, section 15, without the interim 1xx).
use Rattle.std.specs.Prelude.{ℕ, ◌≤◌}

abbrev pub IsStatus : ℕ → Type 0
IsStatus code = (200 ≤ code) × (code ≤ 599)
