-- The room for code that is left where some of it is taken.
use Rattle.std.specs.Prelude.{◌≡◌, ℕ, ◌+◌, ◌<◌, Option, Some, None}

-- that much of the room is taken, which leaves the rest; none where there isn't as much
abbrev pub TakesRoom : ℕ → ℕ → Option ℕ → Type 0
TakesRoom room taken None = room < taken
TakesRoom room taken (Some rest) = rest + taken ≡ room
