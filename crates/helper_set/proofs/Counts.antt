-- Nothing prints as the empty text.
use Rattle.std.proofs.Common.{◌≡◌, [], length, ap}
use Rattle.std.specs.Str.{chars}
use Rattle.std.proofs.lemmas.Str.{chars-nil}

pub nothing_has_no_character : length (chars []) ≡ 0
nothing_has_no_character = ap length chars-nil
