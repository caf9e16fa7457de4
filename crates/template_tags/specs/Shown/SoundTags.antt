-- What is always so of what a tag says, where no text in the tag is longer than a limit.
use Rattle.std.specs.Prelude.{◌≡◌, ℕ, ◌<◌, false, List, [], ◌∷◌, length}
use Rattle.template_tags.specs.Levels.{loops_open}
use Rattle.template_tags.specs.Sound.{IsSoundDatum, IsSoundValue}
use Rattle.template_tags.specs.Tags.{Tag, print, open_if, open_each, begin_else, close}
use Rattle.template_tags.specs.declared.level.TheConstants.{BLOCK_LIMIT, LOOP_LIMIT}
use Rattle.template_tags.specs.declared.level.Level.{Level}

abbrev pub HasNoElse : List Level → Type 0
HasNoElse [] = ⊥
HasNoElse (level ∷ levels) = level.in_else ≡ false

-- a tag where these blocks are open, the innermost first
abbrev pub IsSoundTag : ℕ → List Level → Tag → Type 0
IsSoundTag limit levels (print x) = IsSoundValue limit (loops_open levels) x
IsSoundTag limit levels (open_if unless test) =
    IsSoundValue limit (loops_open levels) test × (length levels < BLOCK_LIMIT)
IsSoundTag limit levels (open_each over parameter) =
    IsSoundDatum limit (loops_open levels) over × (length levels < BLOCK_LIMIT) × (loops_open levels < LOOP_LIMIT)
IsSoundTag limit levels begin_else = HasNoElse levels
IsSoundTag limit levels close = 0 < length levels
