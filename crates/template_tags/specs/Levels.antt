-- The blocks that are open where a tag is, the innermost first.
use Rattle.std.specs.Prelude.{ℕ, suc, Bool, true, false, ◌&&◌, not, List, [], ◌∷◌, Option, Some, None}
use Rattle.std.specs.Prelude.{option_map, codes, if◌then◌else◌}
use Rattle.std.specs.Str.{bytes_eq}
use Rattle.template_tags.specs.declared.level.Block.{Block}
use Rattle.template_tags.specs.declared.level.Block.TheVariants.{If, Unless, Each}
use Rattle.template_tags.specs.declared.level.Level.{Level}

-- the word after the `#` that opens a block, and after the `/` that closes it
abbrev pub block_name : Block → List ℕ
block_name If = codes "if"
block_name Unless = codes "unless"
block_name Each = codes "each"

-- the block of that name
abbrev pub block_named : List ℕ → Option Block
block_named name =
    if bytes_eq name (codes "if") then Some If
    else if bytes_eq name (codes "unless") then Some Unless
    else if bytes_eq name (codes "each") then Some Each
    else None

abbrev pub is_each : Block → Bool
is_each If = false
is_each Unless = false
is_each Each = true

-- a loop is open: the else part of an `each` is outside of its loop
abbrev pub is_loop : Level → Bool
is_loop level = is_each level.block && not level.in_else

abbrev pub count_loop : Bool → ℕ → ℕ
count_loop true n = suc n
count_loop false n = n

-- how many loops are open
abbrev pub loops_open : List Level → ℕ
loops_open [] = 0
loops_open (level ∷ levels) = count_loop (is_loop level) (loops_open levels)

abbrev pub is_parameter : List ℕ → Option (List ℕ) → Bool
is_parameter name None = false
is_parameter name (Some parameter) = bytes_eq name parameter

-- the loop is this level, or one of those round it; the Bools are whether the level is a loop, and has the name
abbrev pub loop_at : Bool → Bool → Option ℕ → Option ℕ
loop_at false named outer = outer
loop_at true true outer = Some 0
loop_at true false outer = option_map suc outer

-- the innermost loop whose items have that name, by the number of loops inside of it
abbrev pub loop_with_parameter : List ℕ → List Level → Option ℕ
loop_with_parameter name [] = None
loop_with_parameter name (level ∷ levels) =
    loop_at (is_loop level) (is_parameter name level.parameter) (loop_with_parameter name levels)
