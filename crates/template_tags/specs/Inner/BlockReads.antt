-- What the tags of blocks say, each with the error that is reported of it, as they are read.
use Rattle.std.specs.Prelude.{ℕ, nat_le, Bool, true, false, ◌||◌, not, List, [], ◌∷◌, length}
use Rattle.std.specs.Prelude.{Option, Some, None, Result, Ok, Err, if◌then◌else◌}
use Rattle.template_words.specs.Errors.{joined, earlier}
use Rattle.template_words.specs.Reading.{◌>>=◌}
use Rattle.template_words.specs.declared.error.TagError.{TagError}
use Rattle.template_words.specs.declared.error.TagError.TheVariants.{UnexpectedClose, WrongArguments, TooDeep, BadPath}
use Rattle.template_words.specs.declared.error.TagError.TheVariants.{UnsupportedTag}
use Rattle.template_tags.specs.Blocks.{LoopItems, loop_items, has_names, has_parameters, is_reserved_name, is_innermost}
use Rattle.template_tags.specs.Expression.{Expression, datum}
use Rattle.template_tags.specs.Inner.CallReads.{beside, error_if, errors_in, arguments}
use Rattle.template_tags.specs.Items.{Item}
use Rattle.template_tags.specs.Levels.{loops_open}
use Rattle.template_tags.specs.Tags.{Tag, open_if, open_each, begin_else, close}
use Rattle.template_tags.specs.Terms.{terms_in, has_term, is_matched}
use Rattle.template_tags.specs.declared.expression.Datum.{Datum}
use Rattle.template_tags.specs.declared.level.TheConstants.{BLOCK_LIMIT, LOOP_LIMIT}
use Rattle.template_tags.specs.declared.level.Block.{Block}
use Rattle.template_tags.specs.declared.level.Block.TheVariants.{If, Unless, Each}
use Rattle.template_tags.specs.declared.level.Level.{Level}

-- ---- what an opening tag takes

-- a parenthesis without its other one is a malformed word
abbrev pub match_error : List Item → Option TagError
match_error items = error_if BadPath (not (is_matched items))

-- the argument, where there is one
abbrev pub only_one : List (Result Expression TagError) → Result Expression TagError
only_one [] = Err WrongArguments
only_one (a ∷ []) = a
only_one (a ∷ b ∷ more) = beside (errors_in (a ∷ b ∷ more)) (Err WrongArguments)

-- the one argument of a block
abbrev pub block_argument : List Level → List Item → Result Expression TagError
block_argument levels items = beside (match_error items) (only_one (arguments levels (terms_in items)))

-- another block, or another loop, in those that are open
abbrev pub block_error : List Level → Option TagError
block_error levels = error_if TooDeep (nat_le BLOCK_LIMIT (length levels))

abbrev pub loop_error : List Level → Option TagError
loop_error levels =
    error_if TooDeep (nat_le BLOCK_LIMIT (length levels) || nat_le LOOP_LIMIT (loops_open levels))

-- ---- opening tags

abbrev pub if_read : Bool → Result Expression TagError → Result Tag TagError
if_read unless read = read >>= λ test. Ok (open_if unless test)

-- `if` and `unless` have no parameters
abbrev pub test_said : List Level → Bool → List Item → Result Tag TagError
test_said levels unless items =
    beside (block_error levels)
    (beside (error_if UnsupportedTag (has_parameters items))
    (if_read unless (block_argument levels items)))

abbrev pub data_only : Result Expression TagError → Result Datum TagError
data_only (Ok (datum d)) = Ok d
data_only (Ok x) = Err WrongArguments
data_only (Err e) = Err (earlier WrongArguments e)

abbrev pub each_read : Option (List ℕ) → Result Datum TagError → Result Tag TagError
each_read parameter read = read >>= λ over. Ok (open_each over parameter)

abbrev pub loop_said : List Level → LoopItems → Result Tag TagError
loop_said levels loop =
    beside (error_if UnsupportedTag (is_reserved_name loop.parameter))
    (each_read loop.parameter (data_only (block_argument levels loop.items)))

-- an `each` has one parameter at most
abbrev pub each_said : List Level → List Item → Result Tag TagError
each_said levels items =
    beside (loop_error levels)
    (beside (error_if UnsupportedTag (has_names items)) (loop_said levels (loop_items items)))

-- a tag that opens a block
abbrev pub opening_said : List Level → Option Block → List Item → Result Tag TagError
opening_said levels None items = Err UnsupportedTag
opening_said levels (Some If) items = test_said levels false items
opening_said levels (Some Unless) items = test_said levels true items
opening_said levels (Some Each) items = each_said levels items

-- ---- else and close

-- an else is the first one of the innermost open block
abbrev pub first_else : List Level → Result Tag TagError
first_else [] = Err UnexpectedClose
first_else (level ∷ levels) = if level.in_else then Err UnexpectedClose else Ok begin_else

-- the error of items after a name that has no words after it
abbrev pub extra_error : List Item → Option TagError
extra_error items = joined (match_error items) (error_if UnsupportedTag (has_term (terms_in items)))

abbrev pub else_said : List Level → List Item → Result Tag TagError
else_said levels items = beside (extra_error items) (first_else levels)

-- the errors of a tag's words, as arguments
abbrev pub all_errors : List Level → List Item → Option TagError
all_errors levels items = joined (match_error items) (errors_in (arguments levels (terms_in items)))

-- a tag with `/` and that name, which closes the innermost open block
abbrev pub closing_said : List Level → List ℕ → List Item → Result Tag TagError
closing_said levels name items =
    if is_innermost name levels then beside (extra_error items) (Ok close)
    else beside (all_errors levels items) (Err UnexpectedClose)
