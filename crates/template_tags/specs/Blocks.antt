-- What the tags of blocks say (Handlebars' `if`, `unless` and `each`, their else and their closes), and the errors that
-- they have.
use Rattle.std.specs.Prelude.{ℕ, nat_le, Bool, true, false, ◌&&◌, ◌||◌, not, List, [], ◌∷◌, ◌++◌, length}
use Rattle.std.specs.Prelude.{Option, Some, None, is_some, if◌then◌else◌, codes}
use Rattle.std.specs.Str.{bytes_eq}
use Rattle.template_words.specs.Names.{name_in_bars, is_name_after_bar, name_before_bar}
use Rattle.template_words.specs.Paths.{is_name}
use Rattle.template_words.specs.declared.error.TagError.{TagError}
use Rattle.template_words.specs.declared.error.TagError.TheVariants.{UnexpectedClose, WrongArguments, TooDeep, BadPath}
use Rattle.template_words.specs.declared.error.TagError.TheVariants.{UnsupportedTag}
use Rattle.template_tags.specs.Calls.{values, all_errors}
use Rattle.template_tags.specs.Expression.{Expression, datum}
use Rattle.template_tags.specs.Items.{Item, word, left_parenthesis, right_parenthesis}
use Rattle.template_tags.specs.Levels.{block_name, loops_open}
use Rattle.template_tags.specs.Reported.{has_count, when}
use Rattle.template_tags.specs.Terms.{terms_in, has_term, is_matched}
use Rattle.template_tags.specs.Words.{no_value}
use Rattle.template_tags.specs.declared.expression.Datum.{Datum}
use Rattle.template_tags.specs.declared.expression.Datum.TheVariants.{Nothing}
use Rattle.template_tags.specs.declared.level.TheConstants.{BLOCK_LIMIT, LOOP_LIMIT}
use Rattle.template_tags.specs.declared.level.Level.{Level}

-- ---- parameters

-- what an `each` loops over, and its name for items
pub record LoopItems : Type 0 where
  pub items : List Item
  pub parameter : Option (List ℕ)

abbrev pub parameter_in : Item → Item → Option (List ℕ)
parameter_in (word a) (word b) = if bytes_eq a (codes "as") then name_in_bars b else None
parameter_in a b = None

abbrev pub last_two : Item → Item → Option (List ℕ) → LoopItems
last_two a b None = record { items = a ∷ b ∷ []; parameter = None }
last_two a b (Some name) = record { items = []; parameter = Some name }

abbrev pub loop_item : Item → LoopItems → LoopItems
loop_item item later = record { items = item ∷ later.items; parameter = later.parameter }

-- `as |name|` at the end is the name for items
abbrev pub loop_items : List Item → LoopItems
loop_items [] = record { items = []; parameter = None }
loop_items (a ∷ []) = record { items = a ∷ []; parameter = None }
loop_items (a ∷ b ∷ []) = last_two a b (parameter_in a b)
loop_items (a ∷ b ∷ c ∷ items) = loop_item a (loop_items (b ∷ c ∷ items))

abbrev pub is_word : List ℕ → Item → Bool
is_word text (word w) = bytes_eq w text
is_word text left_parenthesis = false
is_word text right_parenthesis = false

-- names, of which the last has a bar after it
abbrev pub are_last_names : List Item → Bool
are_last_names [] = false
are_last_names (word w ∷ []) = is_some (name_before_bar w)
are_last_names (word w ∷ item ∷ items) = is_name w && are_last_names (item ∷ items)
are_last_names (left_parenthesis ∷ items) = false
are_last_names (right_parenthesis ∷ items) = false

-- names between bars, two at least
abbrev pub are_names : List Item → Bool
are_names [] = false
are_names (word w ∷ items) = is_name_after_bar w && are_last_names items
are_names (left_parenthesis ∷ items) = false
are_names (right_parenthesis ∷ items) = false

-- `as |name name|`, and any more names, at the end
abbrev pub has_names : List Item → Bool
has_names [] = false
has_names (item ∷ items) = (is_word (codes "as") item && are_names items) || has_names items

-- names for items, one or more, at the end
abbrev pub has_parameters : List Item → Bool
has_parameters items = is_some (loop_items items).parameter || has_names items

-- paths begin with `request` and `this` that mean something else
abbrev pub is_reserved_name : Option (List ℕ) → Bool
is_reserved_name None = false
is_reserved_name (Some name) = bytes_eq name (codes "request") || bytes_eq name (codes "this")

-- ---- arguments

-- the errors of items as arguments. A parenthesis without its other one is a malformed word
abbrev pub argument_errors : List Level → List Item → List TagError
argument_errors levels items = when (not (is_matched items)) BadPath ++ all_errors levels (terms_in items)

-- the errors of items as the one argument of a block
abbrev pub one_errors : List Level → List Item → List TagError
one_errors levels items =
    argument_errors levels items ++ when (not (has_count 1 (values levels (terms_in items)))) WrongArguments

abbrev pub first_value : List Expression → Expression
first_value [] = no_value
first_value (x ∷ xs) = x

abbrev pub one_value : List Level → List Item → Expression
one_value levels items = first_value (values levels (terms_in items))

-- ---- opening tags

-- `if` and `unless` are another block in those that are open, and have no name for items
abbrev pub test_errors : List Level → List Item → List TagError
test_errors levels items =
    when (nat_le BLOCK_LIMIT (length levels)) TooDeep ++ when (has_parameters items) UnsupportedTag
    ++ one_errors levels items

abbrev pub is_datum : Expression → Bool
is_datum (datum d) = true
is_datum x = false

abbrev pub datum_in : Expression → Datum
datum_in (datum d) = d
datum_in x = Nothing

-- an `each` goes over data; what has an error is none
abbrev pub over_errors : List TagError → Expression → List TagError
over_errors errors x = when (not (has_count 0 errors && is_datum x)) WrongArguments ++ errors

abbrev pub loop_errors : List Level → LoopItems → List TagError
loop_errors levels loop =
    when (is_reserved_name loop.parameter) UnsupportedTag
    ++ over_errors (one_errors levels loop.items) (one_value levels loop.items)

-- an `each` is another block, and another loop, in those that are open, and has one name for items at most
abbrev pub each_errors : List Level → List Item → List TagError
each_errors levels items =
    when (nat_le BLOCK_LIMIT (length levels) || nat_le LOOP_LIMIT (loops_open levels)) TooDeep
    ++ when (has_names items) UnsupportedTag ++ loop_errors levels (loop_items items)

-- ---- else and close

-- an else is possible: the first one of the innermost open block
abbrev pub awaits_else : List Level → Bool
awaits_else [] = false
awaits_else (level ∷ levels) = not level.in_else

-- the errors of items after a name that has no words after it
abbrev pub extra_errors : List Item → List TagError
extra_errors items = when (not (is_matched items)) BadPath ++ when (has_term (terms_in items)) UnsupportedTag

-- an else has no words after it
abbrev pub else_errors : List Level → List Item → List TagError
else_errors levels items = extra_errors items ++ when (not (awaits_else levels)) UnexpectedClose

abbrev pub is_innermost : List ℕ → List Level → Bool
is_innermost name [] = false
is_innermost name (level ∷ levels) = bytes_eq name (block_name level.block)

-- a close has the name of the innermost open block, and no words after it
abbrev pub close_errors : List Level → List ℕ → List Item → List TagError
close_errors levels name items =
    if is_innermost name levels then extra_errors items
    else argument_errors levels items ++ UnexpectedClose ∷ []
