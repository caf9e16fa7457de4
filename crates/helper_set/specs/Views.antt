-- The values of the code, as values of the definitions.
use Rattle.std.specs.Prelude.{Option}
use Rattle.std.specs.Option.{option_map_or}
use Rattle.std.specs.Borrow.{Bor}
use Rattle.std.specs.Cow.{cow_str_bytes}
use Rattle.data_tree.specs.declared.data.Data.{Data}
use Rattle.data_tree.specs.Tree.{Tree, view, nothing}
use Rattle.helper_set.specs.Values.{Value, a_datum, a_text, a_number, a_truth}
use Rattle.helper_set.specs.declared.value.Value as borrowed
use Rattle.helper_set.specs.declared.value.Value.TheVariants.{Datum, Text, Number, Truth}
use Rattle.helper_set.specs.declared.value.MadeValue.{MadeValue}
use Rattle.helper_set.specs.declared.value.MadeValue.TheVariants as made

-- none is Nothing
abbrev pub found_view : Option (Bor Data) → Tree
found_view found = option_map_or (λ found. view found.now) found nothing

abbrev pub value_view : borrowed.Value → Value
value_view (Datum found) = a_datum (found_view found)
value_view (Text text) = a_text text.now
value_view (Number n) = a_number n
value_view (Truth b) = a_truth b

abbrev pub made_view : MadeValue → Value
made_view (made.Text text) = a_text (cow_str_bytes text)
made_view (made.Number n) = a_number n
made_view (made.Truth b) = a_truth b
