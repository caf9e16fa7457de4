-- What a tag says (Handlebars' expressions, `if`, `unless`, `each` and `else`).
use Rattle.std.specs.Prelude.{ℕ, Bool, List, Option}
use Rattle.template_tags.specs.declared.expression.Datum.{Datum}
use Rattle.template_tags.specs.declared.tag.Tag as declared
use Rattle.template_tags.specs.declared.tag.Tag.TheVariants as tags
use Rattle.template_tags.specs.Expression.{Expression, expression_view}

-- prints a value; opens an `if`, or an `unless` where that is true; opens an `each` over a value, whose items may have
-- a name; begins the else part; closes the block
pub data Tag : Type 0 where
  print : Expression → Tag
  open_if : Bool → Expression → Tag
  open_each : Datum → Option (List ℕ) → Tag
  begin_else : Tag
  close : Tag

abbrev pub tag_view : declared.Tag → Tag
tag_view (tags.Print expression) = print (expression_view expression)
tag_view (tags.If unless test) = open_if unless (expression_view test)
tag_view (tags.Each over parameter) = open_each over parameter
tag_view tags.Else = begin_else
tag_view tags.Close = close
