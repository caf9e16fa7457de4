-- The lines of members are as many as are counted, and where a line is wrong, it has another shape.
use Rattle.std.proofs.Common.{◌≡◌, ℕ, ◌+◌, ◌<◌, List, [], ◌∷◌, length, Option, Some, None, refl}
use Rattle.std.proofs.Common.{ap, ◌∙◌, arith, if◌then◌else◌, length-append}
use Rattle.std.proofs.lemmas.Bool.{lt-leb}
use Rattle.json_reading.specs.Fields.{each_item}
use Rattle.json_reading.specs.Reading.{both, first, read_map}
use Rattle.json_reading.specs.declared.kind.Kind.TheVariants.{Misshapen}
use Rattle.json_reading.specs.declared.reading.Reading.{Reading}
use Rattle.json_reading.specs.declared.reading.Reading.TheVariants.{Read, Wrong}
use Rattle.mapping_model.specs.declared.header_lines.TheConstants.{HEADER_LIMIT}
use Rattle.response_json.specs.Inner.Counts.{item_count, line_count, count_in}
use Rattle.response_json.specs.Reading.{Line, line_of, lines_of, lines_under, lines_in, name_of, joined, within}
use Rattle.serde_json.specs.Data.{Data, null, boolean, number, string, array, object, Items, no_items, item, Members}
use Rattle.serde_json.specs.Data.{no_members, member}
use Rattle.serde_json.specs.View.{items_view}
use Rattle.serde_json.specs.declared.value.Value.{Value}

-- a line, or another shape
abbrev IsLine : Reading Line → Type 0
IsLine (Read line) = Unit {0}
IsLine (Wrong kind) = kind ≡ Misshapen

-- as many lines, or another shape
abbrev IsCounted : Reading (List Line) → ℕ → Type 0
IsCounted (Read lines) n = length lines ≡ n
IsCounted (Wrong kind) n = kind ≡ Misshapen

one_more : (line : Reading Line) (lines : Reading (List Line)) (n : ℕ) → IsLine line → IsCounted lines n
    → IsCounted (read_map (λ p. p.0 ∷ p.1) (both line lines)) (1 + n)
one_more (Read line) (Read lines) n a b = omega (arith, b)
one_more (Read line) (Wrong k) n a b = b
one_more (Wrong j) (Read lines) n a b = a
one_more (Wrong j) (Wrong k) n a b = ap (λ i. first i k) a ∙ ap (first Misshapen) b

is_line : (name : List ℕ) (d : Data) → IsLine (line_of name d)
is_line name null = refl
is_line name (boolean b) = refl
is_line name (number n) = refl
is_line name (string s) = tt
is_line name (array ds) = refl
is_line name (object ms) = refl

items_counted : (name : List ℕ) (ds : Items) → IsCounted (each_item (line_of name) ds) (item_count ds)
items_counted name no_items = refl
items_counted name (item d ds) =
    one_more (line_of name d) (each_item (line_of name) ds) (item_count ds) (is_line name d) (items_counted name ds)

lines_counted : (name : List ℕ) (d : Data) → IsCounted (lines_of name d) (line_count d)
lines_counted name null = refl
lines_counted name (boolean b) = refl
lines_counted name (number n) = refl
lines_counted name (string s) = refl
lines_counted name (array ds) = items_counted name ds
lines_counted name (object ms) = refl

under_counted : (name : Option (List ℕ)) (d : Data) → IsCounted (lines_under name d) (line_count d)
under_counted None d = refl
under_counted (Some name) d = lines_counted name d

joined_counted : (a b : Reading (List Line)) (m n : ℕ) → IsCounted a m → IsCounted b n
    → IsCounted (joined a b) (m + n)
joined_counted (Read xs) (Read ys) m n a b = length-append xs ys ∙ omega (arith, a, b)
joined_counted (Read xs) (Wrong k) m n a b = b
joined_counted (Wrong j) (Read ys) m n a b = a
joined_counted (Wrong j) (Wrong k) m n a b = ap (λ i. first i k) a ∙ ap (first Misshapen) b

all_counted : (ms : Members) → IsCounted (lines_in ms) (count_in ms)
all_counted no_members = refl
all_counted (member name d ms) =
    joined_counted (lines_under (name_of name) d) (lines_in ms) (line_count d) (count_in ms)
    (under_counted (name_of name) d) (all_counted ms)

over : (lines : Reading (List Line)) (n : ℕ) → IsCounted lines n → HEADER_LIMIT < n
    → within lines ≡ Wrong Misshapen
over (Read lines) n c h =
    ap (λ b. if b then Read lines else Wrong Misshapen) (lt-leb (length lines) HEADER_LIMIT (omega (arith, c, h)))
over (Wrong k) n c h = ap Wrong c

pub too_many : (ms : Members) → HEADER_LIMIT < count_in ms → within (lines_in ms) ≡ Wrong Misshapen
too_many ms h = over (lines_in ms) (count_in ms) (all_counted ms) h

pub count_of_items : (values : List Value) → item_count (items_view values) ≡ length values
count_of_items [] = refl
count_of_items (v ∷ vs) = omega (arith, count_of_items vs)
