-- What is sound within a limit is so within a higher one.
use Rattle.std.proofs.Common.{◌≡◌, ℕ, ◌≤◌, List, length, Ok, arith}
use Rattle.template_tags.specs.Expression.{Expression, datum, index, key, first, last, text_literal, number, truth}
use Rattle.template_tags.specs.Expression.{call, call_two}
use Rattle.template_tags.specs.Said.{tag_said}
use Rattle.template_tags.specs.Sound.{IsSoundDatum, IsSoundExpression}
use Rattle.template_tags.specs.Shown.SoundTags.{IsSoundTag}
use Rattle.template_tags.specs.Tags.{Tag, print, open_if, open_each, begin_else, close}
use Rattle.template_tags.specs.Levels.{loops_open}
use Rattle.template_tags.specs.declared.expression.Datum.{Datum}
use Rattle.template_tags.specs.declared.expression.Datum.TheVariants.{Nothing, Root, Item, BodyPath}
use Rattle.template_tags.specs.declared.level.Level.{Level}
use Rattle.template_tags.specs.declared.tag.Opening.{Opening}
use Rattle.template_tags.proofs.TagSounds.{tag_sound}

raised_datum : (n limit loops : ℕ) (d : Datum) → n ≤ limit → IsSoundDatum n loops d
    → IsSoundDatum limit loops d
raised_datum n limit loops Nothing le h = tt
raised_datum n limit loops (Root path) le h = tt
raised_datum n limit loops (Item up steps) le h = h
raised_datum n limit loops (BodyPath bytes) le h = (omega (arith, h.0), h.1)

raised_expression :
    (n limit loops : ℕ) (e : Expression)
    → n ≤ limit → IsSoundExpression n loops e → IsSoundExpression limit loops e
raised_expression n limit loops (datum d) le h = raised_datum n limit loops d le h
raised_expression n limit loops index le h = h
raised_expression n limit loops key le h = h
raised_expression n limit loops first le h = h
raised_expression n limit loops last le h = h
raised_expression n limit loops (text_literal bytes) le h = omega (arith, h)
raised_expression n limit loops (number i) le h = h
raised_expression n limit loops (truth b) le h = tt
raised_expression n limit loops (call helper e) le h = (h.0, raised_expression n limit loops e le h.1)
raised_expression n limit loops (call_two helper e f) le h =
    (h.0, raised_expression n limit loops e le h.1, raised_expression n limit loops f le h.2)

raised_tag :
    (n limit : ℕ) (levels : List Level) (tag : Tag) → n ≤ limit → IsSoundTag n levels tag
    → IsSoundTag limit levels tag
raised_tag n limit levels (print e) le h = (raised_expression n limit (loops_open levels) e le h.0, h.1)
raised_tag n limit levels (open_if unless test) le h =
    ((raised_expression n limit (loops_open levels) test le h.0.0, h.0.1), h.1)
raised_tag n limit levels (open_each over parameter) le h =
    (raised_datum n limit (loops_open levels) over le h.0, h.1, h.2)
raised_tag n limit levels begin_else le h = h
raised_tag n limit levels close le h = h

-- what a tag says is sound within a limit that its content is within
pub tag_sound_within :
    (limit : ℕ) (opening : Opening) (content : List ℕ) (levels : List Level) (tag : Tag)
    → length content ≤ limit → tag_said opening content levels ≡ Ok tag → IsSoundTag limit levels tag
tag_sound_within limit opening content levels tag le said =
    raised_tag (length content) limit levels tag le (tag_sound opening content levels tag said)
