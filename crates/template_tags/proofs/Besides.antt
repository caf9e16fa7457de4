-- An error beside what is read, seen by the views.
use Rattle.std.proofs.Common.{◌≡◌, Option, Some, None, Result, Ok, Err, refl}
use Rattle.template_words.specs.declared.error.TagError.{TagError}
use Rattle.template_tags.specs.Inner.CallReads.{beside}
use Rattle.template_tags.specs.Inner.Views.{read_view, said_view}
use Rattle.template_tags.specs.declared.expression.Expression.{Expression}
use Rattle.template_tags.specs.declared.tag.Tag.{Tag}

pub read_beside : (e : Option TagError) (read : Result Expression TagError)
    → read_view (beside e read) ≡ beside e (read_view read)
read_beside None read = refl
read_beside (Some e) (Ok x) = refl
read_beside (Some e) (Err d) = refl

pub said_beside : (e : Option TagError) (said : Result Tag TagError)
    → said_view (beside e said) ≡ beside e (said_view said)
said_beside None said = refl
said_beside (Some e) (Ok x) = refl
said_beside (Some e) (Err d) = refl
