use Rattle.std.proofs.Common.{◌++◌, string_bytes, append-nil, refl, sym, ap, ◌∙◌}
use Rattle.std.specs.Str.Iter.{chars_rest}
use Rattle.helper_set.specs.Escape.{html_escaped}
use Rattle.template_machine.proofs.Escapes.{escaped-next, empty}
use Rattle.template_machine.proofs.escape.escaped.Goals as goal
use lib.Utf8.{encode}

pub loop-c-init : goal.loop-c-init
loop-c-init c =
    rw (c.in_ok-made.ensures.bytes, c.into_iter-c-iterator.ensures.into_iter_gives, c.chars-c-items.ensures.rest) refl

pub loop-c-preserved : goal.loop-c-preserved
loop-c-preserved c =
    escaped-next (string_bytes c.loop-c.made) (encode c.in-Some.c) (chars_rest c.next.new.self)
    (chars_rest c.loop-c.c-iterator) (string_bytes c.push_escaped.new.made) (html_escaped c.args.text.now)
    c.in-Some.ensures.steps.0 c.in_ok-push_escaped.ensures c.loop-c.invariant

pub returns : goal.returns
returns c =
    sym (append-nil (string_bytes c.loop-c.made))
    ∙ (ap (λ bs. string_bytes c.loop-c.made ++ html_escaped bs)
    (sym (empty (chars_rest c.loop-c.c-iterator) c.in-None.ensures.steps.0.0))
    ∙ c.loop-c.invariant)
