use Rattle.std.proofs.Common.{◌≡◌, ◌∙◌, sym, ap, true, pos}
use Rattle.std.specs.Prelude.{option_map}
use Rattle.std.specs.Result.{result_ok}
use Rattle.template_words.specs.Words.{is_short_digits}
use Rattle.template_words.proofs.Numbers.{short_parses, short_number_is}
use Rattle.template_words.proofs.literal.short_number.Goals as goal

pub returns-then-is_short_digits : goal.returns-then-is_short_digits
returns-then-is_short_digits c =
    let s = c.args.text.now in
    let short : is_short_digits s ≡ true = sym c.if-is_short_digits.ensures in
    let read = short_parses s c.parse.result short c.parse.ensures.value.0 in
    c.ok.ensures.value ∙ ap result_ok read ∙ ap (option_map pos) (sym (short_number_is s short))
