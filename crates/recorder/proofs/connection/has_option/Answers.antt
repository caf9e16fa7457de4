use Rattle.std.specs.Str.{str_eq_ignore_ascii_case}
use Rattle.std.proofs.Common.{rules, tests}
use Rattle.std.proofs.lemmas.Iterator.Search.{any_from_yields_List}
use Rattle.std.proofs.lemmas.Iterator.Splits.{YieldsList-from_slice_split}
use Rattle.recorder.specs.Connection.{is_between_options}
use Rattle.recorder.proofs.connection.has_option.Goals as goal

pub returns : goal.returns
returns c =
    any_from_yields_List (str_eq_ignore_ascii_case c.args.name.now) _ _ c.any.result c.any.ensures.ran
    (YieldsList-from_slice_split _ is_between_options c.args.value.now c.split.ensures.rest c.split.ensures.done
    c.split.ensures.closure (λ x b q k. search (rules, tests)))
    (λ x b q k. search (rules, tests))
