use Rattle.std.proofs.Common.{◌<◌, ◌∙◌, ap, length, sym, arith}
use Rattle.std.specs.Str.{str_eq_ignore_ascii_case}
use Rattle.std.proofs.lemmas.Bool.{cond-true, cond-false}
use Rattle.har_export.proofs.PairLemmas.{first_from}
use Rattle.har_export.proofs.pairs.first_named.Goals as goal

pub returns-then-is_named : goal.returns-then-is_named
returns-then-is_named c =
    let pairs = c.args.pairs.now in
    let i = c.loop-other.other-index in
    let within : i < length pairs = omega arith in
    let step =
    first_from c.args.name.now c.args.default.now pairs i c.loop-other-item.result within c.loop-other-item.is in
    let test =
    ap (str_eq_ignore_ascii_case c.args.name.now) (sym c.as_str.ensures.value)
    ∙ sym c.is_named.ensures ∙ c.if-is_named.true in
    c.as_str-then-is_named.ensures.value
    ∙ sym (c.loop-other.invariant ∙ step ∙ cond-true _ _ _ test)

pub loop-other-preserved : goal.loop-other-preserved
loop-other-preserved c =
    let pairs = c.args.pairs.now in
    let i = c.loop-other.other-index in
    let within : i < length pairs = omega arith in
    let step =
    first_from c.args.name.now c.args.default.now pairs i c.loop-other-item.result within c.loop-other-item.is in
    let test =
    ap (str_eq_ignore_ascii_case c.args.name.now) (sym c.as_str.ensures.value)
    ∙ sym c.is_named.ensures ∙ c.if-is_named.false in
    c.loop-other.invariant ∙ step ∙ cond-false _ _ _ test
