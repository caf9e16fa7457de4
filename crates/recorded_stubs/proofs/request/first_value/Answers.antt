use Rattle.std.proofs.Common.{◌<◌, [], length, ap, sym, ◌∙◌, arith}
use Rattle.std.proofs.lemmas.Option.{slice_get-get_or}
use Rattle.value_match.specs.declared.value_spec.ValueSpec.TheVariants as value
use Rattle.recorder.proofs.KeyLemmas.{none_more}
use Rattle.recorded_stubs.proofs.HeaderLemmas.{first_is, first_is_text}
use Rattle.recorded_stubs.proofs.request.first_value.Goals as goal
use Rattle.recorded_stubs.proofs.request.first_value.Goals.{in-Some+else-is_named, in_default}

pub utf8_text-requires : goal.utf8_text-requires
utf8_text-requires c =
    let all = c.args.request.now.headers in
    let i = c.loop-index.index in
    let within : i < length all = omega arith in
    first_is_text c.args.name.now all i _ within c.in-Some.ensures.value (sym c.is_named.ensures ∙ c.if-is_named.true)
    c.loop-index.invariant c.requires

pub returns-then-is_named : goal.returns-then-is_named
returns-then-is_named c =
    let all = c.args.request.now.headers in
    let i = c.loop-index.index in
    let within : i < length all = omega arith in
    ap value.EqualTo c.in_ok-utf8_text.ensures
    ∙ sym (first_is c.args.name.now all i _ within c.in-Some.ensures.value
    (sym c.is_named.ensures ∙ c.if-is_named.true)
    c.loop-index.invariant)

pub loop-index-preserved : goal.loop-index-preserved
loop-index-preserved c =
    let name = c.args.name.now in
    let all = c.args.request.now.headers in
    let i = c.loop-index.index in
    let within : i < length all = omega arith in
    elim c.match-header.branch [
      | in-Some+else-is_named w ↦
          none_more name all i _ within w.in-Some.ensures.value (sym w.is_named.ensures ∙ w.if-is_named.false)
          ∙ c.loop-index.invariant
      | in_default w ↦
          let here = slice_get-get_or all i (record { name = []; value = [] }) within in
          let none = w.in_default.ensures.value in
          absurd (cc)
    ]
