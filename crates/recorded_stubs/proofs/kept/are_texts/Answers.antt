use Rattle.std.proofs.Common.{◌<◌, [], length, ap, sym, ◌∙◌, arith}
use Rattle.std.specs.Prelude.{◌&&◌}
use Rattle.std.specs.List.{list_all}
use Rattle.std.proofs.lemmas.Option.{slice_get-get_or}
use Rattle.recorder.proofs.KeyLemmas.{none_more}
use Rattle.recorded_stubs.proofs.HeaderLemmas.{is_text, texts_more}
use Rattle.recorded_stubs.proofs.kept.are_texts.Goals as goal
use Rattle.recorded_stubs.proofs.kept.are_texts.Goals.{in-Some+then-is_named, in-Some+else-is_named, in_default}

pub loop-index-preserved : goal.loop-index-preserved
loop-index-preserved c =
    let name = c.args.name.now in
    let all = c.args.request.now.headers in
    let i = c.loop-index.index in
    let within : i < length all = omega arith in
    elim c.match-header.branch [
      | in-Some+then-is_named w ↦
          w.are_texts-is
          ∙ (λ j. c.loop-index.invariant j && w.is_utf8-are_texts.ensures j)
          ∙ sym (texts_more name all i _ within w.in-Some.ensures.value
          (sym w.is_named.ensures ∙ w.if-is_named.true))
      | in-Some+else-is_named w ↦
          w.are_texts-is ∙ c.loop-index.invariant
          ∙ ap (list_all is_text)
          (sym (none_more name all i _ within w.in-Some.ensures.value (sym w.is_named.ensures ∙ w.if-is_named.false)))
      | in_default w ↦
          let here = slice_get-get_or all i (record { name = []; value = [] }) within in
          let none = w.in_default.ensures.value in
          absurd (cc)
    ]
