use Rattle.std.proofs.Common.{◌<◌, [], ◌∷◌, ◌++◌, length, take, map, ap, sym, ◌∙◌, arith}
use Rattle.std.proofs.lemmas.List.{map_more}
use Rattle.recorder.specs.Stubs.{header_line}
use Rattle.recorded_stubs.proofs.response.header_lines.Goals as goal

pub loop-line-preserved : goal.loop-line-preserved
loop-line-preserved c =
    let lines = c.args.lines.now in
    let i = c.loop-line.line-index in
    let line = c.line-item.result in
    let before = map header_line (take i lines) in
    let within : i < length lines = omega arith in
    c.in_ok-push.ensures.items
    ∙ (λ j. c.loop-line.invariant j
    ++ record {
      name = c.in_ok-clone.ensures.cases j;
      value = (c.in_ok-utf8_text.ensures ∙ c.as_slice.ensures) j;
    } ∷ [])
    ∙ ap (λ l. before ++ header_line l ∷ []) c.line-item.is
    ∙ sym (map_more header_line lines i line within)
