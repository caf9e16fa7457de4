use Rattle.std.proofs.Common.{◌+◌, ◌<◌, [], length, ap, sym, ◌∙◌, arith}
use Rattle.std.proofs.lemmas.Option.{slice_get-get_or}
use Rattle.recorder.proofs.KeyLemmas.{none_more}
use Rattle.recorded_stubs.proofs.HeaderLemmas.{count_more}
use Rattle.recorded_stubs.proofs.kept.named_count.Goals as goal
use Rattle.recorded_stubs.proofs.kept.named_count.Goals.{in-Some+then-is_named, in-Some+else-is_named, in_default}

pub loop-index-preserved : goal.loop-index-preserved
loop-index-preserved c =
    let name = c.args.name.now in
    let all = c.args.request.now.headers in
    let i = c.loop-index.index in
    let within : i < length all = omega arith in
    elim c.match-header.branch [
      | in-Some+then-is_named w ↦
          record {
            count =
                w.count-is ∙ ap (λ n. n + 1) c.loop-index.invariant.count
                ∙ sym (count_more name all i _ within w.in-Some.ensures.value
                (sym w.is_named.ensures ∙ w.if-is_named.true));
            few = let is = w.count-is in let few = c.loop-index.invariant.few in omega arith;
          }
      | in-Some+else-is_named w ↦
          record {
            count =
                w.count-is ∙ c.loop-index.invariant.count
                ∙ ap length
                (sym (none_more name all i _ within w.in-Some.ensures.value
                (sym w.is_named.ensures ∙ w.if-is_named.false)));
            few = let is = w.count-is in let few = c.loop-index.invariant.few in omega arith;
          }
      | in_default w ↦
          let here = slice_get-get_or all i (record { name = []; value = [] }) within in
          let none = w.in_default.ensures.value in
          absurd (cc)
    ]
