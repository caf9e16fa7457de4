use Rattle.std.proofs.Common.{◌+◌, ◌<◌, ◌++◌, Bor, length, drop, ap, sym, ◌∙◌, arith}
use Rattle.std.proofs.lemmas.List.{length-map}
use Rattle.recorder.specs.declared.exchange.Exchange.{Exchange}
use Rattle.recorder.specs.Stubs.{numbered, part_of, parts_of}
use Rattle.recorded_stubs.specs.Inner.Lent.{lent}
use Rattle.recorded_stubs.proofs.StubLemmas.{few, is_kept_at, lent_read, length-placed, one_further, parts_more}
use Rattle.recorded_stubs.proofs.StubLemmas.{skipped_is}
use Rattle.recorded_stubs.proofs.stubs.stubs_of.Goals as goal

pub index-requires-in-loop-index : goal.index-requires-in-loop-index
index-requires-in-loop-index c =
    let long = length-placed c.args.captured.now c.in_ok-kept.kept.items c.as_slice.result.now c.in_ok-keys.keys.items
    c.as_slice-2.result.now c.in_ok-places.places.items c.as_slice.ensures.value c.in_ok-keys.ensures
    c.as_slice-2.ensures.value c.in_ok-places.ensures in
    omega (arith, long, c.len-index-end.ensures, c.in_ok-places.places.ok, c.in_ok-kept.kept.ok)

pub push_mapping-requires : goal.push_mapping-requires
push_mapping-requires c =
    let kept = c.in_ok-kept.kept.items in
    let within : c.loop-index.index < length kept = omega (arith, c.len-index-end.ensures, c.in_ok-kept.kept.ok) in
    is_kept_at c.args.captured.now c.args.exchanges.now kept c.in_ok-kept.ensures c.loop-index.index
    c.index.result.now within c.index.ensures

pub loop-index-preserved : goal.loop-index-preserved
loop-index-preserved c =
    let captured = c.args.captured.now in
    let repeats = c.args.repeats in
    let number = c.args.number in
    let i = c.loop-index.index in
    let kept = c.in_ok-kept.kept.items in
    let places = c.in_ok-places.places.items in
    let exchange = c.index.result.now in
    let place = c.index-in-loop-index.result.now in
    let old = c.loop-index.mappings.items in
    let rest = parts_of repeats number (drop (i + 1) (lent kept)) (drop (i + 1) places) in
    let long = length-placed captured kept c.as_slice.result.now c.in_ok-keys.keys.items
    c.as_slice-2.result.now places c.as_slice.ensures.value c.in_ok-keys.ensures
    c.as_slice-2.ensures.value c.in_ok-places.ensures in
    let within : i < length kept = omega (arith, c.len-index-end.ensures, c.in_ok-kept.kept.ok) in
    let among : i < length (lent kept) = omega (arith, length-map kept (λ (e : Bor Exchange). e.now)) in
    let inside : i < length places = omega (arith, long) in
    one_further captured number old c.push_mapping.new.mappings.items (part_of repeats number exchange.now place) rest
    c.in_ok-push_mapping.ensures
    ∙ ap (λ parts. old ++ numbered captured number (length old) parts)
    (sym (parts_more repeats number (lent kept) places i exchange.now place among inside
    (lent_read captured c.args.exchanges.now kept c.in_ok-kept.ensures i exchange within c.index.ensures)
    c.index-in-loop-index.ensures))
    ∙ c.loop-index.invariant

pub overflow_sub-skipped : goal.overflow_sub-skipped
overflow_sub-skipped c =
    let fewer = few c.args.captured.now c.args.exchanges.now c.in_ok-kept.kept.items c.in_ok-kept.ensures in
    omega (arith, fewer, c.len.ensures, c.in_ok-kept.kept.ok)

pub returns-clause-skipped : goal.returns-clause-skipped
returns-clause-skipped c =
    let others = skipped_is c.args.captured.now c.args.exchanges.now c.in_ok-kept.kept.items c.in_ok-kept.ensures in
    omega (arith, others, c.len.ensures, c.in_ok-kept.kept.ok)
