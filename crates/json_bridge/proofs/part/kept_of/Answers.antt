use Rattle.std.proofs.Common.{◌≡◌, true, false, cond, length, map, ap, sym, ◌∙◌, arith}
use Rattle.std.proofs.lemmas.List.{nil_from_length}
use Rattle.std.specs.Vec.Iter.{into_iter_items}
use Rattle.data_tree.specs.Tree.{member, members_view, view}
use Rattle.json_bridge.specs.Part.{is_kept, kept}
use Rattle.json_bridge.proofs.Grown.{members_before, members_before-none}
use Rattle.json_bridge.proofs.KeptNames.{kept_name}
use Rattle.json_bridge.proofs.TreeSteps.{members_before-last}
use Rattle.json_bridge.proofs.part.kept_of.Goals as goal

pub loop-name-preserved-in-Continue-1 : goal.loop-name-preserved-in-Continue-1
loop-name-preserved-in-Continue-1 c =
    let l = c.loop-name in
    let names = map (λ name. name.now) c.args.names.now in
    let found = l.found.items in
    let k = c.in-Some.name in
    let d = view c.in-Some.member in
    let rest = kept (is_kept names) (members_view (into_iter_items c.next.new.self)) in
    let steps = c.in-Some.ensures.steps in
    let asked : is_kept names k ≡ true =
    ap (is_kept names) (sym c.as_str.ensures) ∙ sym (kept_name c.as_str.result.now c.args.names.now)
    ∙ sym c.is_kept.ensures ∙ c.if-is_kept.true in
    record {
      counted = omega (arith, l.invariant.counted, steps.1, ap length steps.0);
      whole = l.invariant.whole ∙ ap (λ es. members_before found (kept (is_kept names) (members_view es))) steps.0
          ∙ ap (λ b. members_before found (cond b (member k d rest) rest)) asked
          ∙ sym (members_before-last found (c.in-Some.name, c.in-Some.member) rest)
          ∙ ap (λ es. members_before es rest) (sym c.in_ok-push.ensures.items);
    }

pub loop-name-preserved : goal.loop-name-preserved
loop-name-preserved c =
    let l = c.loop-name in
    let names = map (λ name. name.now) c.args.names.now in
    let found = l.found.items in
    let k = c.in-Some.name in
    let d = view c.in-Some.member in
    let rest = kept (is_kept names) (members_view (into_iter_items c.next.new.self)) in
    let steps = c.in-Some.ensures.steps in
    let other : is_kept names k ≡ false =
    ap (is_kept names) (sym c.as_str.ensures) ∙ sym (kept_name c.as_str.result.now c.args.names.now)
    ∙ sym c.is_kept.ensures ∙ c.if-is_kept.false in
    record {
      counted = omega (arith, l.invariant.counted, steps.1, ap length steps.0);
      whole = l.invariant.whole ∙ ap (λ es. members_before found (kept (is_kept names) (members_view es))) steps.0
          ∙ ap (λ b. members_before found (cond b (member k d rest) rest)) other;
    }

pub returns : goal.returns
returns c =
    let l = c.loop-name in
    let names = map (λ name. name.now) c.args.names.now in
    let none = nil_from_length (into_iter_items l.name-iterator)
    (sym l.invariant.counted ∙ c.in-None.ensures.steps.0) in
    sym (l.invariant.whole ∙ ap (λ es. members_before l.found.items (kept (is_kept names) (members_view es))) none
    ∙ members_before-none l.found.items)
