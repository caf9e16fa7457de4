use Rattle.std.proofs.Common.{◌≡◌, ◌++◌, ◌+◌, suc, get_or, ap, sym, ◌∙◌, arith, take}
use Rattle.std.specs.Prelude.{drop}
use Rattle.std.proofs.Math.Seq.{drop-cons}
use Rattle.std.proofs.lemmas.List.{drop_all}
use Rattle.call_refusal.specs.declared.reason.TheConstants.{LENGTH_LIMIT}
use Rattle.call_refusal.proofs.ReasonLemmas.{all_shown, next_byte, whole}
use Rattle.call_refusal.proofs.reason.visible.Goals as goal

pub loop-byte-preserved : goal.loop-byte-preserved
loop-byte-preserved c =
    let before = c.loop-byte.bytes.items in
    let new = c.add_visible.new.bytes.items in
    let items = c.as_bytes-byte-items.result.now in
    let index = c.loop-byte.byte-index in
    let one : index + 1 ≡ suc index = omega arith in
    let split = drop-cons items index 0 c.loop-byte-test.true in
    let added = c.in_ok-add_visible.ensures in
    record {
      visible = added.visible c.loop-byte.invariant.visible;
      short = added.short;
      rest = ap (λ k. take LENGTH_LIMIT (new ++ all_shown (drop k items))) one
          ∙ (next_byte before new (get_or items index 0) (drop (suc index) items) added.value
          ∙ (ap (λ l. take LENGTH_LIMIT (before ++ all_shown l)) (sym split) ∙ c.loop-byte.invariant.rest));
    }

pub returns-clause-value : goal.returns-clause-value
returns-clause-value c =
    let none = drop_all c.loop-byte.byte-index c.as_bytes-byte-items.result.now c.loop-byte-test.false in
    whole c.loop-byte.bytes.items c.loop-byte.invariant.short
    ∙ (ap (λ l. take LENGTH_LIMIT (c.loop-byte.bytes.items ++ all_shown l)) (sym none) ∙ c.loop-byte.invariant.rest)
