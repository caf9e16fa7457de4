use Rattle.std.proofs.Common.{◌≡◌, ◌+◌, ◌++◌, ◌∷◌, [], length, length-append, ap, ◌∙◌, arith}
use Rattle.std.proofs.Common.{IsOk, OnOk, Result, Ok, Err}
use Rattle.mock_request.proofs.BlockLemmas.{AreEnds-append, parts-append}
use Rattle.mock_request.proofs.block.Block.push.Goals as goal

on_ok : {T E : Type 0} {P : Type 0} (r : Result T E) → P → OnOk r P
on_ok (Ok x) p = p
on_ok (Err e) p = tt

-- the room was reserved
ok : (c : goal.After-extend_from_slice) → IsOk c.extend_from_slice.result
ok c = c.extend_from_slice.ensures.succeeds (omega (arith, c.in_ok-reserve.ensures.ok))

bytes : (c : goal.After-extend_from_slice)
    → c.extend_from_slice.new.self.items ≡ c.self.inside.bytes.items ++ c.args.part.now
bytes c = rw (ok c, c.reserve.ensures.items) at c.extend_from_slice.ensures.items

ends : (c : goal.After-extend_from_slice)
    → c.push.new.self.items
    ≡ c.self.inside.ends.items ++ (length c.self.inside.bytes.items + length c.args.part.now) ∷ []
ends c =
    let e : c.in-Ok.end ≡ length c.self.inside.bytes.items + length c.args.part.now = omega arith in
    c.in_ok-push.ensures.items ∙ ap (λ n. c.self.inside.ends.items ++ n ∷ []) e

pub invariant_of-self-2 : goal.invariant_of-self-2
invariant_of-self-2 c =
    rw (bytes c, ends c, length-append)
    (AreEnds-append 0 c.self.inside.ends.items (length c.self.inside.bytes.items) (length c.args.part.now)
    c.self.invariant)

pub returns-clause-ok : goal.returns-clause-ok
returns-clause-ok c =
    on_ok c.extend_from_slice.result
    (rw (bytes c, ends c, ← c.self.view_is)
    (parts-append 0 c.self.inside.ends.items c.self.inside.bytes.items c.args.part.now c.self.invariant))
