use Rattle.std.proofs.Common.{◌≡◌, ◌+◌, ◌-◌, ◌<◌, drop, length, get_or, sym, ap, ◌∙◌, arith}
use Rattle.std.specs.Prelude.{reverse}
use Rattle.std.proofs.lemmas.List.{length-reverse}
use Rattle.code_verifier.proofs.StackFacts.{slot-reverse}
use Rattle.code_verifier.proofs.stack.Stack.slot.Goals as goal

pub returns-then-depth-count : goal.returns-then-depth-count
returns-then-depth-count c =
    let slots = c.self.inside.slots.items in
    let n = c.args.depth in
    let x = c.index.result.now in
    let len : c.depth-count.result ≡ length slots = c.depth-count.ensures
    ∙ (ap length (sym c.self.view_is) ∙ length-reverse slots) in
    let lt : n < length slots = omega (arith, len, c.if-depth-count.true) in
    let at : x ≡ get_or slots (length slots - 1 - n) x =
    c.index.ensures ∙ ap (λ m. get_or slots (m - 1 - n) x) len in
    (drop (n + 1) (reverse slots), ap (drop n) (sym c.self.view_is) ∙ slot-reverse slots n x lt at)
