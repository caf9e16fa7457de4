use Rattle.std.proofs.Common.{◌≡◌, ◌-◌, take, drop, length, sym, ap, ◌∙◌}
use Rattle.std.specs.Prelude.{reverse}
use Rattle.std.proofs.lemmas.List.{length-reverse}
use Rattle.code_verifier.proofs.StackFacts.{drop-reverse}
use Rattle.code_verifier.proofs.stack.Stack.pop_many.Goals as goal

pub returns : goal.returns
returns c =
    let slots = c.self.inside.slots.items in
    let len : c.depth.result ≡ length slots = c.depth.ensures
    ∙ (ap length (sym c.self.view_is) ∙ length-reverse slots) in
    ap reverse (c.truncate.ensures.items ∙ ap (λ k. take k slots)
    (c.saturating_sub-left.ensures ∙ ap (λ n. n - c.args.count) len))
    ∙ (drop-reverse slots c.args.count ∙ ap (drop c.args.count) c.self.view_is)
