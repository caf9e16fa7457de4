use Rattle.std.proofs.Common.{[], ◌∷◌, sym, ap, ◌∙◌}
use Rattle.std.proofs.lemmas.List.{drop-map}
use Rattle.helper_set.specs.Helpers.{parameter_kinds}
use Rattle.code_rules.specs.Rules.{kinds_fit}
use Rattle.code_verifier.specs.Inner.Slots.{kinds_of}
use Rattle.code_verifier.proofs.PopFacts.{fit-one}
use Rattle.code_verifier.proofs.rules.accepts.Goals as goal

pub returns-in-None : goal.returns-in-None
returns-in-None c =
    sym
    (ap (kinds_fit (parameter_kinds c.args.parameter ∷ []))
    (drop-map (λ s. s.kind) c.args.depth c.args.stack.now ∙ ap kinds_of c.in-None.ensures))

pub returns-in-Some : goal.returns-in-Some
returns-in-Some c =
    let kinds = parameter_kinds c.args.parameter in
    c.accepts.ensures
    ∙ (fit-one kinds c.in-Some.slot.now.kind (kinds_of c.in-Some.ensures.0)
    ∙ sym
    (ap (kinds_fit (kinds ∷ []))
    (drop-map (λ s. s.kind) c.args.depth c.args.stack.now ∙ ap kinds_of c.in-Some.ensures.1)))
