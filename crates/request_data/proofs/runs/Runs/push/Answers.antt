use Rattle.std.proofs.Common.{◌∷◌, ◌++◌, [], All, ap, sym, ◌∙◌, subst}
use Rattle.request_data.specs.Inner.RunFields.{IsRunField}
use Rattle.request_data.proofs.RunFieldLemmas.{runs_more, fields_more}
use Rattle.request_data.proofs.runs.Runs.push.Goals as goal

pub invariant_of-self : goal.invariant_of-self
invariant_of-self c = subst (All IsRunField) (sym c.in_err-push.ensures.items) c.self.invariant

pub invariant_of-self-2 : goal.invariant_of-self-2
invariant_of-self-2 c =
    fields_more c.self.inside.fields.items _ c.args.name c.into_data.result c.args.values c.into_data.ensures.holds
    c.requires c.in_ok-push.ensures.items c.self.invariant

pub returns : goal.returns
returns c =
    runs_more c.self.inside.fields.items _ c.args.name c.into_data.result c.args.values c.into_data.ensures.holds
    c.in_ok-push.ensures.items
    ∙ ap (λ runs. runs ++ (c.args.name, c.args.values) ∷ []) c.self.view_is
