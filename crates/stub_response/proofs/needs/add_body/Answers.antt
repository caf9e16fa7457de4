use Rattle.std.proofs.Common.{[], sym, subst}
use Rattle.std.proofs.lemmas.List.Elements.{All-nil, All-push}
use Rattle.template_machine.specs.Program.{FindsSame}
use Rattle.stub_response.specs.Inner.Alike.{IsNeededBy}
use Rattle.stub_response.specs.Response.{body_templates}
use Rattle.stub_response.proofs.needs.add_body.Goals as goal

pub returns-in-Text-clause-finds : goal.returns-in-Text-clause-finds
returns-in-Text-clause-finds c =
    subst (λ body. IsNeededBy c.add_needed.new.needed (body_templates body)) (sym c.in-Text.is)
    (λ r r' alike. All-push (λ t. FindsSame t r r') [] c.in-Text.template (All-nil (λ t. FindsSame t r r'))
    (subst (λ s. FindsSame s r r') c.program.ensures.source (c.add_needed.ensures.finds r r' alike)))
