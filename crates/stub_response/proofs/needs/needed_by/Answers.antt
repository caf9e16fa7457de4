use Rattle.std.proofs.Common.{map}
use Rattle.std.proofs.lemmas.List.Elements.{All-append}
use Rattle.template_machine.specs.Program.{FindsSame}
use Rattle.stub_response.specs.Response.{body_templates}
use Rattle.stub_response.proofs.needs.needed_by.Goals as goal

pub returns : goal.returns
returns c r r' alike =
    All-append (λ t. FindsSame t r r') (map (λ line. line.value) c.args.headers.now) (body_templates c.args.body.now)
    (c.needed_by_headers-needed.ensures r r' (c.add_body.ensures.more r r' alike)) (c.add_body.ensures.finds r r' alike)
