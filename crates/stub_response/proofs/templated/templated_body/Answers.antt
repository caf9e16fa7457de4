use Rattle.std.proofs.Common.{option_copied, subst}
use Rattle.data_tree.specs.RequestData.{root_of}
use Rattle.request_data.specs.RequestTree.{request_tree}
use Rattle.stub_response.proofs.AlikeLemmas.{alike_body, no_empty_name}
use Rattle.stub_response.specs.Inner.Alike.{IsDataWithin}
use Rattle.stub_response.specs.Response.{templates_of}
use Rattle.stub_response.proofs.templated.templated_body.Goals as goal

pub returns-in_ok-rendered_body-in-Some : goal.returns-in_ok-rendered_body-in-Some
returns-in_ok-rendered_body-in-Some c =
    let part = root_of c.in-Some.data in
    let template = option_copied c.args.template in
    let whole = request_tree c.args.request.now template in
    let within = subst (IsDataWithin c.args.limits (templates_of c.args.headers.now c.args.body.now)
    c.needed_by_body-needed.result whole) c.in-Some.is c.in_ok-data.ensures in (
      within.0,
      alike_body part whole (no_empty_name c.args.request.now template)
          c.args.body.now c.in_ok-rendered_body-in-Some.field-0
          (c.needed_by_body-needed.ensures part whole within.1) c.in_ok-rendered_body-in-Some.ensures,
    )
