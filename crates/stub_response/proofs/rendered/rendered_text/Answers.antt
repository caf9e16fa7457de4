use Rattle.std.proofs.Common.{subst, string_bytes}
use Rattle.data_tree.specs.RequestData.{root_of}
use Rattle.template_machine.specs.Program.{IsMeant}
use Rattle.stub_response.proofs.rendered.rendered_text.Goals as goal

pub returns : goal.returns
returns c =
    let root = root_of c.args.request.now in
    let text = string_bytes c.in_ok-render.field-0.text in
    record {
      meant = subst (λ source. IsMeant source root text) c.program.ensures.source c.in_ok-render.ensures.meant;
      program = c.program.result.now;
      source = c.program.ensures.source;
      whole = c.program.ensures.program;
      safe = c.render.ensures.safe;
      steps = c.in_ok-render.field-0.steps;
      ran = c.in_ok-render.ensures.run;
    }
