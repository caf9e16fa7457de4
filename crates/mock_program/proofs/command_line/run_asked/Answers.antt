use Rattle.std.proofs.Common.{◌∙◌, inr, map, refl}
use Rattle.mapping_commands.specs.declared.explain.Question.{Question}
use Rattle.mapping_commands.specs.declared.sent.SentRequest.{SentRequest}
use Rattle.mock_program.proofs.AnswerSent.{answered}
use Rattle.mock_program.proofs.ExplainSent.{explained}
use Rattle.mock_program.specs.Options.{given_of}
use Rattle.mock_program.proofs.command_line.run_asked.Goals as goal

pub returns-in-Ok-clause-answered : goal.returns-in-Ok-clause-answered
returns-in-Ok-clause-answered g c = λ _.
    let sent : SentRequest = record {
      method = c.args.asked.method;
      target = c.args.asked.target;
      headers = c.as_slice.result;
      body = c.as_slice-in-Ok.result;
    } in
    answered g.O.Write.contents g.E.Write.contents (g.F.FileReader.listed c.args.files.now)
    (g.F.FileReader.content c.args.files.now) c.args.settings.escape c.args.asked.file.now sent
    (map given_of c.args.settings.options.now)
    c.args.out.now c.answer_file.new.out c.args.err.now c.answer_file.new.err c.answer_file.result
    (λ none. (
      c.as_slice.ensures.value ∙ (c.in-Ok.ensures.plain none).0,
      c.as_slice-in-Ok.ensures.value ∙ (c.in-Ok.ensures.plain none).1,
    ))
    c.answer_file.ensures

pub returns-then-is_explain-clause-explained : goal.returns-then-is_explain-clause-explained
returns-then-is_explain-clause-explained g c = λ _.
    let question : Question = record {
      request = record {
        method = c.args.asked.method;
        target = c.args.asked.target;
        headers = c.as_slice.result;
        body = c.as_slice-in-Ok.result;
      };
      states = c.as_slice-then-is_explain.result;
      form = c.form_of.result;
    } in
    explained g.O.Write.contents g.E.Write.contents (g.F.FileReader.listed c.args.files.now)
    (g.F.FileReader.content c.args.files.now) c.args.settings.escape c.args.asked.file.now question
    (map given_of c.args.settings.options.now)
    c.args.out.now c.explain_file.new.out c.args.err.now c.explain_file.new.err c.explain_file.result
    (λ none. (
      c.as_slice.ensures.value ∙ (c.in-Ok.ensures.plain none).0,
      c.as_slice-in-Ok.ensures.value ∙ (c.in-Ok.ensures.plain none).1,
      c.as_slice-then-is_explain.ensures.value ∙ (c.in-Ok.ensures.plain none).2,
      c.form_of.ensures (c.in-Ok.ensures.plain none).3,
    ))
    c.explain_file.ensures

pub returns-clause-answered : goal.returns-clause-answered
returns-clause-answered g c = λ _.
    inr (record { given = c.in-Err.ensures.given; failure = c.report.ensures; same = refl })

pub returns-clause-explained : goal.returns-clause-explained
returns-clause-explained g c = λ _.
    inr (record { given = c.in-Err.ensures.given; failure = c.report.ensures; same = refl })
