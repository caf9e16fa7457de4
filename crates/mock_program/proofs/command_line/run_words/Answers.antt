use Rattle.std.proofs.Common.{◌≡◌, refl, ap, ◌∙◌, [], ◌∷◌, sym, map, inl, inr, subst}
use Rattle.std.specs.Prelude.{option_map}
use Rattle.std.proofs.lemmas.Option.{none-some, same_Some}
use Rattle.clap.specs.Words.{HasKind, kind_of}
use Rattle.mock_program.specs.CommandLine.{Asked}
use Rattle.mock_program.specs.Commands.{Does}
use Rattle.mock_program.specs.Inner.Arguments.{escape_asked, parser_arguments}
use Rattle.mock_program.proofs.CommandArguments.{arguments_of, parser_arguments-asked, escape_asked-asked}
use Rattle.mock_program.specs.Inner.Parser.{IsHelp, answers_to, asked_by, asked_of, is_taken}
use Rattle.mock_program.specs.Options.{given_of}
use Rattle.command_output.specs.Lines.{error_line}
use Rattle.command_output.specs.Output.{AppendsFront}
use Rattle.command_output.specs.declared.error.CommandError.{CommandError}
use Rattle.template_tree.specs.declared.escape.Escape.{Escape}
use Rattle.mock_program.proofs.OneStream.{nothing_written, of_command}
use Rattle.mock_program.proofs.Refused.{without_memory}
use Rattle.mock_program.proofs.ParserCalls.{asked_is_found, asked_is_taken}
use Rattle.mock_program.proofs.ParserErrors.{fails_by_help, fails_by_mistake}
use Rattle.mock_program.proofs.command_line.run_words.Goals as goal

pub returns-in-Ok-Some-clause-command : goal.returns-in-Ok-Some-clause-command
returns-in-Ok-Some-clause-command g c = λ escape asked asks.
    let words = map (λ word. word.now) c.args.given.now.words.items in
    let arguments : map (λ argument. argument.now) c.as_slice.result.now ≡ arguments_of asked =
    ap (map (λ argument. argument.now)) c.as_slice.ensures.value ∙ c.in-Ok.ensures
    ∙ ap (λ ws. parser_arguments (map (λ word. word.now) ws)) c.as_slice-words.ensures.value
    ∙ parser_arguments-asked words escape asked asks in
    let same : asked_of c.in-Ok-Some.call ≡ asked =
    same_Some _ _ (sym (ap (option_map asked_of) c.in-Ok-Some.field-0-is) ∙ c.in-Ok-Some.ensures.ok
    ∙ ap asked_by arguments ∙ asked_is_found asked) in
    let same_escape : c.escape_asked-escape.result ≡ escape =
    c.escape_asked-escape.ensures ∙ ap (λ ws. escape_asked (map (λ word. word.now) ws)) c.as_slice-words.ensures.value
    ∙ escape_asked-asked words escape asked asks in
    let done =
    subst (λ (a : Asked). Does g.O.Write.contents g.E.Write.contents (g.F.FileReader.listed c.args.files.now)
    (g.F.FileReader.content c.args.files.now)
    c.escape_asked-escape.result a (map given_of c.as_slice-options.result.now) c.args.out.now c.run_call.new.out
    c.args.err.now c.run_call.new.err c.run_call.result) same c.run_call.ensures in
    let escaped =
    subst (λ (e : Escape). Does g.O.Write.contents g.E.Write.contents (g.F.FileReader.listed c.args.files.now)
    (g.F.FileReader.content c.args.files.now) e
    asked (map given_of c.as_slice-options.result.now) c.args.out.now c.run_call.new.out c.args.err.now
    c.run_call.new.err c.run_call.result) same_escape done in
    subst (λ options. Does g.O.Write.contents g.E.Write.contents (g.F.FileReader.listed c.args.files.now)
    (g.F.FileReader.content c.args.files.now) escape
    asked (map given_of options) c.args.out.now c.run_call.new.out c.args.err.now
    c.run_call.new.err c.run_call.result) c.as_slice-options.ensures.value escaped

pub returns-in-Ok-None-clause-command : goal.returns-in-Ok-None-clause-command
returns-in-Ok-None-clause-command g c = λ escape asked asks.
    let words = map (λ word. word.now) c.args.given.now.words.items in
    let arguments : map (λ argument. argument.now) c.as_slice.result.now ≡ arguments_of asked =
    ap (map (λ argument. argument.now)) c.as_slice.ensures.value ∙ c.in-Ok.ensures
    ∙ ap (λ ws. parser_arguments (map (λ word. word.now) ws)) c.as_slice-words.ensures.value
    ∙ parser_arguments-asked words escape asked asks in
    absurd (none-some asked (sym (ap (option_map asked_of) c.in-Ok-None.field-0-is) ∙ c.in-Ok-None.ensures.ok
    ∙ ap asked_by arguments ∙ asked_is_found asked))

pub returns-clause-command : goal.returns-clause-command
returns-clause-command g c = λ escape asked asks.
    let words = map (λ word. word.now) c.args.given.now.words.items in
    let arguments : map (λ argument. argument.now) c.as_slice.result.now ≡ arguments_of asked =
    ap (map (λ argument. argument.now)) c.as_slice.ensures.value ∙ c.in-Ok.ensures
    ∙ ap (λ ws. parser_arguments (map (λ word. word.now) ws)) c.as_slice-words.ensures.value
    ∙ parser_arguments-asked words escape asked asks in
    let (one, as_reported, same) =
    c.write_parser_message.ensures.no_memory (c.in-Err.ensures.err (ap is_taken arguments ∙ asked_is_taken asked)) in
    without_memory _ _ _ _ escape asked _ _ _ _ _ _ one as_reported same

-- where the arguments of the parser have no memory
pub returns-in_default-clause-command : goal.returns-in_default-clause-command
returns-in_default-clause-command g c = λ escape asked asks.
    let shown =
    subst (λ (e : CommandError). AppendsFront (g.E.Write.contents c.args.err.now) (g.E.Write.contents c.report.new.err)
    (error_line e)) c.from.ensures c.report.ensures in
    without_memory g.O.Write.contents g.E.Write.contents (g.F.FileReader.listed c.args.files.now)
    (g.F.FileReader.content c.args.files.now) escape
    asked _ c.args.out.now
    c.args.out.now c.args.err.now c.report.new.err 1 refl shown refl

pub returns-in-Ok-Some-clause-streams : goal.returns-in-Ok-Some-clause-streams
returns-in-Ok-Some-clause-streams g c =
    of_command g.O.Write.contents g.E.Write.contents _ _ _ _ _ _ _ _ _ _ c.run_call.ensures

pub returns-in-Ok-None-clause-streams : goal.returns-in-Ok-None-clause-streams
returns-in-Ok-None-clause-streams g c =
    nothing_written g.O.Write.contents g.E.Write.contents c.args.out.now c.args.err.now

pub returns-in-Ok-Some-clause-invalid : goal.returns-in-Ok-Some-clause-invalid
returns-in-Ok-Some-clause-invalid g c = λ invalid.
    let words = map (λ word. word.now) c.args.given.now.words.items in
    let arguments : map (λ argument. argument.now) c.as_slice.result.now ≡ parser_arguments words =
    ap (map (λ argument. argument.now)) c.as_slice.ensures.value ∙ c.in-Ok.ensures
    ∙ ap (λ ws. parser_arguments (map (λ word. word.now) ws)) c.as_slice-words.ensures.value in
    absurd ((fails_by_mistake words invalid).0
    (ap answers_to (sym arguments) ∙ c.in-Ok-Some.ensures.kinds))

pub returns-in-Ok-Some-clause-help : goal.returns-in-Ok-Some-clause-help
returns-in-Ok-Some-clause-help g c = λ calls.
    let words = map (λ word. word.now) c.args.given.now.words.items in
    let arguments : map (λ argument. argument.now) c.as_slice.result.now ≡ parser_arguments words =
    ap (map (λ argument. argument.now)) c.as_slice.ensures.value ∙ c.in-Ok.ensures
    ∙ ap (λ ws. parser_arguments (map (λ word. word.now) ws)) c.as_slice-words.ensures.value in
    let (k, help, alone) = fails_by_help words calls in
    let none = sym alone ∙ (ap answers_to (sym arguments) ∙ c.in-Ok-Some.ensures.kinds) in
    cc

pub returns-clause-help : goal.returns-clause-help
returns-clause-help g c = λ calls.
    let words = map (λ word. word.now) c.args.given.now.words.items in
    let arguments : map (λ argument. argument.now) c.as_slice.result.now ≡ parser_arguments words =
    ap (map (λ argument. argument.now)) c.as_slice.ensures.value ∙ c.in-Ok.ensures
    ∙ ap (λ ws. parser_arguments (map (λ word. word.now) ws)) c.as_slice-words.ensures.value in
    let (k, help, alone) = fails_by_help words calls in
    let has : HasKind (k ∷ []) c.in-Err.error =
    subst (λ ks. HasKind ks c.in-Err.error) (ap answers_to arguments ∙ alone) c.in-Err.ensures.kinds in
    elim has [
      | inl none ↦ inr (c.write_parser_message.ensures.no_memory none).0
      | inr (inl same) ↦ c.write_parser_message.ensures.help (subst IsHelp (sym same) help)
      | inr (inr never) ↦ absurd never
    ]

pub returns-clause-invalid : goal.returns-clause-invalid
returns-clause-invalid g c = λ invalid.
    let words = map (λ word. word.now) c.args.given.now.words.items in
    let arguments : map (λ argument. argument.now) c.as_slice.result.now ≡ parser_arguments words =
    ap (map (λ argument. argument.now)) c.as_slice.ensures.value ∙ c.in-Ok.ensures
    ∙ ap (λ ws. parser_arguments (map (λ word. word.now) ws)) c.as_slice-words.ensures.value in
    let has : HasKind (answers_to (parser_arguments words)) c.in-Err.error =
    subst (λ given. HasKind (answers_to given) c.in-Err.error) arguments c.in-Err.ensures.kinds in
    elim has [
      | inl none ↦ inr (c.write_parser_message.ensures.no_memory none).0
      | inr among ↦ c.write_parser_message.ensures.mistake
          ((fails_by_mistake words invalid).1 (kind_of c.in-Err.error) among)
    ]
