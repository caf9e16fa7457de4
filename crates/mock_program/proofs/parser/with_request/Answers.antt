use Rattle.std.proofs.Common.{◌≡◌, ◌||◌, Bool, true, false, refl, ap, ◌∙◌}
use Rattle.std.proofs.lemmas.Result.{IfOk-weaker}
use Rattle.clap.specs.Words.{AddsArg}
use Rattle.clap.specs.declared.builder.arg.Arg.{Arg}
use Rattle.clap.specs.declared.builder.command.Command.{Command}
use Rattle.clap.specs.declared.builder.command.Command.TheViews.{out-Command as fields_of}
use Rattle.mock_program.proofs.parser.with_request.Goals as goal

or_none : (b : Bool) → b || false ≡ b
or_none true = refl
or_none false = refl

-- an argument that isn't global adds no global one
adds_local : (old : Command) (a : Arg) (new : Command) → AddsArg old a new → a.global ≡ false
    → (fields_of new).has_globals ≡ (fields_of old).has_globals
adds_local old a new added local =
    added.globals ∙ (ap (λ t. (fields_of old).has_globals || t) local ∙ or_none (fields_of old).has_globals)

pub returns-clause-globals : goal.returns-clause-globals
returns-clause-globals c =
    IfOk-weaker c.arg-2.result _ _
    (λ made added. adds_local c.in_ok-arg.field-0 c.required-target.result made added c.required-target.ensures.local
    ∙ adds_local c.args.command c.required-method.result c.in_ok-arg.field-0 c.in_ok-arg.ensures
    c.required-method.ensures.local)
    c.arg-2.ensures
