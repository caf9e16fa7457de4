-- Where there are no options, nothing was made of them.
use Rattle.std.proofs.Common.{◌≡◌, [], false, map}
use Rattle.mock_program.specs.Options.{given_of}
use Rattle.mock_program.proofs.request_options.request_options.Given as goal

abbrev pub invariant-loop-option : goal.invariant-loop-option
invariant-loop-option g l = map given_of l.options ≡ []
    → (l.made.headers.items ≡ []) × (l.made.body.items ≡ []) × (l.made.states.items ≡ []) × (l.made.is_json ≡ false)
