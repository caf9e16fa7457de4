use Rattle.std.proofs.Common.{None, lit<}
use Rattle.std.proofs.lemmas.Str.Pattern.{strip_prefix_char}
use Rattle.mock_request.specs.Target.{slash}
use Rattle.path_template.proofs.Cuts.{not_rooted}
use Rattle.path_template.proofs.segments.Segments.of.Goals as goal

pub returns-in_err-rest : goal.returns-in_err-rest
returns-in_err-rest c =
    let path = c.args.path.now in
    let none = strip_prefix_char slash path None c.in_err-rest.ensures.cases (lit< tt) in
    rw c.from_residual.ensures (not_rooted path none)
