use Rattle.std.proofs.Common.{lit<}
use Rattle.std.proofs.lemmas.Str.Pattern.{strip_prefix_char}
use Rattle.mock_request.specs.Target.{slash}
use Rattle.request_data.proofs.PathLemmas.{after_slash}
use Rattle.request_data.proofs.path_data.after_slash.Goals as goal

pub returns : goal.returns
returns c =
    let path = c.args.path.now in
    let cut = strip_prefix_char slash path c.strip_prefix.result c.strip_prefix.ensures.cases (lit< tt) in
    rw c.unwrap_or.ensures (after_slash path c.strip_prefix.result _ c.requires cut)
