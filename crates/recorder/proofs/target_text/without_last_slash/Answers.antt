use Rattle.std.proofs.Common.{ap, sym, ◌∙◌, None, Some, lit<}
use Rattle.std.proofs.lemmas.Str.Pattern.{strip_suffix_char}
use Rattle.recorder.specs.Target.{without_last_slash}
use Rattle.recorder.proofs.TargetLemmas.{without_slash, no_last_slash}
use Rattle.recorder.proofs.target_text.without_last_slash.Goals as goal

pub returns-in-Some : goal.returns-in-Some
returns-in-Some c =
    let path = c.args.path.now in
    let at = strip_suffix_char 47 path (Some c.in-Some.front) c.in-Some.ensures.cases (lit< tt) in
    sym (ap without_last_slash at ∙ without_slash c.in-Some.front.now)

pub returns-in-None : goal.returns-in-None
returns-in-None c =
    let path = c.args.path.now in
    let none = strip_suffix_char 47 path None c.in-None.ensures.cases (lit< tt) in
    sym (no_last_slash path none)
