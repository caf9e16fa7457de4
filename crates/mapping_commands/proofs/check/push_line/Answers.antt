use Rattle.std.proofs.Common.{◌≢◌, rules, string_bytes}
use Rattle.mapping_commands.proofs.LinesOf.{refused, taken}
use Rattle.mapping_json.specs.declared.error.MappingError.TheVariants.{OutOfMemory}
use Rattle.serde_json.specs.View.{view}
use Rattle.mapping_commands.proofs.check.push_line.Goals as goal

pub returns-in_ok-push_content_line-in-Ok : goal.returns-in_ok-push_content_line-in-Ok
returns-in_ok-push_content_line-in-Ok c =
    taken c.args.escape c.args.number (view c.args.value.now) (string_bytes c.args.text.now)
    (string_bytes c.push_content_line.new.text) c.in-Ok.response c.in-Ok.ensures.ok
    c.in_ok-push_content_line-in-Ok.ensures

pub returns-in_ok-push_refused_line-in-Err : goal.returns-in_ok-push_refused_line-in-Err
returns-in_ok-push_refused_line-in-Err c =
    let other : c.in-Err.error ≢ OutOfMemory = search rules in
    refused c.args.escape c.args.number (view c.args.value.now) (string_bytes c.args.text.now)
    (string_bytes c.push_refused_line.new.text) c.in-Err.error c.in-Err.ensures.error other (search rules)
