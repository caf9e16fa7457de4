use Rattle.template_tags.proofs.Helpers.{path_is}
use Rattle.template_tags.proofs.calls.is_path.Goals as goal

pub returns : goal.returns
returns c = path_is c.is_json_path.result c.args.text.now c.is_json_path.ensures
