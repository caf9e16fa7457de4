use Rattle.path_template.proofs.Cuts.{first_cut}
use Rattle.admin_routes.proofs.url.cut.Goals as goal

pub returns : goal.returns
returns c = first_cut c.args.text.now c.split_once.result c.split_once.ensures.cases
