use Rattle.std.proofs.Common.{option_copied}
use Rattle.request_data.specs.RequestTree.{request_tree}
use Rattle.stub_response.proofs.templated.is_within.Goals as goal

pub returns-else-is_kept_to : goal.returns-else-is_kept_to
returns-else-is_kept_to c = λ yes.
    c.is_kept_to-else-is_kept_to.ensures yes (request_tree c.args.request.now (option_copied c.args.template))
    c.closer_size_bound.ensures
