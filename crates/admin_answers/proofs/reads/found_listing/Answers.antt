use Rattle.std.proofs.Common.{◌+◌, ◌≤◌, ◌^◌, arith}
use Rattle.admin_answers.proofs.NumberLemmas.{AreBelow, below_more}
use Rattle.admin_answers.proofs.ReadLemmas.{replied}
use Rattle.admin_json.specs.Requests.{json_of_found}
use Rattle.admin_answers.proofs.reads.found_listing.Goals as goal

pub returns : goal.returns
returns c =
    let entries = c.args.entries.items in
    let last = c.args.last in
    let fits : last + 1 ≤ 2 ^ 64 = omega arith in
    replied (json_of_found entries) (AreBelow (2 ^ 64) entries) (AreBelow (last + 1) entries) c.of_found.result
    (λ below. below_more (last + 1) (2 ^ 64) entries fits below) c.of_found.ensures.text c.of_found.ensures.reads_back
