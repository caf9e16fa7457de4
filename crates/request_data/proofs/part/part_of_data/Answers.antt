use Rattle.std.proofs.Common.{◌≤◌, option_copied, arith, sym, subst, ◌∙◌}
use Rattle.data_tree.specs.Json.{size}
use Rattle.data_tree.specs.declared.request_data.TheConstants.{SIZE_LIMIT}
use Rattle.needed_data.specs.Needed.{AreAlike}
use Rattle.request_data.specs.RequestTree.{request_tree}
use Rattle.request_data.proofs.PartLemmas.{part_alike, part_no_larger}
use Rattle.request_data.proofs.part.part_of_data.Goals as goal

pub within_limit-requires-clause-within_limit : goal.within_limit-requires-clause-within_limit
within_limit-requires-clause-within_limit c =
    let smaller = part_no_larger c.args.needed.now c.args.snapshot.now (option_copied c.args.template) in
    subst (λ tree. size tree ≤ SIZE_LIMIT) (sym c.in_ok-root.ensures.tree) (omega (arith, smaller, c.requires))

pub returns-clause-alike : goal.returns-clause-alike
returns-clause-alike c =
    let needed = c.args.needed.now in
    let request = c.args.snapshot.now in
    let template = option_copied c.args.template in
    subst (λ tree. AreAlike needed tree (request_tree request template))
    (sym (c.within_limit.ensures ∙ c.in_ok-root.ensures.tree)) (part_alike needed request template)
