use Rattle.std.proofs.Common.{◌≡◌, ◌≤◌, ◌<◌, List, [], ℕ, Option, Result, Ok, Err, MatchResult, IfOk}
use Rattle.std.proofs.Common.{OnOk, IfErr, option_copied, subst, sym, ◌∙◌}
use Rattle.data_tree.specs.Json.{size}
use Rattle.data_tree.specs.RequestData.{root_of}
use Rattle.data_tree.specs.Tree.{Tree, view}
use Rattle.data_tree.specs.declared.data.Data.{Data}
use Rattle.data_tree.specs.declared.request_data.DataError.{DataError}
use Rattle.data_tree.specs.declared.request_data.DataError.TheVariants.{TooLarge}
use Rattle.data_tree.specs.declared.request_data.RequestData.{RequestData}
use Rattle.data_tree.specs.declared.request_data.TheConstants.{SIZE_LIMIT}
use Rattle.mock_request.specs.Request.{Request}
use Rattle.needed_data.specs.Needed.{Covers, NeededData}
use Rattle.request_data.specs.Part.{part_tree}
use Rattle.request_data.specs.RequestTree.{request_tree, IsDataRefusal}
use Rattle.request_data.proofs.PartLemmas.{part_alike}
use Rattle.request_data.proofs.tree.request_data.Goals as goal

-- what `RequestData::new` says
abbrev IsNew : Data → Result RequestData DataError → Type 0
IsNew root r =
    MatchResult r (λ made. (root_of made ≡ view root) × (size (view root) ≤ SIZE_LIMIT))
    (λ error. (error ≡ TooLarge root) × (SIZE_LIMIT < size (view root)))

made
    : (r : Result RequestData DataError) (root : Data) (tree : Tree) → IsNew root r → view root ≡ tree
    → IfOk r (λ found. root_of found ≡ tree)
made (Ok found) root tree new same = new.0 ∙ same
made (Err error) root tree new same = tt

within
    : (r : Result RequestData DataError) (root : Data) (tree : Tree) → IsNew root r → view root ≡ tree
    → OnOk r (size tree ≤ SIZE_LIMIT)
within (Ok found) root tree new same = subst (λ t. size t ≤ SIZE_LIMIT) same new.1
within (Err error) root tree new same = tt

refused
    : (r : Result RequestData DataError) (root : Data) (tree : Tree) → IsNew root r → view root ≡ tree
    → IfErr r (IsDataRefusal tree)
refused (Ok found) root tree new same = tt
refused (Err error) root tree new same =
    subst (IsDataRefusal tree) (sym new.0) (same, subst (λ t. SIZE_LIMIT < size t) same new.1)

-- where no step at all is looked at, the part is the whole
whole
    : (needed : NeededData) (request : Request) (template : Option (List ℕ)) → Covers needed []
    → part_tree needed request template ≡ request_tree request template
whole needed request template covers =
    covers (part_tree needed request template) (request_tree request template) (part_alike needed request template)

pub returns-clause-tree : goal.returns-clause-tree
returns-clause-tree c =
    let template = option_copied c.args.template in
    made c.new.result c.in-Ok.root (request_tree c.args.snapshot.now template) c.new.ensures
    (c.in-Ok.ensures.tree ∙ whole c.add_steps.new.self c.args.snapshot.now template c.add_steps.ensures.steps)

pub returns-clause-within : goal.returns-clause-within
returns-clause-within c =
    let template = option_copied c.args.template in
    within c.new.result c.in-Ok.root (request_tree c.args.snapshot.now template) c.new.ensures
    (c.in-Ok.ensures.tree ∙ whole c.add_steps.new.self c.args.snapshot.now template c.add_steps.ensures.steps)

pub returns-clause-refusal : goal.returns-clause-refusal
returns-clause-refusal c =
    let template = option_copied c.args.template in
    refused c.new.result c.in-Ok.root (request_tree c.args.snapshot.now template) c.new.ensures
    (c.in-Ok.ensures.tree ∙ whole c.add_steps.new.self c.args.snapshot.now template c.add_steps.ensures.steps)
