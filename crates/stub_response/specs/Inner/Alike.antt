-- For private clauses: what templates look at, and the data over which they are rendered.
use Rattle.std.specs.Prelude.{List, All, Option, None, Some}
use Rattle.data_tree.specs.RequestData.{root_of}
use Rattle.data_tree.specs.Tree.{Tree}
use Rattle.data_tree.specs.declared.request_data.RequestData.{RequestData}
use Rattle.needed_data.specs.Needed.{NeededData, AreAlike}
use Rattle.template_machine.specs.Program.{FindsSame}
use Rattle.template_tree.specs.Source.{Source}
use Rattle.stub_response.specs.Response.{IsWithin}
use Rattle.stub_response.specs.declared.limits.Limits.{Limits}

-- in roots that are alike in what is needed each template finds the same
abbrev pub IsNeededBy : NeededData → List Source → Type 0
IsNeededBy needed templates = (r r' : Tree) → AreAlike needed r r' → All (λ t. FindsSame t r r') templates

-- data that has of the root what is needed, where the templates keep to the limits over the root; none where they don't
abbrev pub IsDataWithin : Limits → List Source → NeededData → Tree → Option RequestData → Type 0
IsDataWithin limits templates needed root (Some part) =
    IsWithin limits templates root × AreAlike needed (root_of part) root
IsDataWithin limits templates needed root None = ¬ (IsWithin limits templates root)
