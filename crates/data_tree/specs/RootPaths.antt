-- Where the root that a template sees has the parts of a request.
use Rattle.std.specs.Prelude.{ℕ, List, [], ◌∷◌, codes}
use Rattle.data_tree.specs.declared.step.Step.{Step}
use Rattle.data_tree.specs.declared.step.Step.TheVariants.{Name}

-- a field of the request
abbrev pub field_path : List ℕ → List Step
field_path name = Name (codes "request") ∷ Name name ∷ []

-- its body as a text
abbrev pub body_path : List Step
body_path = field_path (codes "body")

-- the data of its body, where that is JSON
abbrev pub json_path : List Step
json_path = Name (codes "json") ∷ []
