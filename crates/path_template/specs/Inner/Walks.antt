-- How the contracts of private functions see the segments that are left, and a step along a template and a path.
use Rattle.std.specs.Prelude.{◌≡◌, ℕ, Bool, ◌<◌, List, [], ◌∷◌, Option, None, Some, map, option_map, length}
use Rattle.std.specs.Borrow.{Bor}
use Rattle.std.specs.List.{slice_split}
use Rattle.std.specs.Option.{option_map_or}
use Rattle.std.specs.Str.{bytes_eq}
use Rattle.mock_request.specs.Url.{is_slash}
use Rattle.path_template.specs.Template.{is_not_empty, piece_of}
use Rattle.path_template.specs.Matching.{Binding, bound}
use Rattle.path_template.specs.declared.segments.Segments.{Segments}
use Rattle.path_template.specs.declared.walk.Walk.{Walk}
use Rattle.path_template.specs.declared.walk.Step.{Step}
use Rattle.path_template.specs.declared.walk.Step.TheVariants.{Ends, Differs, Fits}

-- the segments that are left
abbrev pub left_of : Segments → List (List ℕ)
left_of segments = option_map_or (λ rest. slice_split is_slash rest.now) segments.rest []

-- what the rest of the template binds in the rest of the path
abbrev pub bound_by : Walk → Option (List Binding)
bound_by walk = bound (map piece_of (left_of walk.template)) (left_of walk.path)

-- the bindings with one more at the front, where the segment has a name
abbrev pub with_binding : Option (Bor (List ℕ)) → List ℕ → List Binding → List Binding
with_binding None segment bindings = bindings
with_binding (Some name) segment bindings = (name.now, segment) ∷ bindings

-- the segment fits the piece that has this name, or none
abbrev pub fits : List ℕ → Option (Bor (List ℕ)) → List ℕ → Bool
fits piece None segment = bytes_eq segment piece
fits piece (Some name) segment = is_not_empty segment

-- what a step says of the walk before it
abbrev pub IsStep : Walk → Step → Type 0
IsStep walk Ends = bound_by walk ≡ Some []
IsStep walk Differs = bound_by walk ≡ None
IsStep walk (Fits name segment rest) =
    (bound_by walk ≡ option_map (with_binding name segment.now) (bound_by rest))
    × (length (left_of rest.template) < length (left_of walk.template))
