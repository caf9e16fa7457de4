-- When a path matches a path template, and what the template's names are bound to.
use Rattle.std.specs.Prelude.{ℕ, List, [], ◌∷◌, Option, None, Some, ◌==◌, if◌then◌else◌, option_map}
use Rattle.std.specs.Prelude.{option_and_then, IsSome}
use Rattle.std.specs.Str.{bytes_eq}
use Rattle.mock_request.specs.Target.{slash}
use Rattle.mock_request.specs.Url.{segments_of}
use Rattle.path_template.specs.Template.{Piece, Literal, Named, is_not_empty, pieces_of}

-- a name and its value
abbrev pub Binding : Type 0
Binding = List ℕ × List ℕ

-- What the pieces bind where they fit the segments: as many segments as pieces, each equal to its literal piece, or
-- not empty where its piece is named. Segments are not decoded.
abbrev pub bound : List Piece → List (List ℕ) → Option (List Binding)
bound [] [] = Some []
bound [] (segment ∷ segments) = None
bound (piece ∷ pieces) [] = None
bound (Literal bytes ∷ pieces) (segment ∷ segments) = if bytes_eq segment bytes then bound pieces segments else None
bound (Named name ∷ pieces) (segment ∷ segments) =
    if is_not_empty segment then option_map (λ bindings. (name, segment) ∷ bindings) (bound pieces segments)
    else None

-- what the template binds in the path, in the template's order, where the path matches; a text that doesn't begin
-- with a slash is no path
abbrev pub bindings_of : List ℕ → List ℕ → Option (List Binding)
bindings_of template [] = None
bindings_of template (b ∷ bs) = if b == slash then bound (pieces_of template) (segments_of (b ∷ bs)) else None

-- the path matches the template
abbrev pub Matches : List ℕ → List ℕ → Type 0
Matches template path = IsSome (bindings_of template path)

-- what a name is bound to
abbrev pub value_of : List ℕ → List Binding → Option (List ℕ)
value_of name [] = None
value_of name (binding ∷ bindings) = if bytes_eq name binding.0 then Some binding.1 else value_of name bindings

-- what the template binds the name to in the path: nothing where the path doesn't match, or the template lacks the name
abbrev pub binding_of : List ℕ → List ℕ → List ℕ → Option (List ℕ)
binding_of template path name = option_and_then (value_of name) (bindings_of template path)
