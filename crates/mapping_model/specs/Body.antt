-- The body that a text gives.
use Rattle.std.specs.Prelude.{ℕ, List, [], ◌∷◌}
use Rattle.mapping_model.specs.declared.response_spec.Body.{Body}
use Rattle.mapping_model.specs.declared.response_spec.Body.TheVariants.{Empty, Text}

-- an empty text is no body
abbrev pub text_body : List ℕ → Body (List ℕ)
text_body [] = Empty
text_body (byte ∷ bytes) = Text (byte ∷ bytes)
