-- Names and steps of paths, and what a path means (Handlebars' paths). `Spelled` says which word spells which path.
use Rattle.std.specs.Prelude.{ℕ, ◌==◌, Bool, true, false, ◌&&◌, ◌||◌, not, List, [], ◌∷◌}
use Rattle.std.specs.Prelude.{map, Option, Some, None, Result, Ok, Err, if◌then◌else◌, codes}
use Rattle.std.specs.Char.{to_ascii_lowercase}
use Rattle.std.specs.List.{list_any, list_all}
use Rattle.std.specs.Str.{bytes_eq}
use Rattle.data_tree.specs.Digits.{index_of}
use Rattle.data_tree.specs.declared.step.Step.{Step}
use Rattle.data_tree.specs.declared.step.Step.TheVariants.{Name, Index}
use Rattle.template_words.specs.declared.error.TagError.{TagError}
use Rattle.template_words.specs.declared.error.TagError.TheVariants.{UnsupportedTag}
use Rattle.template_words.specs.declared.reference.Reference.{Reference}
use Rattle.template_words.specs.declared.reference.Reference.TheVariants.{Root, Item}
use Rattle.template_words.specs.Bytes.{dot, open_bracket, close_bracket}
use Rattle.template_words.specs.Words.{is_nil}

-- the bytes that a name outside of brackets can't have
abbrev pub no_name_bytes : List ℕ
no_name_bytes = codes " \t\r\n!\"#%&'()*+,./;<=>@[\\]^`{|}~"

abbrev pub is_name_byte : ℕ → Bool
is_name_byte b = not (list_any (λ c. c == b) no_name_bytes)

abbrev pub is_name : List ℕ → Bool
is_name text = not (is_nil text) && list_all is_name_byte text

abbrev pub step_of_index : Option ℕ → List ℕ → Step
step_of_index None text = Name text
step_of_index (Some index) text = Index index

abbrev pub step_named : List ℕ → Step
step_named text = step_of_index (index_of text) text

abbrev pub onto_first : ℕ → List (List ℕ) → List (List ℕ)
onto_first b [] = (b ∷ []) ∷ []
onto_first b (part ∷ parts) = (b ∷ part) ∷ parts

-- a bracket is open after the byte
abbrev pub next_in_bracket : Bool → ℕ → Bool
next_in_bracket true b = not (b == close_bracket)
next_in_bracket false b = b == open_bracket

-- a dot outside of brackets
abbrev pub is_separator : Bool → ℕ → Bool
is_separator true b = false
is_separator false b = b == dot

-- the parts of a text between the dots outside of brackets
abbrev pub dotted_parts : Bool → List ℕ → List (List ℕ)
dotted_parts inside [] = [] ∷ []
dotted_parts inside (b ∷ bs) =
    if is_separator inside b then [] ∷ dotted_parts false bs else onto_first b (dotted_parts (next_in_bracket inside b) bs)

abbrev pub is_step : List ℕ → Step → Bool
is_step name (Name text) = bytes_eq text name
is_step name (Index n) = false

abbrev pub begins_with_step : List ℕ → List Step → Bool
begins_with_step name [] = false
begins_with_step name (step ∷ steps) = is_step name step

abbrev pub rest_of_steps : List Step → List Step
rest_of_steps [] = []
rest_of_steps (step ∷ steps) = steps

-- paths that are refused as unsupported, since a later version may give them a meaning
abbrev pub is_reserved : List Step → Bool
is_reserved steps =
    begins_with_step (codes "parameters") steps
    || (begins_with_step (codes "request") steps
    && (begins_with_step (codes "id") (rest_of_steps steps)
    || begins_with_step (codes "clientIp") (rest_of_steps steps)))

abbrev pub in_lower_case : Step → Step
in_lower_case (Name text) = Name (map to_ascii_lowercase text)
in_lower_case (Index n) = Index n

-- the second step is `headers`, and there is a third
abbrev pub names_header : List Step → Bool
names_header [] = false
names_header (a ∷ []) = false
names_header (a ∷ b ∷ []) = false
names_header (a ∷ b ∷ c ∷ steps) = is_step (codes "headers") b

abbrev pub third_in_lower_case : List Step → List Step
third_in_lower_case [] = []
third_in_lower_case (a ∷ []) = a ∷ []
third_in_lower_case (a ∷ b ∷ []) = a ∷ b ∷ []
third_in_lower_case (a ∷ b ∷ c ∷ steps) = a ∷ b ∷ in_lower_case c ∷ steps

-- header names don't tell cases apart (RFC 9110, section 5.1), and are in lower case in a request's data
abbrev pub header_in_lower_case : List Step → List Step
header_in_lower_case steps = if names_header steps then third_in_lower_case steps else steps

-- what the steps after `depth` times `../` refer to
abbrev pub reference_at : ℕ → List Step → Reference
reference_at depth steps =
    if begins_with_step (codes "request") steps then Root (header_in_lower_case steps)
    else if begins_with_step (codes "this") steps then Item depth (rest_of_steps steps)
    else Item depth steps

abbrev pub unreserved : ℕ → List Step → Result Reference TagError
unreserved depth steps = if is_reserved steps then Err UnsupportedTag else Ok (reference_at depth steps)
