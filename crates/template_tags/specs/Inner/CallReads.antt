-- The values that arguments and calls name, each with the error that is reported of it, as they are read.
use Rattle.std.specs.Prelude.{ℕ, suc, nat_lt, Bool, true, false, List, [], ◌∷◌, Option, Some, None}
use Rattle.std.specs.Prelude.{Result, Ok, Err, is_some, if◌then◌else◌}
use Rattle.helper_set.specs.Helpers.{signature_of}
use Rattle.helper_set.specs.declared.helper.Helper.{Helper}
use Rattle.helper_set.specs.declared.helper.Helper.TheVariants.{JsonPath}
use Rattle.helper_set.specs.declared.signature.Parameter.{Parameter}
use Rattle.json_bridge.specs.PathFound.{path_of}
use Rattle.template_words.specs.Errors.{joined, earlier}
use Rattle.template_words.specs.Reading.{◌>>=◌}
use Rattle.template_words.specs.declared.error.TagError.{TagError}
use Rattle.template_words.specs.declared.error.TagError.TheVariants.{UnknownHelper, WrongArguments, TooDeep, BadPath}
use Rattle.template_tags.specs.Calls as values
use Rattle.template_tags.specs.Expression.{Expression, datum, call, call_two}
use Rattle.template_tags.specs.Terms.{Term, single, group, Terms, no_terms, first_term, greatest_height}
use Rattle.template_tags.specs.Inner.WordReads.{argument_word}
use Rattle.template_tags.specs.Words.{Word, helper_word, wrong_word, word_of}
use Rattle.template_tags.specs.declared.expression.TheConstants.{CALL_LIMIT}
use Rattle.template_tags.specs.declared.expression.Datum.TheVariants.{BodyPath}
use Rattle.template_tags.specs.declared.level.Level.{Level}

-- what is read, or the error that is reported where this one is found beside it
abbrev pub beside : {A : Type 0} → Option TagError → Result A TagError → Result A TagError
beside None read = read
beside (Some e) (Ok x) = Err e
beside (Some e) (Err d) = Err (earlier e d)

-- the error, if it was found
abbrev pub error_if : TagError → Bool → Option TagError
error_if e true = Some e
error_if e false = None

abbrev pub error_in : {A : Type 0} → Result A TagError → Option TagError
error_in (Ok x) = None
error_in (Err e) = Some e

abbrev pub errors_in : {A : Type 0} → List (Result A TagError) → Option TagError
errors_in [] = None
errors_in (read ∷ reads) = joined (error_in read) (errors_in reads)

-- a helper's call on one value, and on two
abbrev pub one_value : Helper → List (Result Expression TagError) → Result Expression TagError
one_value h [] = Err WrongArguments
one_value h (a ∷ []) = a >>= λ x. Ok (call h x)
one_value h (a ∷ b ∷ more) = Err WrongArguments

abbrev pub pair_call : Helper → Result Expression TagError → Result Expression TagError
    → Result Expression TagError
pair_call h a b = a >>= λ x. b >>= λ y. Ok (call_two h x y)

abbrev pub two_values : Helper → List (Result Expression TagError) → Result Expression TagError
two_values h [] = Err WrongArguments
two_values h (a ∷ []) = Err WrongArguments
two_values h (a ∷ b ∷ []) = pair_call h a b
two_values h (a ∷ b ∷ c ∷ more) = Err WrongArguments

-- a helper's call on as many values as it takes
abbrev pub helper_call : Option Parameter → Helper → List (Result Expression TagError)
    → Result Expression TagError
helper_call None h arguments = one_value h arguments
helper_call (Some second) h arguments = two_values h arguments

-- the path `request.body`
abbrev pub is_body : Result Expression TagError → Bool
is_body (Ok x) = values.is_body x
is_body (Err e) = false

-- the text of a text literal
abbrev pub literal_in : Result Expression TagError → Option (List ℕ)
literal_in (Ok x) = values.literal_in x
literal_in (Err e) = None

-- a JSON path in the body of the request, where the other arguments of `jsonPath` fit. A text that is no JSON path has
-- an error, whatever they are
abbrev pub body_call : Bool → Option (List ℕ) → Result Expression TagError
body_call fits None = Err WrongArguments
body_call fits (Some text) =
    if is_some (path_of text) then (if fits then Ok (datum (BodyPath text)) else Err WrongArguments) else Err BadPath

-- the arguments of `jsonPath`: the path `request.body`, and a JSON path between quotes
abbrev pub json_path_call : List (Result Expression TagError) → Result Expression TagError
json_path_call [] = Err WrongArguments
json_path_call (a ∷ []) = Err WrongArguments
json_path_call (a ∷ b ∷ []) = body_call (is_body a) (literal_in b)
json_path_call (a ∷ b ∷ c ∷ more) = body_call false (literal_in b)

-- a helper's call on these arguments
abbrev pub called : Helper → List (Result Expression TagError) → Result Expression TagError
called JsonPath arguments = json_path_call arguments
called h arguments = helper_call (signature_of h).second h arguments

-- a call, of which each argument is looked at for errors
abbrev pub call_of : Result Helper TagError → List (Result Expression TagError) → Result Expression TagError
call_of head arguments = beside (errors_in arguments) (head >>= λ h. called h arguments)

-- the helper that a word with arguments names
abbrev pub head_word : Word → Result Helper TagError
head_word (helper_word h) = Ok h
head_word (wrong_word e) = Err (earlier UnknownHelper e)
head_word w = Err UnknownHelper

-- a group of that height, in which the groups inside are counted
abbrev pub limited : ℕ → Result Expression TagError → Result Expression TagError
limited height (Ok x) = if nat_lt CALL_LIMIT height then Err TooDeep else Ok x
limited height (Err e) = Err e

abbrev mutual
  -- the value of an argument; a group is a call
  pub argument : List Level → Term → Result Expression TagError
  argument levels (single text) = argument_word levels text
  argument levels (group terms) = limited (suc (greatest_height terms)) (call_read levels terms)

  pub arguments : List Level → Terms → List (Result Expression TagError)
  arguments levels no_terms = []
  arguments levels (first_term term terms) = argument levels term ∷ arguments levels terms

  -- a helper and its arguments
  pub call_read : List Level → Terms → Result Expression TagError
  call_read levels no_terms = Err WrongArguments
  call_read levels (first_term head terms) = call_of (helper_read levels head) (arguments levels terms)

  -- a group is no helper, and is looked at for errors
  pub helper_read : List Level → Term → Result Helper TagError
  helper_read levels (single text) = head_word (word_of text)
  helper_read levels (group terms) = beside (error_in (call_read levels terms)) (Err UnknownHelper)
