-- The values that arguments and calls name (Handlebars' helpers and subexpressions), and the errors that they have.
use Rattle.std.specs.Prelude.{ℕ, nat_lt, Bool, false, ◌&&◌, not, List, [], ◌∷◌, ◌++◌}
use Rattle.std.specs.Prelude.{Option, Some, None, is_some, if◌then◌else◌, codes}
use Rattle.data_tree.specs.declared.step.Step.{Step}
use Rattle.helper_set.specs.Helpers.{signature_of}
use Rattle.helper_set.specs.declared.helper.Helper.{Helper}
use Rattle.helper_set.specs.declared.helper.Helper.TheVariants.{JsonPath}
use Rattle.json_bridge.specs.PathFound.{path_of}
use Rattle.template_words.specs.Paths.{is_step}
use Rattle.template_words.specs.declared.error.TagError.{TagError}
use Rattle.template_words.specs.declared.error.TagError.TheVariants.{UnknownHelper, WrongArguments, TooDeep, BadPath}
use Rattle.template_tags.specs.Expression.{Expression, datum, text_literal, call, call_two}
use Rattle.template_tags.specs.Reported.{has_count, when}
use Rattle.template_tags.specs.Terms.{Term, single, group, Terms, no_terms, first_term, height}
use Rattle.template_tags.specs.Words.{Word, helper_word, wrong_word, word_of, argument_of, word_value, word_errors}
use Rattle.template_tags.specs.Words.{no_value}
use Rattle.template_tags.specs.declared.expression.TheConstants.{CALL_LIMIT}
use Rattle.template_tags.specs.declared.expression.Datum.TheVariants.{Root, BodyPath}
use Rattle.template_tags.specs.declared.level.Level.{Level}

-- ---- values

-- the text of a text literal
abbrev pub literal_in : Expression → Option (List ℕ)
literal_in (text_literal text) = Some text
literal_in x = None

-- a JSON path, which is the text of a literal, in the body of the request
abbrev pub body_value : Option (List ℕ) → Expression
body_value None = no_value
body_value (Some text) = datum (BodyPath text)

abbrev pub pair_value : Helper → Expression → Expression → Expression
pair_value JsonPath x y = body_value (literal_in y)
pair_value h x y = call_two h x y

-- what a helper's call on these names
abbrev pub called : Option Helper → List Expression → Expression
called (Some h) (x ∷ []) = call h x
called (Some h) (x ∷ y ∷ []) = pair_value h x y
called h xs = no_value

abbrev pub helper_in : Word → Option Helper
helper_in (helper_word h) = Some h
helper_in w = None

-- the helper that is called; a group is none
abbrev pub helper_of : Term → Option Helper
helper_of (single text) = helper_in (word_of text)
helper_of (group terms) = None

abbrev mutual
  -- the value of an argument; a group is a call
  pub value : List Level → Term → Expression
  value levels (single text) = word_value levels text (argument_of text)
  value levels (group terms) = call_value levels terms

  pub values : List Level → Terms → List Expression
  values levels no_terms = []
  values levels (first_term term terms) = value levels term ∷ values levels terms

  -- the value of a helper and its arguments
  pub call_value : List Level → Terms → Expression
  call_value levels no_terms = no_value
  call_value levels (first_term head terms) = called (helper_of head) (values levels terms)

-- ---- errors

abbrev pub is_body_path : List Step → Bool
is_body_path [] = false
is_body_path (a ∷ []) = false
is_body_path (a ∷ b ∷ []) = is_step (codes "request") a && is_step (codes "body") b
is_body_path (a ∷ b ∷ c ∷ steps) = false

-- the path `request.body`
abbrev pub is_body : Expression → Bool
is_body (datum (Root steps)) = is_body_path steps
is_body x = false

-- `jsonPath` takes a JSON path between quotes as its second argument
abbrev pub path_errors : Option (List ℕ) → List TagError
path_errors None = WrongArguments ∷ []
path_errors (Some text) = when (not (is_some (path_of text))) BadPath

-- and the path `request.body` as its first
abbrev pub json_path_errors : List Expression → List TagError
json_path_errors (x ∷ y ∷ []) = when (not (is_body x)) WrongArguments ++ path_errors (literal_in y)
json_path_errors (x ∷ y ∷ z ∷ more) = WrongArguments ∷ path_errors (literal_in y)
json_path_errors xs = WrongArguments ∷ []

abbrev pub parameter_count : Helper → ℕ
parameter_count h = if is_some (signature_of h).second then 2 else 1

-- other helpers take as many arguments as they have parameters
abbrev pub form_errors : Option Helper → List Expression → List TagError
form_errors None xs = []
form_errors (Some JsonPath) xs = json_path_errors xs
form_errors (Some h) xs = when (not (has_count (parameter_count h) xs)) WrongArguments

-- the errors of a word that has arguments
abbrev pub head_word_errors : Word → List TagError
head_word_errors (helper_word h) = []
head_word_errors (wrong_word e) = UnknownHelper ∷ e ∷ []
head_word_errors w = UnknownHelper ∷ []

abbrev mutual
  -- of an argument
  pub errors : List Level → Term → List TagError
  errors levels (single text) = word_errors (argument_of text)
  errors levels (group terms) =
      when (nat_lt CALL_LIMIT (height (group terms))) TooDeep ++ call_errors levels terms

  pub all_errors : List Level → Terms → List TagError
  all_errors levels no_terms = []
  all_errors levels (first_term term terms) = errors levels term ++ all_errors levels terms

  -- of a helper and its arguments
  pub call_errors : List Level → Terms → List TagError
  call_errors levels no_terms = WrongArguments ∷ []
  call_errors levels (first_term head terms) =
      all_errors levels terms ++ head_errors levels head ++ form_errors (helper_of head) (values levels terms)

  pub head_errors : List Level → Term → List TagError
  head_errors levels (single text) = head_word_errors (word_of text)
  head_errors levels (group terms) = call_errors levels terms ++ UnknownHelper ∷ []
