-- What each helper is called, takes and gives (Handlebars and WireMock, "Response Templating"): a function of its
-- arguments, in the order in which they are written.
use Rattle.std.specs.Prelude.{ℕ, ◌+◌, ◌*◌, pos, min, Bool, true, false, not, ◌&&◌, List, [], ◌∷◌}
use Rattle.std.specs.Prelude.{map, length, sum_by, Option, Some, None, codes}
use Rattle.std.specs.Char.{to_ascii_uppercase, to_ascii_lowercase}
use Rattle.std.specs.List.{list_any}
use Rattle.std.specs.Str.{bytes_eq}
use Rattle.base64.specs.Engines.{standard}
use Rattle.base64.specs.GeneralPurpose.{encode_of}
use Rattle.helper_set.specs.Values.{Value, a_datum, a_text, a_number, a_truth, text_of, same_kind, count_of}
use Rattle.helper_set.specs.Texts.{trimmed, url_encoded, contains, or_default}
use Rattle.helper_set.specs.declared.kind.Kind.{Kind}
use Rattle.helper_set.specs.declared.helper.Helper.{Helper}
use Rattle.helper_set.specs.declared.helper.Helper.TheVariants.{Upper, Lower, Trim, Size, Eq, Neq, Contains, Not}
use Rattle.helper_set.specs.declared.helper.Helper.TheVariants.{Base64, UrlEncode, DefaultIfEmpty, JsonPath}
use Rattle.helper_set.specs.declared.signature.Growth.{Growth}
use Rattle.helper_set.specs.declared.signature.Parameter.{Parameter}
use Rattle.helper_set.specs.declared.signature.Parameter.TheVariants.{Any, NoText, DataOrText, Of}
use Rattle.helper_set.specs.declared.signature.HelperSignature.{HelperSignature}
use Rattle.helper_set.specs.declared.limits.TheConstants.{MAX_NUMBER_LENGTH, MAX_TRUTH_LENGTH, MAX_COUNT}

abbrev pub name_of : Helper → List ℕ
name_of Upper = codes "upper"
name_of Lower = codes "lower"
name_of Trim = codes "trim"
name_of Size = codes "size"
name_of Eq = codes "eq"
name_of Neq = codes "neq"
name_of Contains = codes "contains"
name_of Not = codes "not"
name_of Base64 = codes "base64"
name_of UrlEncode = codes "urlEncode"
name_of DefaultIfEmpty = codes "defaultIfEmpty"
name_of JsonPath = codes "jsonPath"

-- the length of the text that a result prints as, at most: `times` the lengths of the arguments' texts, and `plus`
abbrev pub growth : ℕ → ℕ → Growth
growth times plus = record { times = times; plus = plus }

abbrev pub number_growth : Growth
number_growth = growth 0 MAX_NUMBER_LENGTH

abbrev pub truth_growth : Growth
truth_growth = growth 0 MAX_TRUTH_LENGTH

abbrev pub one_to : Parameter → Kind → Growth → HelperSignature
one_to first gives growth = record { first = first; second = None; gives = gives; growth = growth }

abbrev pub two_to : Parameter → Parameter → Kind → Growth → HelperSignature
two_to first second gives growth = record { first = first; second = Some second; gives = gives; growth = growth }

abbrev pub signature_of : Helper → HelperSignature
signature_of Upper = one_to (Of Kind.Text) Kind.Text (growth 1 0)
signature_of Lower = one_to (Of Kind.Text) Kind.Text (growth 1 0)
signature_of Trim = one_to (Of Kind.Text) Kind.Text (growth 1 0)
signature_of Size = one_to DataOrText Kind.Number number_growth
signature_of Eq = two_to (Of Kind.Text) (Of Kind.Text) Kind.Truth truth_growth
signature_of Neq = two_to (Of Kind.Text) (Of Kind.Text) Kind.Truth truth_growth
signature_of Contains = two_to (Of Kind.Text) (Of Kind.Text) Kind.Truth truth_growth
signature_of Not = one_to (Of Kind.Truth) Kind.Truth truth_growth
signature_of Base64 = one_to (Of Kind.Text) Kind.Text (growth 2 4)
signature_of UrlEncode = one_to (Of Kind.Text) Kind.Text (growth 3 0)
signature_of DefaultIfEmpty = two_to (Of Kind.Text) (Of Kind.Text) Kind.Text (growth 1 0)
signature_of JsonPath = two_to (Of Kind.Data) (Of Kind.Text) Kind.Data (growth 0 0)

-- a count, as a number of 64 bits: no text or list in memory is longer than the greatest of them
abbrev pub counted : ℕ → Value
counted n = a_number (pos (min n MAX_COUNT))

-- results for one text, for two texts, for a value of the request's data or a text, and for a truth; none for arguments
-- of other kinds
abbrev pub on_text : (List ℕ → Value) → List Value → Option Value
on_text f (a_text s ∷ []) = Some (f s)
on_text f arguments = None

abbrev pub on_texts : (List ℕ → List ℕ → Value) → List Value → Option Value
on_texts f (a_text s ∷ a_text t ∷ []) = Some (f s t)
on_texts f arguments = None

abbrev pub on_data_or_text : (Value → Value) → List Value → Option Value
on_data_or_text f (a_datum t ∷ []) = Some (f (a_datum t))
on_data_or_text f (a_text s ∷ []) = Some (f (a_text s))
on_data_or_text f arguments = None

abbrev pub on_truth : (Bool → Value) → List Value → Option Value
on_truth f (a_truth b ∷ []) = Some (f b)
on_truth f arguments = None

-- the result of a helper; none where the arguments don't have the kinds of its signature, and none of `jsonPath`, which
-- looks its path up in the root of the request's data
abbrev pub applied : Helper → List Value → Option Value
applied Upper arguments = on_text (λ s. a_text (map to_ascii_uppercase s)) arguments
applied Lower arguments = on_text (λ s. a_text (map to_ascii_lowercase s)) arguments
applied Trim arguments = on_text (λ s. a_text (trimmed s)) arguments
applied Size arguments = on_data_or_text (λ v. counted (count_of v)) arguments
applied Eq arguments = on_texts (λ s t. a_truth (bytes_eq s t)) arguments
applied Neq arguments = on_texts (λ s t. a_truth (not (bytes_eq s t))) arguments
applied Contains arguments = on_texts (λ s t. a_truth (contains s t)) arguments
applied Not arguments = on_truth (λ b. a_truth (not b)) arguments
-- RFC 4648, section 4, with its padding
applied Base64 arguments = on_text (λ s. a_text (encode_of standard s)) arguments
applied UrlEncode arguments = on_text (λ s. a_text (url_encoded s)) arguments
applied DefaultIfEmpty arguments = on_texts (λ s t. a_text (or_default s t)) arguments
applied JsonPath arguments = None

-- it is looked up in the root, and not applied to its arguments alone
abbrev pub is_looked_up : Helper → Bool
is_looked_up JsonPath = true
is_looked_up h = false

-- its result is a text that isn't a part of an argument, for which memory is taken
abbrev pub takes_memory : Helper → Bool
takes_memory Upper = true
takes_memory Lower = true
takes_memory Base64 = true
takes_memory UrlEncode = true
takes_memory h = false

-- the kinds that a parameter accepts
abbrev pub parameter_kinds : Parameter → List Kind
parameter_kinds Any = Kind.Data ∷ Kind.Text ∷ Kind.Number ∷ Kind.Truth ∷ []
parameter_kinds NoText = Kind.Data ∷ Kind.Number ∷ Kind.Truth ∷ []
parameter_kinds DataOrText = Kind.Data ∷ Kind.Text ∷ []
parameter_kinds (Of kind) = kind ∷ []

abbrev optional_kinds : Option Parameter → List (List Kind)
optional_kinds None = []
optional_kinds (Some p) = parameter_kinds p ∷ []

-- for each argument the kinds that it may have
abbrev pub argument_kinds : Helper → List (List Kind)
argument_kinds h = parameter_kinds (signature_of h).first ∷ optional_kinds (signature_of h).second

abbrev pub result_kind : Helper → Kind
result_kind h = (signature_of h).gives

-- as many arguments as parameters, each of a kind that its parameter accepts
abbrev pub fit : List (List Kind) → List Kind → Bool
fit [] [] = true
fit (p ∷ ps) (k ∷ kinds) = list_any (same_kind k) p && fit ps kinds
fit parameters kinds = false

-- the length of a text that grows so from the arguments' texts
abbrev pub grown : Growth → List Value → ℕ
grown g arguments = g.times * sum_by (λ v. length (text_of v)) arguments + g.plus
