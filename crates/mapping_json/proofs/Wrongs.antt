-- In which way a value is wrong, and what it spells where it isn't.
use Rattle.std.proofs.Common.{◌≡◌, ℕ, List, Bool, true, false, Option, Some, None, codes, refl, sym, ap, ap₂}
use Rattle.std.proofs.Common.{subst, ◌∙◌, if◌then◌else◌, is_some, All}
use Rattle.std.proofs.lemmas.List.Elements.{All-nil}
use Rattle.std.proofs.lemmas.Option.{none-some}
use Rattle.json_reading.proofs.Lists.{first_assoc}
use Rattle.json_reading.specs.Fields.{optional}
use Rattle.json_reading.specs.Numbers.{is_taken, taken}
use Rattle.json_reading.specs.Reading.{both, first, read_map, wrong_also}
use Rattle.json_reading.specs.declared.kind.Kind.{Kind}
use Rattle.json_reading.specs.declared.kind.Kind.TheVariants.{NumberNotWhole, Misshapen}
use Rattle.json_reading.specs.declared.reading.Reading.{Reading}
use Rattle.json_reading.specs.declared.reading.Reading.TheVariants.{Read, Wrong}
use Rattle.mapping_json.proofs.ErrorLemmas.{draft_error, wrong_value}
use Rattle.mapping_json.specs.Inner.Wrongs.{alone, joined, misshapen_kind, wrong_field, wrong_fields, wrong_list}
use Rattle.mapping_json.specs.Inner.Wrongs.{wrong_of, wrong_scenario, wrong_text}
use Rattle.mapping_json.specs.Reading.{any_request, beside, draft_of, id_field, id_in, id_of, is_empty_list, mapping_in}
use Rattle.mapping_json.specs.Reading.{names_in, parts_in, place_in, priority_in, priority_of, reading_of_mapping}
use Rattle.mapping_json.specs.Reading.{response_in, scenario_in, scenario_of, taken_request, taken_text, text_in}
use Rattle.mapping_json.specs.Reading.{unsupported_kind}
use Rattle.mapping_json.specs.Spelling.{mapping_of, IsDraftError, IsResponseOf, IsValueError, SpellsResponse}
use Rattle.mapping_json.specs.declared.draft.MappingDraft.{MappingDraft}
use Rattle.mapping_json.specs.declared.error.MappingError.{MappingError}
use Rattle.mapping_json.specs.declared.error.MappingError.TheVariants.{Document, Request, Template, OutOfMemory}
use Rattle.mapping_model.specs.declared.request_spec.RequestSpec.{RequestSpec}
use Rattle.mapping_model.specs.declared.response_spec.ResponseSpec.{ResponseSpec}
use Rattle.request_match.specs.declared.error.RequestMatchError.TheVariants as matcher
use Rattle.request_match.specs.Refusal.{CanBeBuilt, IsRefusal}
use Rattle.response_json.specs.Reading.{field_or}
use Rattle.response_json.specs.Draft.{response_of, templates_of, IsFirstError}
use Rattle.response_json.specs.declared.draft.ResponseDraft.{ResponseDraft}
use Rattle.serde_json.specs.Data.{Data, null, boolean, number, string, array, object}
use Rattle.serde_json.specs.Find.{as_object, get}
use Rattle.template_machine.specs.Program.{IsProgramText}
use Rattle.template_machine.specs.declared.error.ProgramError.TheVariants as template
use Rattle.template_tree.specs.declared.escape.Escape.{Escape}

-- ---- in which way readings are wrong

wrong_both : {A B : Type 0} (a : Reading A) (b : Reading B) → wrong_of (both a b) ≡ joined (wrong_of a) (wrong_of b)
wrong_both (Read a) (Read b) = refl
wrong_both (Read a) (Wrong k) = refl
wrong_both (Wrong j) (Read b) = refl
wrong_both (Wrong j) (Wrong k) = refl

wrong_map : {A B : Type 0} (f : A → B) (a : Reading A) → wrong_of (read_map f a) ≡ wrong_of a
wrong_map f (Read a) = refl
wrong_map f (Wrong k) = refl

wrong_unless : {A : Type 0} (b : Bool) (k : Kind) (part : Reading A)
    → wrong_of (if b then part else wrong_also k part) ≡ joined (if b then None else Some k) (wrong_of part)
wrong_unless true k part = refl
wrong_unless false k (Read a) = refl
wrong_unless false k (Wrong j) = refl

wrong_with : {A : Type 0} (o : Option Data) (part : Reading A)
    → wrong_of (beside o part) ≡ joined (wrong_list o) (wrong_of part)
wrong_with None part = refl
wrong_with (Some d) part = wrong_unless (is_empty_list d) (unsupported_kind d) part

-- ---- in which way the fields are wrong

field_wrong : {A : Type 0} (reading : Data → Reading A) (o : Option Data)
    → wrong_of (optional reading o) ≡ wrong_field reading o
field_wrong reading None = refl
field_wrong reading (Some d) = wrong_map Some (reading d)

other_text : (b : Bool) (r : Reading (List ℕ)) → r ≡ Wrong Misshapen
    → wrong_of (if b then r else wrong_also NumberNotWhole r) ≡ Some (if b then Misshapen else NumberNotWhole)
other_text true r h = ap wrong_of h
other_text false r h = ap (λ x. wrong_of (wrong_also NumberNotWhole x)) h

found_text : (d : Data) → wrong_of (taken_text d) ≡ wrong_text (Some d)
found_text (string s) = refl
found_text null = other_text (is_taken null) (Wrong Misshapen) refl
found_text (boolean b) = other_text (is_taken (boolean b)) (Wrong Misshapen) refl
found_text (number n) = other_text (is_taken (number n)) (Wrong Misshapen) refl
found_text (array ds) = other_text (is_taken (array ds)) (Wrong Misshapen) refl
found_text (object ms) = other_text (is_taken (object ms)) (Wrong Misshapen) refl

text_wrong : (o : Option Data) → wrong_of (optional taken_text o) ≡ wrong_text o
text_wrong None = refl
text_wrong (Some d) = wrong_map Some (taken_text d) ∙ found_text d

names_wrong : (d : Data)
    → wrong_of (names_in d) ≡ joined (wrong_field id_of (id_field d)) (wrong_text (get (codes "name") d))
unfolding names_in
names_wrong d =
    wrong_both (id_in d) (text_in (codes "name") d)
    ∙ ap₂ joined (field_wrong id_of (id_field d)) (text_wrong (get (codes "name") d))

scenario_wrong : (d : Data) → wrong_of (scenario_in d) ≡ wrong_scenario d
scenario_wrong d =
    let name = text_in (codes "scenarioName") d in
    let required = text_in (codes "requiredScenarioState") d in
    let next = text_in (codes "newScenarioState") d in
    wrong_map scenario_of (both name (both required next))
    ∙ wrong_both name (both required next)
    ∙ ap₂ joined (text_wrong (get (codes "scenarioName") d))
    (wrong_both required next
    ∙ ap₂ joined (text_wrong (get (codes "requiredScenarioState") d))
    (text_wrong (get (codes "newScenarioState") d)))

place_wrong : (d : Data)
    → wrong_of (place_in d) ≡ joined (wrong_field priority_of (get (codes "priority") d)) (wrong_scenario d)
unfolding place_in
place_wrong d =
    wrong_both (priority_in d) (scenario_in d)
    ∙ ap₂ joined (field_wrong priority_of (get (codes "priority") d)) (scenario_wrong d)

joined_assoc : (a b c : Option Kind) → joined (joined a b) c ≡ joined a (joined b c)
joined_assoc None b c = refl
joined_assoc (Some i) None c = refl
joined_assoc (Some i) (Some j) None = refl
joined_assoc (Some i) (Some j) (Some k) = ap Some (first_assoc i j k)

regrouped : (post serve names place parts : Option Kind)
    → joined post (joined serve (joined names (joined place parts)))
    ≡ joined (joined (joined post serve) (joined names place)) parts
regrouped post serve names place parts =
    sym (joined_assoc (joined post serve) (joined names place) parts
    ∙ ap (joined (joined post serve)) (joined_assoc names place parts)
    ∙ joined_assoc post serve (joined names (joined place parts)))

wrong_mapping : (d : Data) → wrong_of (mapping_in d) ≡ joined (wrong_fields d) (wrong_of (parts_in d))
unfolding wrong_fields
wrong_mapping d =
    let rest = both (place_in d) (parts_in d) in
    let fields = read_map draft_of (both (names_in d) rest) in
    let post = get (codes "postServeActions") d in
    let serve = get (codes "serveEventListeners") d in
    let parts = wrong_of (parts_in d) in
    let names = joined (wrong_field id_of (id_field d)) (wrong_text (get (codes "name") d)) in
    let place = joined (wrong_field priority_of (get (codes "priority") d)) (wrong_scenario d) in
    wrong_with post (beside serve fields)
    ∙ ap (joined (wrong_list post))
    (wrong_with serve fields
    ∙ ap (joined (wrong_list serve))
    (wrong_map draft_of (both (names_in d) rest)
    ∙ wrong_both (names_in d) rest
    ∙ ap₂ joined (names_wrong d)
    (wrong_both (place_in d) (parts_in d) ∙ ap (λ k. joined k parts) (place_wrong d))))
    ∙ regrouped (wrong_list post) (wrong_list serve) names place parts

is_wrong : {A : Type 0} (r : Reading A) (k : Kind) → wrong_of r ≡ Some k → r ≡ Wrong k
is_wrong (Read a) k h = absurd (none-some k h)
is_wrong (Wrong j) k h = ap Wrong (some_inj j k h)
  where
    some_inj : (a b : Kind) → Some a ≡ Some b → a ≡ b
    some_inj a b e = cc

-- ---- objects

of_object : (d : Data) → is_some (as_object d) ≡ true → reading_of_mapping d ≡ mapping_in d
unfolding reading_of_mapping
of_object d e = ap (λ b. if b then mapping_in d else taken d (Wrong Misshapen)) e

-- what is no object is misshapen, if it has no number that isn't whole
of_other : (d : Data) → is_some (as_object d) ≡ false → reading_of_mapping d ≡ Wrong (misshapen_kind d)
unfolding reading_of_mapping
of_other d e = ap (λ b. if b then mapping_in d else taken d (Wrong Misshapen)) e
    ∙ kinds (is_taken d) (Wrong Misshapen) refl
  where
    kinds : (b : Bool) (r : Reading MappingDraft) → r ≡ Wrong Misshapen
        → (if b then r else wrong_also NumberNotWhole r) ≡ Wrong (if b then Misshapen else NumberNotWhole)
    kinds true r h = h
    kinds false r h = ap (wrong_also NumberNotWhole) h

pub other_wrong : (escape : Escape) (d : Data) → is_some (as_object d) ≡ false
    → IsValueError escape d (Document (misshapen_kind d))
other_wrong escape d e = wrong_value escape d (misshapen_kind d) (of_other d e)

pub object_wrong : (escape : Escape) (d : Data) (parts : Reading (RequestSpec × ResponseDraft)) (k : Kind)
    → is_some (as_object d) ≡ true → parts ≡ parts_in d → joined (wrong_fields d) (wrong_of parts) ≡ Some k
    → IsValueError escape d (Document k)
object_wrong escape d parts k e read found =
    let same : wrong_of (mapping_in d) ≡ joined (wrong_fields d) (wrong_of parts) =
    wrong_mapping d ∙ ap (λ r. joined (wrong_fields d) (wrong_of r)) (sym read) in
    wrong_value escape d k (of_object d e ∙ is_wrong (mapping_in d) k (same ∙ found))

-- ---- what isn't wrong

pub record IsDraftWith (d : Data) (request : RequestSpec) (response : ResponseDraft) : Type 0 where
  pub draft : MappingDraft
  pub read : mapping_in d ≡ Read draft
  pub request_is : request ≡ draft.request
  pub response_is : response ≡ draft.response

right_unless : {A : Type 0} (b : Bool) (k : Kind) (part : Reading A)
    → wrong_of (if b then part else wrong_also k part) ≡ None → (if b then part else wrong_also k part) ≡ part
right_unless true k part h = refl
right_unless false k (Read a) h = absurd (none-some k (sym h))
right_unless false k (Wrong j) h = absurd (none-some (first k j) (sym h))

right_beside : {A : Type 0} (o : Option Data) (part : Reading A) → wrong_of (beside o part) ≡ None
    → beside o part ≡ part
right_beside None part h = refl
right_beside (Some d) part h = right_unless (is_empty_list d) (unsupported_kind d) part h

record IsRead {A : Type 0} (r : Reading A) : Type 0 where
  pub value : A
  pub is : r ≡ Read value

right_both : {A B : Type 0} (a : Reading A) (b : Reading B) → wrong_of (both a b) ≡ None → IsRead a × IsRead b
right_both (Read a) (Read b) h = (record { value = a; is = refl }, record { value = b; is = refl })
right_both (Read a) (Wrong k) h = absurd (none-some k (sym h))
right_both (Wrong j) (Read b) h = absurd (none-some j (sym h))
right_both (Wrong j) (Wrong k) h = absurd (none-some (first j k) (sym h))

-- an object that isn't wrong, with its request and its response
pub object_right : (d : Data) (parts : Reading (RequestSpec × ResponseDraft)) (request : RequestSpec)
    (response : ResponseDraft) → parts ≡ parts_in d → joined (wrong_fields d) (wrong_of parts) ≡ None
    → parts ≡ Read (request, response) → IsDraftWith d request response
object_right d parts request response read right known =
    let post = get (codes "postServeActions") d in
    let serve = get (codes "serveEventListeners") d in
    let rest = both (place_in d) (parts_in d) in
    let fields = read_map draft_of (both (names_in d) rest) in
    let none : wrong_of (mapping_in d) ≡ None =
    wrong_mapping d ∙ ap (λ r. joined (wrong_fields d) (wrong_of r)) (sym read) ∙ right in
    let outer : beside post (beside serve fields) ≡ beside serve fields =
    right_beside post (beside serve fields) none in
    let none_inner : wrong_of (beside serve fields) ≡ None = ap wrong_of (sym outer) ∙ none in
    let inner : beside serve fields ≡ fields = right_beside serve fields none_inner in
    let none_fields : wrong_of (both (names_in d) rest) ≡ None =
    sym (wrong_map draft_of (both (names_in d) rest)) ∙ ap wrong_of (sym inner) ∙ none_inner in
    let names = right_both (names_in d) rest none_fields in
    let place = right_both (place_in d) (parts_in d) (ap wrong_of names.1.is) in
    let all : fields ≡ read_map draft_of
    (both (Read names.0.value) (both (Read place.0.value) (Read (request, response)))) =
    ap₂ (λ n r. read_map draft_of (both n r)) names.0.is (ap₂ both place.0.is (sym read ∙ known)) in
    record {
      draft = draft_of (names.0.value, (place.0.value, (request, response)));
      read = outer ∙ inner ∙ all;
      request_is = refl;
      response_is = refl;
    }

pub spelled : (escape : Escape) (d : Data) (request : RequestSpec) (response : ResponseDraft) (out : ResponseSpec)
    → is_some (as_object d) ≡ true → IsDraftWith d request response
    → IsResponseOf escape (alone request response) out → SpellsResponse escape d out
spelled escape d request response out e with_parts (mapping, is, same) =
    let draft = with_parts.draft in (
      mapping_of escape draft,
      (
        draft,
        of_object d e ∙ with_parts.read,
        record {
          built = subst CanBeBuilt with_parts.request_is is.built;
          templates = subst (λ r. All IsProgramText (templates_of escape r)) with_parts.response_is is.templates;
          same = refl;
        },
      ),
      ap (λ r. response_of escape r) (sym with_parts.response_is) ∙ sym (ap (λ m. m.response) is.same) ∙ same,
    )

-- an error is one of the request and the response alone
error_with : (escape : Escape) (a b : MappingDraft) (error : MappingError) → a.request ≡ b.request
    → a.response ≡ b.response → IsDraftError escape a error → IsDraftError escape b error
error_with escape a b (Document kind) r s f = absurd f
error_with escape a b (Request matcher.OutOfMemory) r s f = absurd f
error_with escape a b (Request matcher.BadUrl) r s f = subst (λ x. IsRefusal x matcher.BadUrl) r f
error_with escape a b (Request matcher.BadPattern) r s f = subst (λ x. IsRefusal x matcher.BadPattern) r f
error_with escape a b (Request matcher.NotJson) r s f = subst (λ x. IsRefusal x matcher.NotJson) r f
error_with escape a b (Request matcher.NumberNotWhole) r s f = subst (λ x. IsRefusal x matcher.NumberNotWhole) r f
error_with escape a b (Request matcher.BadPath) r s f = subst (λ x. IsRefusal x matcher.BadPath) r f
error_with escape a b (Template template.OutOfMemory) r s f = absurd f
error_with escape a b (Template (template.Template e)) r s f =
    (subst CanBeBuilt r f.0, subst (λ x. IsFirstError (templates_of escape x) (template.Template e)) s f.1)
error_with escape a b (Template template.CodeTooLong) r s f =
    (subst CanBeBuilt r f.0, subst (λ x. IsFirstError (templates_of escape x) template.CodeTooLong) s f.1)
error_with escape a b (Template (template.CodeRefused index rule)) r s f =
    (subst CanBeBuilt r f.0, subst (λ x. IsFirstError (templates_of escape x) (template.CodeRefused index rule)) s f.1)
error_with escape a b OutOfMemory r s f = tt

pub not_built : (escape : Escape) (d : Data) (request : RequestSpec) (response : ResponseDraft) (error : MappingError)
    → is_some (as_object d) ≡ true → IsDraftWith d request response
    → IsDraftError escape (alone request response) error → IsValueError escape d error
not_built escape d request response error e with_parts f =
    draft_error escape d with_parts.draft error (of_object d e ∙ with_parts.read)
    (error_with escape (alone request response) with_parts.draft error with_parts.request_is with_parts.response_is f)

-- ---- an object without a request

-- a matcher of each request can be built
pub any_built : CanBeBuilt any_request
any_built = record {
  template = tt;
  head = All-nil _;
  patterns = All-nil _;
  trees = All-nil _;
  paths = All-nil _;
}

pub no_request : (d : Data) (response : Reading ResponseDraft) → get (codes "request") d ≡ None
    → response ≡ response_in d → both (Read any_request) response ≡ parts_in d
unfolding parts_in
no_request d response absent read =
    sym (ap₂ both (ap (field_or any_request taken_request) absent) (sym read))

pub wrong_response : (response : Reading ResponseDraft)
    → wrong_of (both (Read any_request) response) ≡ wrong_of response
wrong_response (Read r) = refl
wrong_response (Wrong k) = refl
