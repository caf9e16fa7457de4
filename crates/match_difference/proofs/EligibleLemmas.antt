-- A mapping is eligible exactly where all of its conditions are met.
use Rattle.std.proofs.Common.{◌↔◌, ℕ, List, [], map, All, Option, None, Some}
use Rattle.std.specs.Prelude.{IfSome, IsSomeAnd}
use Rattle.std.proofs.lemmas.List.Elements.{All-append, All-head, All-map, All-nil}
use Rattle.mapping_model.specs.declared.named_matcher.NamedMatcher.{NamedMatcher}
use Rattle.mapping_model.specs.declared.scenario_spec.ScenarioSpec.{ScenarioSpec}
use Rattle.mapping_model.specs.declared.url_spec.UrlSpec.{UrlSpec}
use Rattle.mapping_model.specs.declared.url_spec.UrlSpec.TheVariants as url
use Rattle.match_difference.proofs.AllLemmas.{all_left, all_of_one, all_right, all_unmapped}
use Rattle.match_difference.specs.Conditions.{IsMet, conditions_of, method_conditions, url_conditions}
use Rattle.match_difference.specs.Conditions.{parameter_conditions, scenario_conditions}
use Rattle.match_difference.specs.declared.condition.Condition.{Condition}
use Rattle.match_difference.specs.declared.condition.Condition.TheVariants as condition
use Rattle.match_difference.specs.declared.condition.Source.TheVariants.{Header, Query, Cookie}
use Rattle.mock_request.specs.Request.{Request}
use Rattle.mock_request.specs.Url.{path_of}
use Rattle.mock_request.specs.Values.{values_of}
use Rattle.path_template.specs.Matching.{Binding, bindings_of}
use Rattle.request_journal.specs.Choice.{IsEligible, IsReady}
use Rattle.request_journal.specs.declared.mapping.Mapping.{Mapping}
use Rattle.request_match.specs.Matching.{MeetsMethod}
use Rattle.request_match.specs.Parts.Matching.{MeetsAny, MeetsUrl, MeetPairs}

-- the parameters, by what the template binds
bound_from : (found : Option (List Binding)) (parameters : List NamedMatcher)
    → IsSomeAnd found (MeetPairs [])
    → All (λ m. IfSome found (λ bindings. MeetsAny m.matcher (values_of m.name bindings))) parameters
    → IsSomeAnd found (MeetPairs parameters)
bound_from None parameters none all = absurd none
bound_from (Some bindings) parameters none all = all

bound_to : (found : Option (List Binding)) (parameters : List NamedMatcher)
    → IsSomeAnd found (MeetPairs parameters) → IsSomeAnd found (MeetPairs [])
    × All (λ m. IfSome found (λ bindings. MeetsAny m.matcher (values_of m.name bindings))) parameters
bound_to None parameters all = absurd all
bound_to (Some bindings) parameters all =
    (All-nil (λ (m : NamedMatcher). MeetsAny m.matcher (values_of m.name bindings)), all)

module _ (state_of : List ℕ → List ℕ) (request : Request) where
  abbrev Met : Condition → Type 0
  Met = IsMet state_of request

  method_to : (method : Option (List ℕ)) → MeetsMethod method request.method → All Met (method_conditions method)
  method_to None h = All-nil Met
  method_to (Some wanted) h = all_of_one Met (condition.Method wanted) h

  method_from : (method : Option (List ℕ)) → All Met (method_conditions method) → MeetsMethod method request.method
  method_from None h = tt
  method_from (Some wanted) h = All-head Met (condition.Method wanted) [] h

  url_to : (wanted : UrlSpec) → MeetsUrl wanted request.url
      → All Met (url_conditions wanted) × All Met (parameter_conditions wanted)
  url_to url.Any h = (All-nil Met, All-nil Met)
  url_to (url.Url text) h = (all_of_one Met (condition.Url (url.Url text)) h, All-nil Met)
  url_to (url.UrlPattern text) h = (all_of_one Met (condition.Url (url.UrlPattern text)) h, All-nil Met)
  url_to (url.UrlPath text) h = (all_of_one Met (condition.Url (url.UrlPath text)) h, All-nil Met)
  url_to (url.UrlPathPattern text) h = (all_of_one Met (condition.Url (url.UrlPathPattern text)) h, All-nil Met)
  url_to (url.UrlPathTemplate template parameters) h =
      let both = bound_to (bindings_of template (path_of request.url)) parameters h in (
        all_of_one Met (condition.Url (url.UrlPathTemplate template [])) both.0,
        All-map Met (λ m. condition.PathParameter template m) parameters both.1,
      )

  url_from : (wanted : UrlSpec) → All Met (url_conditions wanted) → All Met (parameter_conditions wanted)
      → MeetsUrl wanted request.url
  url_from url.Any h k = tt
  url_from (url.Url text) h k = All-head Met (condition.Url (url.Url text)) [] h
  url_from (url.UrlPattern text) h k = All-head Met (condition.Url (url.UrlPattern text)) [] h
  url_from (url.UrlPath text) h k = All-head Met (condition.Url (url.UrlPath text)) [] h
  url_from (url.UrlPathPattern text) h k = All-head Met (condition.Url (url.UrlPathPattern text)) [] h
  url_from (url.UrlPathTemplate template parameters) h k =
      bound_from (bindings_of template (path_of request.url)) parameters
      (All-head Met (condition.Url (url.UrlPathTemplate template [])) [] h)
      (all_unmapped Met (λ m. condition.PathParameter template m) parameters k)

  scenario_to : (scenario : Option ScenarioSpec) → IsReady state_of scenario → All Met (scenario_conditions scenario)
  scenario_to None h = All-nil Met
  scenario_to (Some scenario) h = all_of_one Met (condition.Scenario scenario) h

  scenario_from : (scenario : Option ScenarioSpec) → All Met (scenario_conditions scenario)
      → IsReady state_of scenario
  scenario_from None h = tt
  scenario_from (Some scenario) h = All-head Met (condition.Scenario scenario) [] h

  all_are_met : (mapping : Mapping) → IsEligible state_of request mapping → All Met (conditions_of mapping.spec)
  all_are_met mapping h =
      let wanted = mapping.spec.request in
      let urls = url_to wanted.url h.meets.url in
      All-append Met (method_conditions wanted.method) _ (method_to wanted.method h.meets.method)
      (All-append Met (url_conditions wanted.url) _ urls.0
      (All-append Met (map (λ m. condition.Value Header m) wanted.headers) _
      (All-map Met (λ m. condition.Value Header m) wanted.headers h.meets.headers)
      (All-append Met (map (λ m. condition.Value Query m) wanted.query) _
      (All-map Met (λ m. condition.Value Query m) wanted.query h.meets.query)
      (All-append Met (map (λ m. condition.Value Cookie m) wanted.cookies) _
      (All-map Met (λ m. condition.Value Cookie m) wanted.cookies h.meets.cookies)
      (All-append Met (parameter_conditions wanted.url) _ urls.1
      (All-append Met (map (λ p. condition.Body p) wanted.body) _
      (All-map Met (λ p. condition.Body p) wanted.body h.meets.body)
      (scenario_to mapping.spec.scenario h.ready)))))))

  is_eligible : (mapping : Mapping) → All Met (conditions_of mapping.spec) → IsEligible state_of request mapping
  is_eligible mapping all =
      let wanted = mapping.spec.request in
      let after_method = all_right Met (method_conditions wanted.method) _ all in
      let after_url = all_right Met (url_conditions wanted.url) _ after_method in
      let after_headers = all_right Met (map (λ m. condition.Value Header m) wanted.headers) _ after_url in
      let after_query = all_right Met (map (λ m. condition.Value Query m) wanted.query) _ after_headers in
      let after_cookies = all_right Met (map (λ m. condition.Value Cookie m) wanted.cookies) _ after_query in
      let after_parameters = all_right Met (parameter_conditions wanted.url) _ after_cookies in
      record {
        meets = record {
          method = method_from wanted.method (all_left Met (method_conditions wanted.method) _ all);
          url = url_from wanted.url (all_left Met (url_conditions wanted.url) _ after_method)
              (all_left Met (parameter_conditions wanted.url) _ after_cookies);
          headers = all_unmapped Met (λ m. condition.Value Header m) wanted.headers
              (all_left Met (map (λ m. condition.Value Header m) wanted.headers) _ after_url);
          query = all_unmapped Met (λ m. condition.Value Query m) wanted.query
              (all_left Met (map (λ m. condition.Value Query m) wanted.query) _ after_headers);
          cookies = all_unmapped Met (λ m. condition.Value Cookie m) wanted.cookies
              (all_left Met (map (λ m. condition.Value Cookie m) wanted.cookies) _ after_query);
          body = all_unmapped Met (λ p. condition.Body p) wanted.body
              (all_left Met (map (λ p. condition.Body p) wanted.body) _ after_parameters);
        };
        ready = scenario_from mapping.spec.scenario
            (all_right Met (map (λ p. condition.Body p) wanted.body) _ after_parameters);
      }

  pub eligible_where_all_are_met : (mapping : Mapping)
      → All Met (conditions_of mapping.spec) ↔ IsEligible state_of request mapping
  eligible_where_all_are_met mapping = (is_eligible mapping, all_are_met mapping)
