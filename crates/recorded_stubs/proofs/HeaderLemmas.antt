-- The headers of a name, one header further.
use Rattle.std.proofs.Common.{◌≡◌, ℕ, ◌+◌, ◌<◌, Bool, true, false, List, [], ◌∷◌, ◌++◌, Some}
use Rattle.std.proofs.Common.{length, take, drop, refl, sym, ap, ◌∙◌}
use Rattle.std.specs.Prelude.{◌&&◌}
use Rattle.std.specs.List.{filter, list_all, slice_get}
use Rattle.std.specs.Str.{is_utf8, str_eq_ignore_ascii_case}
use Rattle.std.proofs.lemmas.Bool.{and_parts, cond-true}
use Rattle.std.proofs.lemmas.List.{drop_more, length_push, take-append-drop}
use Rattle.std.proofs.lemmas.List.Elements.{filter-append}
use Rattle.std.proofs.lemmas.List.Folds.{list_all-append}
use Rattle.std.proofs.lemmas.Option.{get_or_from_slice_get}
use Rattle.mock_request.specs.Request.{Header}
use Rattle.recorder.specs.Key.{headers_named}
use Rattle.recorder.specs.Stubs.{first_value}
use Rattle.recorder.proofs.KeyLemmas.{one_more}
use Rattle.value_match.specs.declared.value_spec.ValueSpec.TheVariants as value

abbrev pub is_text : Header → Bool
is_text header = is_utf8 header.value

and_last : (a b : Bool) → (a && (b && true)) ≡ (a && b)
and_last true true = refl
and_last true false = refl
and_last false b = refl

module _ (name : List ℕ) (headers : List Header) (i : ℕ) (header : Header) (within : i < length headers)
    (here : Some header ≡ slice_get headers i) where
  pub count_more : str_eq_ignore_ascii_case name header.name ≡ true
      → length (headers_named name (take (i + 1) headers)) ≡ length (headers_named name (take i headers)) + 1
  count_more named =
      ap length (one_more name headers i header within here named)
      ∙ length_push (headers_named name (take i headers)) header

  pub texts_more : str_eq_ignore_ascii_case name header.name ≡ true
      → list_all is_text (headers_named name (take (i + 1) headers))
      ≡ (list_all is_text (headers_named name (take i headers)) && is_utf8 header.value)
  texts_more named =
      ap (list_all is_text) (one_more name headers i header within here named)
      ∙ list_all-append is_text (headers_named name (take i headers)) (header ∷ [])
      ∙ and_last (list_all is_text (headers_named name (take i headers))) (is_utf8 header.value)

  -- the first header of the name
  found : str_eq_ignore_ascii_case name header.name ≡ true → headers_named name (take i headers) ≡ []
      → headers_named name headers ≡ header ∷ headers_named name (drop (i + 1) headers)
  found named none =
      let p : Header → Bool = λ h. str_eq_ignore_ascii_case name h.name in
      ap (filter p) (sym (take-append-drop i headers))
      ∙ filter-append p (take i headers) (drop i headers)
      ∙ ap (λ before. before ++ filter p (drop i headers)) none
      ∙ ap (filter p) (drop_more headers i header within)
      ∙ ap (λ h. filter p (h ∷ drop (i + 1) headers)) (get_or_from_slice_get headers i header header (sym here))
      ∙ cond-true (p header) _ _ named

  pub first_is : str_eq_ignore_ascii_case name header.name ≡ true → headers_named name (take i headers) ≡ []
      → first_value (headers_named name headers) ≡ value.EqualTo header.value
  first_is named none = ap first_value (found named none)

  pub first_is_text : str_eq_ignore_ascii_case name header.name ≡ true → headers_named name (take i headers) ≡ []
      → list_all is_text (headers_named name headers) ≡ true → is_utf8 header.value ≡ true
  first_is_text named none all =
      (and_parts (is_utf8 header.value) (list_all is_text (headers_named name (drop (i + 1) headers)))
      (sym (ap (list_all is_text) (found named none)) ∙ all)).0
