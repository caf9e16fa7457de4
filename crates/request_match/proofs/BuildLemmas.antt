-- Which error of a whole matcher the error of one of its parts is.
use Rattle.std.proofs.Common.{◌≡◌, ◌++◌, All, Any, refl, inl, inr}
use Rattle.std.proofs.lemmas.List.Elements.{All-append}
use Rattle.mapping_model.specs.declared.request_spec.RequestSpec.{RequestSpec}
use Rattle.request_match.specs.Refusal.{IsRefusal, head_matchers}
use Rattle.request_match.proofs.AnyLemmas.{any_left, any_right}
use Rattle.request_match.specs.Errors.{error_of_value}
use Rattle.request_match.specs.Parts.Refusal.{HasTemplate, IsUrlRefusal, IsBodyRefusal, matchers_of, url_matchers}
use Rattle.request_match.specs.declared.error.RequestMatchError.{RequestMatchError}
use Rattle.request_match.specs.declared.error.RequestMatchError.TheVariants.{BadUrl, BadPattern, NotJson}
use Rattle.request_match.specs.declared.error.RequestMatchError.TheVariants.{NumberNotWhole, BadPath, OutOfMemory}
use Rattle.value_match.specs.Refusal.{HasPattern, MayBeRefused}
use Rattle.value_match.specs.declared.error.ValueError.{ValueError}
use Rattle.value_match.specs.declared.error.ValueError.TheVariants as value

pub url_error : (spec : RequestSpec) (e : RequestMatchError) → IsUrlRefusal spec.url e → IsRefusal spec e
url_error spec BadUrl f = f
url_error spec BadPattern f =
    let urls = url_matchers spec.url in
    let headers = matchers_of spec.headers in
    let query = matchers_of spec.query in (
      f.0,
      inl (any_left MayBeRefused (urls ++ headers ++ query) _
          (any_left MayBeRefused (urls ++ headers) _ (any_left MayBeRefused urls _ f.1))),
    )
url_error spec NotJson f = absurd f
url_error spec NumberNotWhole f = absurd f
url_error spec BadPath f = absurd f
url_error spec OutOfMemory f = f

pub head_error : (spec : RequestSpec) (e : ValueError) → HasTemplate spec.url →
    (e ≡ value.BadPattern → Any MayBeRefused (head_matchers spec)) → IsRefusal spec (error_of_value e)
head_error spec value.BadPattern t f = (t, inl (f refl))
head_error spec value.OutOfMemory t f = tt

module _ (spec : RequestSpec) where
  pub in_headers : Any MayBeRefused (matchers_of spec.headers) → Any MayBeRefused (head_matchers spec)
  in_headers a =
      let urls = url_matchers spec.url in
      let headers = matchers_of spec.headers in
      let query = matchers_of spec.query in
      any_left MayBeRefused (urls ++ headers ++ query) _
      (any_left MayBeRefused (urls ++ headers) _ (any_right MayBeRefused urls headers a))

  pub in_query : Any MayBeRefused (matchers_of spec.query) → Any MayBeRefused (head_matchers spec)
  in_query a =
      let before = url_matchers spec.url ++ matchers_of spec.headers in
      let query = matchers_of spec.query in
      any_left MayBeRefused (before ++ query) _ (any_right MayBeRefused before query a)

  pub in_cookies : Any MayBeRefused (matchers_of spec.cookies) → Any MayBeRefused (head_matchers spec)
  in_cookies a =
      any_right MayBeRefused (url_matchers spec.url ++ matchers_of spec.headers ++ matchers_of spec.query)
      (matchers_of spec.cookies) a

  pub head_patterns : All HasPattern (url_matchers spec.url) → All HasPattern (matchers_of spec.headers) →
      All HasPattern (matchers_of spec.query) → All HasPattern (matchers_of spec.cookies) →
      All HasPattern (head_matchers spec)
  head_patterns u h q k =
      All-append HasPattern _ _ (All-append HasPattern _ _ (All-append HasPattern _ _ u h) q) k

pub body_is_error : (spec : RequestSpec) (e : RequestMatchError) → HasTemplate spec.url →
    All HasPattern (head_matchers spec) → IsBodyRefusal spec.body e → IsRefusal spec e
body_is_error spec BadUrl t h f = absurd f
body_is_error spec BadPattern t h f = (t, inr f)
body_is_error spec NotJson t h f = (t, h, f)
body_is_error spec NumberNotWhole t h f = (t, h, f)
body_is_error spec BadPath t h f = (t, h, f)
body_is_error spec OutOfMemory t h f = f
