-- Responses of which something was prepared, with the runs that wrote their texts.
use Rattle.std.proofs.Common.{ℕ, List, Some, None, inl, inr, refl, sym, subst}
use Rattle.std.specs.List.{AllZip}
use Rattle.error_code.specs.declared.error_code.ErrorCode.TheVariants.{OverBudget}
use Rattle.http_header.specs.FieldValue.{FieldValue}
use Rattle.http_header.specs.HeaderMap.{Entries}
use Rattle.mapping_model.specs.declared.mapping_spec.MappingSpec.{MappingSpec}
use Rattle.mapping_model.specs.declared.reply.Reply.{Reply}
use Rattle.mapping_model.specs.declared.response_spec.Content.{Content}
use Rattle.mapping_model.specs.declared.response_spec.Content.TheVariants.{Plain, Templated}
use Rattle.mock_request.specs.Request.{Request}
use Rattle.stub_response.specs.ErrorReply.{error_reply}
use Rattle.stub_response.specs.PlainResponse.{HoldsReply}
use Rattle.stub_response.specs.Prepared.{IsPrepared, IsPreparedOf}
use Rattle.stub_response.specs.Response.{IsBodyOf, IsLine, IsRenderedBody, IsRendering, IsReplyOf, Rendered}
use Rattle.stub_response.specs.declared.limits.Limits.{Limits}
use Rattle.stub_response.specs.declared.plain_response.PlainResponse.{PlainResponse}
use Rattle.stub_response.specs.declared.prepared.Prepared.TheVariants as prepared

module _ (limits : Limits) (mapping : MappingSpec) (request : Request) where
  -- the response of a mapping, as `http` holds it
  abbrev HasRendering : Content → PlainResponse → Type 0
  HasRendering content made =
      (reply : Reply) × IsReplyOf Rendered limits mapping.request.url mapping.response.status content request reply
      × HoldsReply reply made

  -- a whole response that was prepared is the response to each request
  pub is_rendering : (plain : PlainResponse) → IsPrepared mapping.response (prepared.Response plain) →
      (reply : Reply) × IsRendering limits mapping request reply × HoldsReply reply plain
  is_rendering plain = by mapping.response.content
    where
      by : (content : Content) → IsPreparedOf mapping.response.status content (prepared.Response plain) →
          HasRendering content plain
      by (Plain lines body) holds = holds
      by (Templated lines body) holds = absurd holds

  -- headers that were prepared, and the body, are the response
  pub is_rendering_with : (headers : Entries FieldValue) (bytes : List ℕ) →
      IsPrepared mapping.response (prepared.Headers headers) → IsRenderedBody limits mapping request (Some bytes) →
      (reply : Reply) × IsRendering limits mapping request reply
      × HoldsReply reply (record { status = mapping.response.status; headers = headers; body = bytes })
  is_rendering_with headers bytes = by mapping.response.content
    where
      by : (content : Content) → IsPreparedOf mapping.response.status content (prepared.Headers headers) →
          IsBodyOf Rendered limits mapping.request.url content request (Some bytes) →
          HasRendering content (record { status = mapping.response.status; headers = headers; body = bytes })
      by (Plain lines body) holds made = absurd holds
      by (Templated lines body) holds (root, (template, asked, same), (within, given)) =
          let over = holds request template in
          let reply : Reply = record { status = mapping.response.status; headers = over.0; body = bytes } in
          let lines_over = subst (λ r. AllZip (IsLine (Rendered r)) lines over.0) (sym same) over.1 in (
            reply,
            (
              root,
              (template, asked, same),
              inl (within, record { same_status = refl; headers = lines_over; body = given }),
            ),
            record { status = refl; headers = over.2; body = refl },
          )

  -- where there is no body an error is the response
  pub is_over : (headers : Entries FieldValue) → IsPrepared mapping.response (prepared.Headers headers) →
      IsRenderedBody limits mapping request None → IsRendering limits mapping request (error_reply 500 OverBudget)
  is_over headers = by mapping.response.content
    where
      by : (content : Content) → IsPreparedOf mapping.response.status content (prepared.Headers headers) →
          IsBodyOf Rendered limits mapping.request.url content request None →
          IsReplyOf Rendered limits mapping.request.url mapping.response.status content request
          (error_reply 500 OverBudget)
      by (Plain lines body) holds made = absurd holds
      by (Templated lines body) holds (root, asked, over) = (root, asked, inr (over, refl))
