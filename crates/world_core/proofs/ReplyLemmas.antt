-- The response of a recorded reply is that reply.
use Rattle.std.proofs.Common.{◌≡◌, ℕ, true, List, [], ◌∷◌, map, All, refl, ap, ◌∙◌, inl, inr, subst}
use Rattle.std.specs.List.{AllZip}
use Rattle.std.specs.Str.{is_utf8}
use Rattle.std.proofs.lemmas.Bool.{cases_Bool, cond-true, cond-false}
use Rattle.http_header.specs.Token.{is_value_byte, space}
use Rattle.mapping_model.specs.Body.{text_body}
use Rattle.mapping_model.specs.declared.mapping_spec.MappingSpec.{MappingSpec}
use Rattle.mapping_model.specs.declared.reply.Reply.{Reply}
use Rattle.mapping_model.specs.declared.reply.ReplyHeader.{ReplyHeader}
use Rattle.mapping_model.specs.declared.response_spec.Body.{Body}
use Rattle.mapping_model.specs.declared.response_spec.Body.TheVariants as body
use Rattle.mapping_model.specs.declared.response_spec.ResponseSpec.{ResponseSpec}
use Rattle.mock_request.specs.Request.{Request}
use Rattle.recorder.specs.Stubs.{header_line, reply_body, response_of}
use Rattle.stub_response.specs.HeaderText.{header_text, value_byte}
use Rattle.stub_response.specs.Response.{IsBody, IsLine, IsMade, IsReplyOf, IsResponse, Itself, Meant}
use Rattle.stub_response.specs.declared.limits.Limits.{Limits}
use Rattle.world_core.proofs.ListFacts.{all_first, all_rest}

-- a value that header lines may have is sent as it is
same_text : (bytes : List ℕ) → All (λ b. is_value_byte b ≡ true) bytes → header_text bytes ≡ bytes
same_text [] all = refl
same_text (b ∷ bs) all =
    let first : value_byte b ≡ b =
    cond-true (is_value_byte b) b space (all_first (λ x. is_value_byte x ≡ true) b bs all) in
    let rest = same_text bs (all_rest (λ x. is_value_byte x ≡ true) b bs all) in
    λ i. first i ∷ rest i

abbrev pub IsClean : ReplyHeader → Type 0
IsClean header = All (λ b. is_value_byte b ≡ true) header.value

same_lines : (lines headers : List ReplyHeader) → All IsClean lines
    → AllZip (IsLine Itself) (map header_line lines) headers → headers ≡ lines
same_lines [] [] clean zip = refl
same_lines [] (h ∷ headers) clean zip = absurd zip
same_lines (l ∷ lines) [] clean zip = absurd zip
same_lines (l ∷ lines) (h ∷ headers) clean zip =
    let name : h.name ≡ l.name = zip.0.name in
    let value : h.value ≡ l.value =
    zip.0.value ∙ ap header_text zip.0.given ∙ same_text l.value (all_first IsClean l lines clean) in
    let rest = same_lines lines headers (all_rest IsClean l lines clean) zip.1 in
    λ i. record { name = name i; value = value i } ∷ rest i

text_is : (bytes given : List ℕ) → IsBody Itself (text_body bytes) given → given ≡ bytes
text_is [] given is = is
text_is (b ∷ bs) given is = is

same_body : (bytes given : List ℕ) → IsBody Itself (reply_body bytes) given → given ≡ bytes
same_body bytes given is = elim (cases_Bool (is_utf8 bytes)) [
  | inl hit ↦ text_is bytes given
      (subst (λ (b : Body (List ℕ)). IsBody Itself b given)
      (cond-true (is_utf8 bytes) (text_body bytes) (body.Base64 bytes) hit) is)
  | inr miss ↦
      subst (λ (b : Body (List ℕ)). IsBody Itself b given)
      (cond-false (is_utf8 bytes) (text_body bytes) (body.Base64 bytes) miss) is
]

pub same_reply : (limits : Limits) (mapping : MappingSpec) (request : Request) (recorded reply : Reply)
    → mapping.response ≡ response_of recorded → All IsClean recorded.headers
    → IsResponse limits mapping request reply → reply ≡ recorded
same_reply limits mapping request recorded reply is clean response =
    let Given : ResponseSpec → Type 0 =
    λ r. IsReplyOf Meant limits mapping.request.url r.status r.content request reply in
    let made : IsMade Itself recorded.status (map header_line recorded.headers) (reply_body recorded.body) reply =
    subst Given is response in
    let status = made.same_status in
    let headers = same_lines recorded.headers reply.headers clean made.headers in
    let body_is = same_body recorded.body reply.body made.body in
    λ i. record { status = status i; headers = headers i; body = body_is i }
