-- What was rendered is what is meant.
use Rattle.std.proofs.Common.{◌≡◌, ◌<◌, inl, inr, ℕ, List, Option, refl, sym, subst, arith}
use Rattle.data_tree.specs.Json.{size}
use Rattle.data_tree.specs.Tree.{Tree}
use Rattle.data_tree.specs.declared.request_data.TheConstants.{SIZE_LIMIT}
use Rattle.error_code.specs.declared.error_code.ErrorCode.TheVariants.{OverBudget}
use Rattle.mapping_model.specs.declared.header_lines.HeaderLine.{HeaderLine}
use Rattle.mapping_model.specs.declared.reply.Reply.{Reply}
use Rattle.mapping_model.specs.declared.reply.ReplyHeader.{ReplyHeader}
use Rattle.mapping_model.specs.declared.response_spec.Body.{Body}
use Rattle.mapping_model.specs.declared.response_spec.Body.TheVariants.{Empty, Text, Json, Base64}
use Rattle.mapping_model.specs.declared.response_spec.Content.{Content}
use Rattle.mapping_model.specs.declared.response_spec.Content.TheVariants.{Plain, Templated}
use Rattle.mapping_model.specs.declared.url_spec.UrlSpec.{UrlSpec}
use Rattle.mock_request.specs.Request.{Request}
use Rattle.request_data.specs.RequestTree.{request_tree}
use Rattle.stub_response.proofs.ListLemmas.{all_zip_weaker}
use Rattle.template_tree.specs.Source.{Source}
use Rattle.stub_response.specs.ErrorReply.{error_reply}
use Rattle.stub_response.specs.Response.{Giving, IsBody, IsBodyOf, IsBodyOver, IsLine, IsMade, IsPathTemplate}
use Rattle.stub_response.specs.Response.{IsReplyOf, IsReplyOver, Meant, Rendered}
use Rattle.stub_response.specs.declared.limits.Limits.{Limits}

meant_line :
    (root : Tree) (line : HeaderLine Source) (header : ReplyHeader)
    → IsLine (Rendered root) line header → IsLine (Meant root) line header
meant_line root line header h =
    record { text = h.text; given = h.given.meant; name = h.name; value = h.value }

meant_body :
    (root : Tree) (content : Body Source) (bytes : List ℕ)
    → IsBody (Rendered root) content bytes → IsBody (Meant root) content bytes
meant_body root Empty bytes h = h
meant_body root (Text text) bytes h = h.meant
meant_body root (Json text) bytes h = h
meant_body root (Base64 octets) bytes h = h

meant_parts :
    (root : Tree) (status : ℕ) (lines : List (HeaderLine Source)) (content : Body Source) (reply : Reply)
    → IsMade (Rendered root) status lines content reply → IsMade (Meant root) status lines content reply
meant_parts root status lines content reply h = record {
  same_status = h.same_status;
  headers =
      all_zip_weaker (IsLine (Rendered root)) (IsLine (Meant root)) (meant_line root) lines reply.headers h.headers;
  body = meant_body root content reply.body h.body;
}

pub meant_reply :
    (limits : Limits) (matcher : UrlSpec) (status : ℕ) (content : Content) (request : Request) (reply : Reply)
    → IsReplyOf Rendered limits matcher status content request reply
    → IsReplyOf Meant limits matcher status content request reply
meant_reply limits matcher status (Plain lines body) request reply h = h
meant_reply limits matcher status (Templated lines body) request reply (root, asked, inl made) =
    (root, asked, inl (made.0, meant_parts root status lines body reply made.1))
meant_reply limits matcher status (Templated lines body) request reply (root, asked, inr over) =
    (root, asked, inr over)

-- what was made over the data of the request is the reply to it
pub reply_over :
    (limits : Limits) (matcher : UrlSpec) (status : ℕ) (content : Content) (lines given : List (HeaderLine Source))
    (body : Body Source) (request : Request) (template : Option (List ℕ)) (root : Tree) (reply : Reply)
    → content ≡ Templated lines body → given ≡ lines → IsPathTemplate matcher template
    → root ≡ request_tree request template → IsReplyOver (Rendered root) limits status given body root reply
    → IsReplyOf Rendered limits matcher status content request reply
reply_over limits matcher status content lines given body request template root reply is same asked same_root made =
    subst (λ c. IsReplyOf Rendered limits matcher status c request reply) (sym is) (
      root,
      (template, asked, same_root),
      subst (λ ls. IsReplyOver (Rendered root) limits status ls body root reply) same made,
    )

-- and so the body that was made over it is the body of that reply
pub body_over :
    (limits : Limits) (matcher : UrlSpec) (content : Content) (lines given : List (HeaderLine Source))
    (body : Body Source) (request : Request) (template : Option (List ℕ)) (made : Option (List ℕ))
    → content ≡ Templated lines body → given ≡ lines → IsPathTemplate matcher template
    → IsBodyOver (Rendered (request_tree request template)) limits given body (request_tree request template) made
    → IsBodyOf Rendered limits matcher content request made
body_over limits matcher content lines given body request template made is same asked over =
    let root = request_tree request template in
    subst (λ c. IsBodyOf Rendered limits matcher c request made) (sym is) (
      root,
      (template, asked, refl),
      subst (λ ls. IsBodyOver (Rendered root) limits ls body root made) same over,
    )

-- data over its limit is answered by an error
pub too_large :
    (Gives : Giving Source) (limits : Limits) (status : ℕ) (lines : List (HeaderLine Source)) (body : Body Source)
    (root : Tree) (reply : Reply) → SIZE_LIMIT < size root → reply ≡ error_reply 500 OverBudget
    → IsReplyOver Gives limits status lines body root reply
too_large Gives limits status lines body root reply large same = inr (λ within. omega (arith, large, within.0), same)
