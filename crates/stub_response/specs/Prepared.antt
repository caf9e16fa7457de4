-- What the responses of a mapping have in common.
use Rattle.std.specs.Prelude.{◌≡◌, ℕ, List, Option}
use Rattle.std.specs.List.{AllZip}
use Rattle.http_header.specs.FieldValue.{FieldValue}
use Rattle.http_header.specs.HeaderMap.{Entries}
use Rattle.mapping_model.specs.declared.header_lines.HeaderLine.{HeaderLine}
use Rattle.mapping_model.specs.declared.reply.ReplyHeader.{ReplyHeader}
use Rattle.mapping_model.specs.declared.response_spec.Content.{Content}
use Rattle.mapping_model.specs.declared.response_spec.Content.TheVariants.{Plain, Templated}
use Rattle.mapping_model.specs.declared.response_spec.ResponseSpec.{ResponseSpec}
use Rattle.mock_request.specs.Request.{Request}
use Rattle.request_data.specs.RequestTree.{request_tree}
use Rattle.template_tree.specs.Source.{Source}
use Rattle.stub_response.specs.Headers.{headers_of}
use Rattle.stub_response.specs.PlainResponse.{HoldsLines}
use Rattle.stub_response.specs.Response.{IsLine, Rendered}
use Rattle.stub_response.specs.declared.prepared.Prepared.{Prepared}
use Rattle.stub_response.specs.declared.prepared.Prepared.TheVariants as prepared

-- it holds the headers that these lines give over each request
abbrev pub HoldsHeaders : List (HeaderLine Source) → Entries FieldValue → Type 0
HoldsHeaders lines made =
    (request : Request) (template : Option (List ℕ)) → (headers : List ReplyHeader)
    × AllZip (IsLine (Rendered (request_tree request template))) lines headers × (made ≡ headers_of headers)

-- the whole response where there are no templates; or the headers of one with templates, or nothing
abbrev pub IsPreparedOf : ℕ → Content → Prepared → Type 0
IsPreparedOf status (Plain lines content) (prepared.Response made) = HoldsLines status lines content made
IsPreparedOf status (Plain lines content) (prepared.Headers made) = ⊥
IsPreparedOf status (Plain lines content) prepared.Nothing = ⊥
IsPreparedOf status (Templated lines content) (prepared.Response made) = ⊥
IsPreparedOf status (Templated lines content) (prepared.Headers made) = HoldsHeaders lines made
IsPreparedOf status (Templated lines content) prepared.Nothing = Unit {0}

abbrev pub IsPrepared : ResponseSpec → Prepared → Type 0
IsPrepared response made = IsPreparedOf response.status response.content made
