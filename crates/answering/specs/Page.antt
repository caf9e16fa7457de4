-- The page of a server, in which a browser shows and steers it.
use Rattle.std.specs.Prelude.{◌≡◌, ℕ, List, [], ◌∷◌, Option, Some, codes}
use Rattle.mapping_model.specs.declared.reply.Reply.{Reply}
use Rattle.mapping_model.specs.declared.reply.ReplyHeader.{ReplyHeader}
use Rattle.mock_request.specs.Request.{Request}
use Rattle.mock_request.specs.Url.{path_of}

-- the request asks for it
abbrev pub IsPageCall : Request → Type 0
IsPageCall request = (request.method ≡ codes "GET") × (path_of request.url ≡ codes "/__admin/page")

-- there is a page with these bytes, and the request asks for it
abbrev pub IsGivenPage : Option (List ℕ) → Request → List ℕ → Type 0
IsGivenPage page request bytes = (page ≡ Some bytes) × IsPageCall request

-- it may run its own script, may load from nowhere but this server, and no page may show it in a frame (Content Security
-- Policy Level 3)
abbrev pub page_policy : List ℕ
page_policy =
    codes "default-src 'none'; script-src 'unsafe-inline'; style-src 'unsafe-inline'; connect-src 'self'; img-src data:; frame-ancestors 'none'"

abbrev pub page_headers : List ReplyHeader
page_headers =
    record { name = codes "content-type"; value = codes "text/html; charset=utf-8" }
    ∷ record { name = codes "content-security-policy"; value = page_policy }
    ∷ record { name = codes "x-content-type-options"; value = codes "nosniff" }
    ∷ record { name = codes "cache-control"; value = codes "no-store" } ∷ []

-- the reply with these bytes
abbrev pub page_reply : List ℕ → Reply
page_reply page = record { status = 200; headers = page_headers; body = page }
