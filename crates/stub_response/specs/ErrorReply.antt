-- The replies that aren't a mapping's response: with a JSON body, as the one that reports an error, and the one to a
-- request that no mapping matches.
use Rattle.std.specs.Prelude.{ℕ, List, [], ◌∷◌, ◌++◌, codes, decimal}
use Rattle.error_code.specs.Codes.{number_of, title_of}
use Rattle.error_code.specs.declared.error_code.ErrorCode.{ErrorCode}
use Rattle.mapping_model.specs.declared.reply.Reply.{Reply}

-- as {"errors":[{"code":52,"title":"over budget"}]}; no title has a character that JSON escapes
abbrev pub error_body : ErrorCode → List ℕ
error_body code =
    codes "{\"errors\":[{\"code\":" ++ (decimal (number_of code)
    ++ (codes ",\"title\":\"" ++ (title_of code ++ codes "\"}]}")))

-- a reply that names the media type of its body
abbrev pub typed_reply : ℕ → List ℕ → List ℕ → Reply
typed_reply status media_type body = record {
  status = status;
  headers = record { name = codes "content-type"; value = media_type } ∷ [];
  body = body;
}

-- a reply with this JSON text as its body
abbrev pub json_reply : ℕ → List ℕ → Reply
json_reply status body = typed_reply status (codes "application/json") body

abbrev pub error_reply : ℕ → ErrorCode → Reply
error_reply status code = json_reply status (error_body code)

-- the reply to a request that no mapping matches
abbrev pub unmatched_reply : Reply
unmatched_reply = typed_reply 404 (codes "text/plain") (codes "No matching stub mapping\n")
