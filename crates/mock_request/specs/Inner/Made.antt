-- What a `RequestValues` keeps.
use Rattle.std.specs.Prelude.{◌≡◌, All, MatchOption, string_bytes}
use Rattle.std.specs.Str.{IsUtf8}
use Rattle.std.specs.Str.Lossy.{utf8_lossy}
use Rattle.mock_request.specs.Query.{query_pairs}
use Rattle.mock_request.specs.Cookies.{cookie_pairs}
use Rattle.mock_request.specs.HeaderFields.{header_pairs}
use Rattle.mock_request.specs.Values.{pairs_of}
use Rattle.mock_request.specs.declared.request_values.RequestValues.TheInside.{Inside}

-- where no texts were made, those of the request are UTF-8
pub record AreValues (values : Inside) : Type 0 where
  pub query : pairs_of values.query.items ≡ query_pairs values.snapshot.now.url
  pub cookies : pairs_of values.cookies.items ≡ cookie_pairs values.snapshot.now.headers
  pub headers : MatchOption values.made_headers
      (All (λ header. IsUtf8 header.value) values.snapshot.now.headers)
      (λ pairs. pairs_of pairs.items ≡ header_pairs values.snapshot.now.headers)
  pub body : MatchOption values.made_body (IsUtf8 values.snapshot.now.body)
      (λ text. string_bytes text ≡ utf8_lossy values.snapshot.now.body)
