-- Copies of headers.
use Rattle.std.proofs.Common.{◌≡◌, List, [], ◌∷◌, refl}
use Rattle.std.specs.List.{AllZip}
use Rattle.http_header.specs.FieldValue.{FieldValue}
use Rattle.http_header.specs.HeaderMap.{Entries, IsMapClone}

values_same : (values copies : List FieldValue) → AllZip (λ value copy. copy ≡ value) values copies
    → copies ≡ values
values_same [] [] is = refl
values_same [] (copy ∷ copies) is = elim is [ ]
values_same (value ∷ values) [] is = elim is [ ]
values_same (value ∷ values) (copy ∷ copies) is = rw (is.0, values_same values copies is.1) refl

-- a copy of headers is equal to them
pub headers_same : (headers copies : Entries FieldValue) → IsMapClone (λ value copy. copy ≡ value) headers copies
    → copies ≡ headers
headers_same [] [] is = refl
headers_same [] (copy ∷ copies) is = elim is [ ]
headers_same (header ∷ headers) [] is = elim is [ ]
headers_same ((name, values) ∷ headers) ((copied, copied_values) ∷ copies) is =
    rw (is.0.0, values_same values copied_values is.0.1, headers_same headers copies is.1) refl
