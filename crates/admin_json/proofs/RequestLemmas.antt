-- The JSON of requests has its names in order, and the number of each event as its one number.
use Rattle.std.proofs.Common.{ℕ, List, [], ◌∷◌, length, map, codes}
use Rattle.std.specs.List.{AllByRecursion}
use Rattle.std.specs.Str.Lossy.{utf8_lossy}
use Rattle.admin_json.specs.Pairs.{json_of_pairs, with_values}
use Rattle.admin_json.specs.Requests.{json_of_received, json_of_entry, json_of_entries, json_of_requests, json_of_found}
use Rattle.admin_json.specs.Written.{json_of_count, json_of_meta, json_of_texts}
use Rattle.mock_request.specs.HeaderFields.{header_pairs}
use Rattle.mock_request.specs.Request.{Request}
use Rattle.mock_request.specs.Values.{values_of}
use Rattle.request_data.specs.Grouped.{names_in}
use Rattle.request_journal.specs.declared.entry.Entry.{Entry}
use Rattle.serde_json.specs.Data.{Num, unsigned, Data, string, object, Members, no_members, put}
use Rattle.serde_json.specs.View.{items_of}
use Rattle.admin_json.proofs.Regular.{IsRegular, AreRegular, has_put, ordered_put}

module _ (P : Num → Type 0) where
  put_regular
      : (k : List ℕ) (d : Data) (ms : Members) → IsRegular P d → IsRegular P (object ms)
      → IsRegular P (object (put k d ms))
  put_regular k d ms here rest = (ordered_put k d ms rest.0, has_put P k d ms here rest.1)

  texts_regular : (texts : List (List ℕ)) → AreRegular P (items_of (map string texts))
  texts_regular [] = tt
  texts_regular (text ∷ texts) = (tt, texts_regular texts)

  values_regular
      : (names : List (List ℕ)) (pairs : List (List ℕ × List ℕ)) (ms : Members) → IsRegular P (object ms)
      → IsRegular P (object (with_values names pairs ms))
  values_regular [] pairs ms is = is
  values_regular (name ∷ names) pairs ms is =
      values_regular names pairs (put name (json_of_texts (values_of name pairs)) ms)
      (put_regular name (json_of_texts (values_of name pairs)) ms (texts_regular (values_of name pairs)) is)

  pairs_regular : (pairs : List (List ℕ × List ℕ)) → IsRegular P (json_of_pairs pairs)
  pairs_regular pairs = values_regular (names_in pairs) pairs no_members (tt, tt)

  received_regular : (request : Request) → IsRegular P (json_of_received request)
  unfolding json_of_received
  received_regular request =
      let body : Members = put (codes "body") (string (utf8_lossy request.body)) no_members in
      let headers : Members = put (codes "headers") (json_of_pairs (header_pairs request.headers)) body in
      let method : Members = put (codes "method") (string request.method) headers in
      put_regular (codes "url") (string request.url) method tt
      (put_regular (codes "method") (string request.method) headers tt
      (put_regular (codes "headers") (json_of_pairs (header_pairs request.headers)) body
      (pairs_regular (header_pairs request.headers))
      (put_regular (codes "body") (string (utf8_lossy request.body)) no_members tt (tt, tt))))

  pub entry_regular : (entry : Entry) → P (unsigned entry.number) → IsRegular P (json_of_entry entry)
  entry_regular entry number =
      let event : Members = put (codes "event") (json_of_count entry.number) no_members in
      put_regular (codes "request") (json_of_received entry.request) event (received_regular entry.request)
      (put_regular (codes "event") (json_of_count entry.number) no_members number (tt, tt))

  entries_regular
      : (entries : List Entry) → AllByRecursion (λ entry. P (unsigned entry.number)) entries
      → AreRegular P (items_of (map json_of_entry entries))
  entries_regular [] all = tt
  entries_regular (entry ∷ entries) all =
      (entry_regular entry all.0, entries_regular entries all.1)

  pub found_regular
      : (entries : List Entry) → AllByRecursion (λ entry. P (unsigned entry.number)) entries
      → IsRegular P (json_of_found entries)
  found_regular entries all =
      put_regular (codes "requests") (json_of_entries entries) no_members (entries_regular entries all) (tt, tt)

  pub requests_regular
      : (entries : List Entry) → P (unsigned (length entries))
      → AllByRecursion (λ entry. P (unsigned entry.number)) entries
      → IsRegular P (json_of_requests entries)
  requests_regular entries total all =
      let meta : Members = put (codes "meta") (json_of_meta (length entries)) no_members in
      put_regular (codes "requests") (json_of_entries entries) meta (entries_regular entries all)
      (put_regular (codes "meta") (json_of_meta (length entries)) no_members
      (put_regular (codes "total") (json_of_count (length entries)) no_members total (tt, tt)) (tt, tt))
