-- How long the JSON text of a query's names and values is at most.
use Rattle.std.proofs.Common.{◌≡◌, ℕ, ◌+◌, ◌*◌, ◌<◌, ◌≤◌, Bool, true, false, eqb, List, []}
use Rattle.std.proofs.Common.{◌∷◌, map, length, take, drop, Option, None, Some, refl, arith, length-drop}
use Rattle.std.specs.List.{sum_by, filter, position_or_len}
use Rattle.std.specs.Str.Lossy.{utf8_lossy}
use Rattle.std.proofs.lemmas.Bool.{cond_both, ltb-true}
use Rattle.std.proofs.lemmas.List.{length-map, length-take}
use Rattle.std.proofs.lemmas.List.Sums.{sum_by-cons}
use Rattle.percent_encoding.proofs.PercentLemmas.{length-percent_decode}
use Rattle.form_urlencoded.specs.Form.{ampersand, equals_sign, split, onto_first, split_pair, is_nonempty, raw_pairs}
use Rattle.form_urlencoded.specs.Form.{plus_to_space, decode, parse}
use Rattle.mock_request.specs.Query.{text_pair, form_pairs}
use Rattle.request_data.proofs.TextBounds.{lossy_most}
use Rattle.request_data.proofs.GroupBounds.{pair_cost}

decode_most : (bs : List ℕ) → length (utf8_lossy (decode bs)) ≤ 3 * length bs
decode_most bs =
    omega (
      arith,
      lossy_most (decode bs),
      (length-percent_decode (map plus_to_space bs)).0,
      length-map bs plus_to_space,
    )

-- a piece between `&`, as a pair
abbrev pair_at : List ℕ → List ℕ × List ℕ
pair_at piece = text_pair (decode (split_pair piece).0, decode (split_pair piece).1)

pub two_parts : (bs : List ℕ) (n : ℕ) → length (take n bs) + length (drop (n + 1) bs) ≤ length bs
two_parts bs n = omega (arith, length-take n bs, length-drop (n + 1) bs)

piece_most : (piece : List ℕ) → 0 < length piece → pair_cost (pair_at piece) ≤ 77 * length piece
piece_most piece some =
    omega (
      arith,
      decode_most (split_pair piece).0,
      decode_most (split_pair piece).1,
      two_parts piece (position_or_len (λ b. eqb b equals_sign) piece),
    )

-- the pairs of pieces
abbrev pairs_at : List (List ℕ) → List (List ℕ × List ℕ)
pairs_at pieces = map text_pair (map (λ (name, value). (decode name, decode value)) (map split_pair pieces))

pieces_most
    : (pieces : List (List ℕ))
    → sum_by pair_cost (pairs_at (filter is_nonempty pieces)) ≤ 77 * sum_by length pieces
pieces_most [] = omega arith
pieces_most (piece ∷ pieces) = by (is_nonempty piece) refl (pieces_most pieces)
  where
    by
        : (b : Bool) → is_nonempty piece ≡ b
        → sum_by pair_cost (pairs_at (filter is_nonempty pieces)) ≤ 77 * sum_by length pieces
        → sum_by pair_cost (pairs_at (filter is_nonempty (piece ∷ pieces)))
        ≤ 77 * sum_by length (piece ∷ pieces)
    by true e later =
        rw e (omega (
          arith,
          sum_by-cons length piece pieces,
          sum_by-cons pair_cost (pair_at piece) (pairs_at (filter is_nonempty pieces)),
          piece_most piece (ltb-true 0 (length piece) e),
        ))
    by false e later = rw e (omega (arith, sum_by-cons length piece pieces))

onto_first_length
    : (b : ℕ) (pieces : List (List ℕ)) → sum_by length (onto_first b pieces) ≤ 1 + sum_by length pieces
onto_first_length b [] = omega (arith, sum_by-cons length (b ∷ []) [])
onto_first_length b (piece ∷ pieces) =
    omega (arith, sum_by-cons length (b ∷ piece) pieces, sum_by-cons length piece pieces)

split_length : (s : ℕ) (bs : List ℕ) → sum_by length (split s bs) ≤ length bs
unfolding split
split_length s [] = omega arith
split_length s (b ∷ bs) =
    cond_both (eqb b s) ([] ∷ split s bs) (onto_first b (split s bs))
    (λ pieces. sum_by length pieces ≤ length (b ∷ bs))
    (λ _. omega (arith, sum_by-cons length [] (split s bs), split_length s bs))
    (λ _. omega (arith, onto_first_length b (split s bs), split_length s bs))

parse_most : (bs : List ℕ) → sum_by pair_cost (map text_pair (parse bs)) ≤ 77 * length bs
unfolding raw_pairs
parse_most bs = omega (arith, pieces_most (split ampersand bs), split_length ampersand bs)

-- how long a query is, if there is one
abbrev pub query_len : Option (List ℕ) → ℕ
query_len None = 0
query_len (Some query) = length query

pub form_most : (query : Option (List ℕ)) → sum_by pair_cost (form_pairs query) ≤ 77 * query_len query
form_most None = omega arith
form_most (Some query) = parse_most query
