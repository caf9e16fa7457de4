-- How long the JSON text of a path is at most, with its segments and what a path template binds in it.
use Rattle.std.proofs.Common.{◌≡◌, ℕ, ◌+◌, ◌*◌, ◌≤◌, Bool, true, false, eqb, List, [], ◌∷◌}
use Rattle.std.proofs.Common.{map, length, drop, ◌-◌, ◌&&◌, Option, None, Some, arith, length-drop}
use Rattle.std.specs.List.{sum_by, slice_split, onto_first}
use Rattle.std.specs.Option.{option_map, option_map_or}
use Rattle.std.specs.Str.{bytes_eq}
use Rattle.std.proofs.lemmas.Bool.{cond_both}
use Rattle.std.proofs.lemmas.List.{length-take}
use Rattle.std.proofs.lemmas.List.Sums.{sum_by-cons}
use Rattle.data_tree.specs.Tree.{Members, no_members}
use Rattle.data_tree.specs.Json.{json, members_json}
use Rattle.data_tree.proofs.Sizes.{length_named}
use Rattle.mock_request.specs.Target.{slash}
use Rattle.mock_request.specs.Url.{segments_of, is_slash}
use Rattle.path_template.specs.Template.{Piece, Literal, Named, is_not_empty, inner, piece_of, pieces_of}
use Rattle.path_template.specs.Template.{is_name, braced}
use Rattle.path_template.specs.Matching.{Binding, bound, bindings_of}
use Rattle.request_data.specs.Grouped.{texts, firsts}
use Rattle.request_data.specs.Inner.Lengths.{template_len}
use Rattle.request_data.specs.RequestTree.{bound_in, path_tree}
use Rattle.request_data.proofs.TextBounds.{quoted_most, texts_most, text_cost, first_member}
use Rattle.request_data.proofs.GroupBounds.{pair_cost, firsts_most}

-- ---- segments

onto_first_cost
    : (p : ℕ → Bool) (b : ℕ) (bs : List ℕ) (pieces : List (List ℕ))
    → sum_by text_cost pieces ≤ 6 * length bs + 3
    → sum_by text_cost (onto_first b pieces) ≤ 6 * length (b ∷ bs) + 3
onto_first_cost p b bs [] within = omega (arith, sum_by-cons text_cost (b ∷ []) [])
onto_first_cost p b bs (piece ∷ pieces) within =
    omega (arith, sum_by-cons text_cost (b ∷ piece) pieces, sum_by-cons text_cost piece pieces)

split_cost : (p : ℕ → Bool) (bs : List ℕ) → sum_by text_cost (slice_split p bs) ≤ 6 * length bs + 3
split_cost p [] = omega arith
split_cost p (b ∷ bs) =
    cond_both (p b) ([] ∷ slice_split p bs) (onto_first b (slice_split p bs))
    (λ pieces. sum_by text_cost pieces ≤ 6 * length (b ∷ bs) + 3)
    (λ _. omega (arith, sum_by-cons text_cost [] (slice_split p bs), split_cost p bs))
    (λ _. onto_first_cost p b bs (slice_split p bs) (split_cost p bs))

segments_cost : (path : List ℕ) → sum_by text_cost (segments_of path) ≤ 6 * length path + 3
segments_cost [] = omega arith
segments_cost (leading ∷ []) = omega arith
segments_cost (leading ∷ b ∷ bs) = omega (arith, split_cost is_slash (b ∷ bs))

onto_first_length
    : (b : ℕ) (pieces : List (List ℕ)) → sum_by length (onto_first b pieces) ≤ 1 + sum_by length pieces
onto_first_length b [] = omega (arith, sum_by-cons length (b ∷ []) [])
onto_first_length b (piece ∷ pieces) =
    omega (arith, sum_by-cons length (b ∷ piece) pieces, sum_by-cons length piece pieces)

pub split_length : (p : ℕ → Bool) (bs : List ℕ) → sum_by length (slice_split p bs) ≤ length bs
split_length p [] = omega arith
split_length p (b ∷ bs) =
    cond_both (p b) ([] ∷ slice_split p bs) (onto_first b (slice_split p bs))
    (λ pieces. sum_by length pieces ≤ length (b ∷ bs))
    (λ _. omega (arith, sum_by-cons length [] (slice_split p bs), split_length p bs))
    (λ _. omega (arith, onto_first_length b (slice_split p bs), split_length p bs))

segments_length : (path : List ℕ) → sum_by length (segments_of path) ≤ length path
segments_length [] = omega arith
segments_length (leading ∷ []) = omega arith
segments_length (leading ∷ b ∷ bs) = omega (arith, split_length is_slash (b ∷ bs))

-- ---- what a path template binds

-- the bytes that a piece equals or its name has
abbrev piece_len : Piece → ℕ
piece_len (Literal bytes) = length bytes
piece_len (Named name) = length name

inner_most : (segment : List ℕ) → length (inner segment) ≤ length segment
inner_most segment =
    omega (arith, length-take (length segment - 2) (drop 1 segment), length-drop 1 segment)

piece_most : (segment : List ℕ) → piece_len (piece_of segment) ≤ length segment
piece_most segment =
    cond_both (is_name (inner segment) && bytes_eq segment (braced (inner segment))) (Some (inner segment)) None
    (λ name. piece_len (option_map_or Named name (Literal segment)) ≤ length segment)
    (λ _. inner_most segment) (λ _. omega arith)

pieces_most
    : (segments : List (List ℕ)) → sum_by piece_len (map piece_of segments) ≤ sum_by length segments
pieces_most [] = omega arith
pieces_most (segment ∷ segments) =
    omega (
      arith,
      sum_by-cons piece_len (piece_of segment) (map piece_of segments),
      sum_by-cons length segment segments,
      piece_most segment,
      pieces_most segments,
    )

-- the cost of bindings, and nothing where there are none
abbrev bindings_cost : Option (List Binding) → ℕ
bindings_cost None = 0
bindings_cost (Some bindings) = sum_by pair_cost bindings

one_more
    : (name segment : List ℕ) (rest : Option (List Binding)) (pieces : List Piece) (segments : List (List ℕ))
    → bindings_cost rest ≤ 6 * sum_by piece_len pieces + 53 * sum_by length segments
    → is_not_empty segment ≡ true
    → bindings_cost (option_map (λ bindings. (name, segment) ∷ bindings) rest)
    ≤ 6 * sum_by piece_len (Named name ∷ pieces) + 53 * sum_by length (segment ∷ segments)
one_more name segment None pieces segments within some = omega arith
one_more name [] (Some bindings) pieces segments within some = cc
one_more name (b ∷ bs) (Some bindings) pieces segments within some =
    omega (
      arith,
      sum_by-cons pair_cost (name, b ∷ bs) bindings,
      sum_by-cons piece_len (Named name) pieces,
      sum_by-cons length (b ∷ bs) segments,
    )

bound_most
    : (pieces : List Piece) (segments : List (List ℕ))
    → bindings_cost (bound pieces segments) ≤ 6 * sum_by piece_len pieces + 53 * sum_by length segments
bound_most [] [] = omega arith
bound_most [] (segment ∷ segments) = omega arith
bound_most (piece ∷ pieces) [] = omega arith
bound_most (Literal bytes ∷ pieces) (segment ∷ segments) =
    cond_both (bytes_eq segment bytes) (bound pieces segments) None
    (λ found. bindings_cost found
    ≤ 6 * sum_by piece_len (Literal bytes ∷ pieces) + 53 * sum_by length (segment ∷ segments))
    (λ _. omega (
      arith,
      bound_most pieces segments,
      sum_by-cons piece_len (Literal bytes) pieces,
      sum_by-cons length segment segments,
    ))
    (λ _. omega arith)
bound_most (Named name ∷ pieces) (segment ∷ segments) =
    cond_both (is_not_empty segment)
    (option_map (λ bindings. (name, segment) ∷ bindings) (bound pieces segments)) None
    (λ found. bindings_cost found
    ≤ 6 * sum_by piece_len (Named name ∷ pieces) + 53 * sum_by length (segment ∷ segments))
    (one_more name segment (bound pieces segments) pieces segments (bound_most pieces segments))
    (λ _. omega arith)

bindings_most
    : (template path : List ℕ)
    → bindings_cost (bindings_of template path) ≤ 6 * length template + 53 * length path
bindings_most template [] = omega arith
bindings_most template (b ∷ bs) =
    cond_both (eqb b slash) (bound (pieces_of template) (segments_of (b ∷ bs))) None
    (λ found. bindings_cost found ≤ 6 * length template + 53 * length (b ∷ bs))
    (λ _. omega (
      arith,
      bound_most (pieces_of template) (segments_of (b ∷ bs)),
      pieces_most (segments_of template),
      segments_length template,
      segments_length (b ∷ bs),
    ))
    (λ _. omega arith)

members_by
    : (found : Option (List Binding))
    → length (members_json true (option_map_or firsts found no_members)) ≤ bindings_cost found
members_by None = omega arith
members_by (Some bindings) = firsts_most bindings

bound_in_most
    : (path : List ℕ) (template : Option (List ℕ))
    → length (members_json true (bound_in path template)) ≤ 6 * template_len template + 53 * length path
bound_in_most path None = omega arith
bound_in_most path (Some template) =
    omega (arith, members_by (bindings_of template path), bindings_most template path)

-- ---- paths

path_tree_most
    : (path : List ℕ) (bindings : Members)
    → length (json (path_tree path bindings)) ≤ 12 * length path + 37 + length (members_json true bindings)
path_tree_most path bindings =
    omega (
      arith,
      length_named path (texts (segments_of path)) bindings,
      quoted_most path,
      texts_most false (segments_of path),
      segments_cost path,
      first_member bindings,
    )

pub path_segments_most : (path : List ℕ) → length (json (path_tree path no_members)) ≤ 12 * length path + 37
path_segments_most path = omega (arith, path_tree_most path no_members)

pub path_most
    : (path : List ℕ) (template : Option (List ℕ))
    → length (json (path_tree path (bound_in path template))) ≤ 65 * length path + 6 * template_len template + 37
path_most path template = omega (arith, path_tree_most path (bound_in path template), bound_in_most path template)
