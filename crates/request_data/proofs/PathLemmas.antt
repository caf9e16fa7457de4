-- The pieces of a path as items of the data.
use Rattle.std.proofs.Common.{◌≡◌, ◌≢◌, ℕ, List, [], ◌∷◌, map, Bor, Option, None, Some, unwrap_or}
use Rattle.std.proofs.Common.{MatchOption, refl, ap}
use Rattle.data_tree.specs.Tree.{text, item, items_of}
use Rattle.mock_request.specs.Target.{slash, IsRooted}
use Rattle.request_data.specs.Grouped.{texts}

-- the pieces that a loop went over, as items
pub texts_from_pieces
    : (pieces : List (Bor (List ℕ)))
    → items_of (map (λ (piece : Bor (List ℕ)). text piece.now) pieces)
    ≡ texts (map (λ (piece : Bor (List ℕ)). piece.now) pieces)
texts_from_pieces [] = refl
texts_from_pieces (piece ∷ pieces) = ap (item (text piece.now)) (texts_from_pieces pieces)

-- what follows a path's leading slash
pub after_slash
    : (path : List ℕ) (r : Option (Bor (List ℕ))) (none : Bor (List ℕ)) → IsRooted path
    → MatchOption r ((rest : List ℕ) → path ≢ slash ∷ rest) (λ x. path ≡ slash ∷ x.now)
    → path ≡ slash ∷ (unwrap_or r none).now
after_slash [] None none rooted cut = absurd rooted
after_slash (b ∷ bs) None none rooted cut = absurd (cut bs (ap (λ d. d ∷ bs) rooted))
after_slash path (Some x) none rooted cut = cut
