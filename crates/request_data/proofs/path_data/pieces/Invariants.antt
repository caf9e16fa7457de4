use Rattle.std.proofs.Common.{◌≡◌, ℕ, List, map, Bor}
use Rattle.data_tree.specs.Tree.{text, view}
use Rattle.request_data.proofs.path_data.pieces.Given as goal

abbrev pub invariant-loop-piece : goal.invariant-loop-piece
invariant-loop-piece l = map view l.pieces.items ≡ map (λ (piece : Bor (List ℕ)). text piece.now) l.yielded
