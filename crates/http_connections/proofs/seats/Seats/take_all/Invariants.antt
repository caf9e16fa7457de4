use Rattle.std.proofs.Common.{◌≡◌, ◌∷◌, IfSome, List}
use Rattle.http_connections.proofs.seats.Seats.take_all.Given as goal

abbrev pub invariant-loop-cell : goal.invariant-loop-cell
invariant-loop-cell g l =
    IfSome l.fn.self.own (λ first. (others : List g.row.S.Denot) × (l.seats.items ≡ first ∷ others))
