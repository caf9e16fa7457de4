use Rattle.std.proofs.Common.{ℕ, ◌≤◌, ◌∷◌, ◌++◌, List, arith, sym, subst}
use Rattle.std.specs.List.{AllZip}
use Rattle.shared_book.proofs.HeldLemmas.{all_go_append, all_go_filled, all_go_weaker}
use Rattle.shared_book.specs.Held.{LetsGo, filled}
use Rattle.shared_book.specs.Inner.Seat.{line_of, lines_in}
use Rattle.shared_book.specs.Receipts.{Line}
use Rattle.shared_book.proofs.lines.Lines.take_over.Goals as goal

pub returns-clause-joined : goal.returns-clause-joined
returns-clause-joined c =
    let last : ℕ = c.let_go-2.new.self.told in
    let others : List Line = line_of c.args.other.own ∷ lines_in c.args.other.joined.items in
    let gone : List Line = line_of c.let_go.new.self.own ∷ lines_in c.let_go.new.self.joined.items in
    subst (λ (ls : List Line). AllZip (LetsGo (λ n. n ≤ last))
    (lines_in c.args.self.now.joined.items ++ filled others) ls) (sym c.add_lists.ensures)
    (all_go_append (λ n. n ≤ last) (lines_in c.args.self.now.joined.items)
    (lines_in c.let_go-2.new.self.joined.items) (filled others) (filled gone) c.let_go-2.ensures.joined
    (all_go_filled (λ n. n ≤ last) others gone
    (all_go_weaker (λ n. n ≤ c.let_go.new.self.told) (λ n. n ≤ last)
    (λ n le. omega (arith, le, c.let_go-2.ensures.greater)) others gone
    (c.let_go.ensures.own, c.let_go.ensures.joined))))
