use Rattle.std.proofs.Common.{◌≡◌, ◌++◌, ℕ, List, OnOk, subst}
use Rattle.shared_book.proofs.ShortLemmas.{concat_view}
use Rattle.shared_book.proofs.short_lists.ShortLists.add_to.Goals as goal

pub returns : goal.returns
returns c =
    subst (λ (ns : List ℕ). OnOk c.add_to.result (c.add_to.new.all.items ≡ c.args.all.now.items ++ ns))
    (concat_view c.self.inside.sizes.items c.self.inside.numbers c.args.self.now c.self.invariant c.self.view_is)
    c.add_to.ensures
