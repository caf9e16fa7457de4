use Rattle.std.proofs.Common.{◌≡◌, ◌++◌, ◌∙◌, ℕ, List, ap}
use Rattle.shared_book.proofs.ShortLemmas.{cut_added}
use Rattle.shared_book.proofs.short_lists.ShortLists.append.Goals as goal

pub returns-clause-ok : goal.returns-clause-ok
returns-clause-ok c =
    let sizes : List ℕ = c.self.inside.sizes.items in
    let added : c.extend_from_slice.new.self.items ≡ sizes ++ c.other.inside.sizes.items =
    c.in-Ok.ensures.items ∙ ap (λ (ss : List ℕ). ss ++ c.as_slice.result.now) c.reserve.ensures.items
    ∙ ap (λ (ss : List ℕ). sizes ++ ss) c.as_slice.ensures.value in
    cut_added sizes c.other.inside.sizes.items _ c.self.inside.numbers c.other.inside.numbers _
    c.args.self.now c.args.other.now c.self.invariant.all added c.in_ok-append.ensures.ok
    c.self.view_is c.other.view_is
