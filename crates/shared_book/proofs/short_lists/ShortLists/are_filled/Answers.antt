use Rattle.std.proofs.Common.{◌<◌, All, length, subst}
use Rattle.shared_book.proofs.ShortLemmas.{lists_filled}
use Rattle.shared_book.proofs.short_lists.ShortLists.are_filled.Goals as goal

pub returns : goal.returns
returns c =
    subst (All (λ list. 0 < length list)) c.self.view_is
    (lists_filled c.self.inside.sizes.items c.self.inside.numbers c.self.invariant)
