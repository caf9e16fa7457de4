use Rattle.std.proofs.Common.{◌++◌, ◌∙◌, ap, codes, false, string_bytes}
use Rattle.admin_answers.specs.Inner.Joined.{joined}
use Rattle.admin_answers.proofs.listing.mapping_listing.Goals as goal

pub returns : goal.returns
returns c =
    c.new_listing.ensures
    ∙ ap (λ s. s ++ joined (codes "]" ++ string_bytes c.args.end) false c.args.texts) c.in_ok-head.ensures.ok
