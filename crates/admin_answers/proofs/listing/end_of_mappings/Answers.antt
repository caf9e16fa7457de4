use Rattle.std.proofs.Common.{◌++◌, ◌∙◌, ap, append_assoc, codes, decimal}
use Rattle.admin_answers.proofs.listing.end_of_mappings.Goals as goal

pub returns : goal.returns
returns c =
    let first = codes ",\"meta\":{\"total\":" in
    let last = codes "}}" in
    c.in_ok-push_str-2.ensures.bytes
    ∙ ap (λ s. s ++ last)
    (c.in_ok-push_str.ensures.bytes ∙ ap (λ s. s ++ c.format.result.now) c.in_ok-end.ensures.ok
    ∙ ap (λ s. first ++ s) c.format.ensures.text)
    ∙ append_assoc first (decimal c.args.total) last
