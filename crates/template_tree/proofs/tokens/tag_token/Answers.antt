use Rattle.std.proofs.Common.{arith}
use Rattle.template_tree.proofs.Lengths.{shown_within}
use Rattle.template_tree.proofs.tokens.tag_token.Goals as goal

pub read_tag-requires-clause-content : goal.read_tag-requires-clause-content
read_tag-requires-clause-content c =
    let here = c.in-Some-Shown-default in
    let e = rw here.field-0-0-is at here.ensures in
    omega (arith, shown_within c.args.text.now here.opening here.content.now here.rest.now e, c.requires.short)
