use Rattle.std.proofs.Common.{is_ok, string_bytes, sym, subst}
use Rattle.data_tree.proofs.Drafts.{BeginsText, begins_more}
use Rattle.data_tree.proofs.draft.Draft.push.Goals as goal

pub invariant_of-self : goal.invariant_of-self
invariant_of-self c =
    let d = c.self.inside in
    subst (BeginsText d.start) (sym c.push_str.ensures.bytes)
    (begins_more (is_ok c.push_str.result) d.start (string_bytes d.text) c.args.piece.now c.self.invariant)
