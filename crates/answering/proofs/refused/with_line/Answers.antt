use Rattle.std.proofs.Common.{[], ◌∷◌, ◌++◌}
use Rattle.std.specs.Prelude.{is_ok}
use Rattle.answering.proofs.RefusedLemmas.{either}
use Rattle.answering.proofs.refused.with_line.Goals as goal

pub returns : goal.returns
returns c =
    rw c.from.ensures (either (is_ok c.push.result) c.args.headers (c.args.headers ++ c.args.line ∷ [])
    c.push.new.self.items (rw c.into_vec-lines.ensures at c.push.ensures.items))
