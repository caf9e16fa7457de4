use Rattle.std.proofs.Common.{[], inr, refl, rules, sym}
use Rattle.std.proofs.lemmas.List.{append-nil}
use Rattle.mapping_files.proofs.accepted.add_document.Goals as goal

pub returns-in-Err : goal.returns-in-Err
returns-in-Err c = (
  [],
  inr ((c.in-Err._error, c.in-Err.ensures.error, search rules), refl),
  sym (append-nil c.args.accepted.now.mappings.items),
)
