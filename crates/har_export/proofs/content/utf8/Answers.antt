use Rattle.std.proofs.lemmas.Str.{is_utf8-from_IsUtf8}
use Rattle.har_export.proofs.Texts.{not_utf8}
use Rattle.har_export.proofs.content.utf8.Goals as goal

pub returns-in-Ok : goal.returns-in-Ok
returns-in-Ok c = (is_utf8-from_IsUtf8 _ c.in-Ok.ensures.cases.1, c.in-Ok.ensures.cases.0)

pub returns-in-Err : goal.returns-in-Err
returns-in-Err c = not_utf8 _ c.in-Err.ensures.cases.0
