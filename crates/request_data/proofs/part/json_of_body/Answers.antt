use Rattle.std.proofs.Common.{◌≡◌, ap, subst, sym, ◌∙◌}
use Rattle.std.specs.Prelude.{IfOk}
use Rattle.std.specs.Str.Lossy.{utf8_lossy}
use Rattle.std.proofs.lemmas.Str.{utf8_lossy-IsUtf8}
use Rattle.data_tree.specs.Tree.{view}
use Rattle.request_data.specs.Part.{json_part}
use Rattle.request_data.proofs.part.json_of_body.Goals as goal

-- what is UTF-8 is read as it is
pub returns-in-Ok-clause-tree : goal.returns-in-Ok-clause-tree
returns-in-Ok-clause-tree c =
    let (text, is_utf8) = c.in-Ok.ensures.cases in
    subst (λ bytes. IfOk c.json.result (λ made. view made ≡ json_part c.args.needed.now bytes))
    (text ∙ sym (utf8_lossy-IsUtf8 _ is_utf8) ∙ ap utf8_lossy c.body.ensures.value) c.json.ensures.tree
