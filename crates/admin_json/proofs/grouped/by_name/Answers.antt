use Rattle.std.proofs.Common.{◌∷◌, ◌++◌, [], ◌∙◌, arith}
use Rattle.std.proofs.lemmas.Grind.{text_groups}
use Rattle.request_data.proofs.GroupLemmas.{values_of_pairs, any_of_pairs}
use Rattle.admin_json.proofs.grouped.by_name.Goals as goal

pub loop-name-preserved : goal.loop-name-preserved
loop-name-preserved c =
    let so_far = c.loop-name.yielded in
    let all = so_far ++ (c.in-Some.name, c.in-Some.value) ∷ [] in (
      λ name.
          let was = c.loop-name.invariant.0 name ∙ values_of_pairs name so_far in
          rw (values_of_pairs name all) (grind (arith, text_groups, was)),
      λ name.
          let was = c.loop-name.invariant.1 name ∙ any_of_pairs name so_far in
          rw (any_of_pairs name all) (grind (arith, text_groups, was)),
    )
