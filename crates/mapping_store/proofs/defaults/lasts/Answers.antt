use Rattle.std.proofs.Common.{◌≡◌, [], ◌++◌, map, ap, ◌∙◌, rules}
use Rattle.mapping_store.specs.Ids.{lasts_among}
use Rattle.mapping_store.proofs.DefaultLemmas.{lasts_of_ids}
use Rattle.mapping_store.proofs.defaults.lasts.Goals as goal

pub returns : goal.returns
returns c =
    let empty : c.new-ids.result.items ≡ [] = search rules in
    c.in_ok-lasts.ensures
    ∙ ap lasts_among (c.as_slice.ensures.value ∙ c.in_ok-push_ids.ensures
    ∙ ap (λ ids. ids ++ map (λ m. m.id) c.args.mappings.now) empty)
    ∙ lasts_of_ids c.args.mappings.now
