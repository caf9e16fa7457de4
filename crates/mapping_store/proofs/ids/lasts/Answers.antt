use Rattle.std.proofs.Common.{map, ap, refl, ◌∙◌, arith}
use Rattle.std.proofs.lemmas.List.{take_all}
use Rattle.std.proofs.lemmas.Slice.Eq.{bytes_eq-Decides}
use Rattle.mapping_store.specs.Ids.{is_last}
use Rattle.mapping_store.proofs.LastLemmas.{lasts_of_places}
use Rattle.mapping_store.proofs.ids.lasts.Goals as goal

pub returns : goal.returns
returns c =
    c.loop-place.invariant
    ∙ ap (map is_last) (take_all c.loop-place.place-index c.deref-place-items.result.now (omega arith)
    ∙ c.deref-place-items.ensures.value ∙ c.in_ok-places.ensures)
    ∙ lasts_of_places _ (λ a b. refl) (λ id. (bytes_eq-Decides id id).1 refl) c.args.ids.now
