use Rattle.mapping_store.proofs.StoreLemmas.{found_index}
use Rattle.mapping_store.proofs.mapping_store.MappingStore.holds.Goals as goal

pub returns : goal.returns
returns c =
    let found = rw c.as_slice.ensures.value at c.index_of.ensures in
    rw (← c.self.view_is, c.is_some.ensures) (found_index c.args.id c.self.inside.live.items c.index_of.result found)
