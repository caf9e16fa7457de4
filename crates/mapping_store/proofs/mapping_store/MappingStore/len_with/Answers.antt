use Rattle.std.proofs.Common.{◌≡◌, ◌+◌, List, ◌++◌, length, map, vec_len, refl, sym, ap, ◌∙◌, rules}
use Rattle.request_journal.specs.Past.{placed_from}
use Rattle.request_journal.specs.declared.event.Event.TheVariants as event
use Rattle.request_journal.specs.declared.mapping.Mapping.{Mapping}
use Rattle.mapping_store.specs.Kept.{placed_of}
use Rattle.mapping_store.specs.declared.entry.Entry.{Entry}
use Rattle.mapping_store.proofs.CountLemmas.{all_new}
use Rattle.mapping_store.proofs.EventLemmas.{left_plain}
use Rattle.mapping_store.proofs.mapping_store.MappingStore.len_with.Goals as goal

pub returns-then-are_new : goal.returns-then-are_new
returns-then-are_new c = λ number skipped.
    let es : List Entry = c.self.inside.live.items in
    let ms : List Mapping = c.args.mappings.now in
    let len : vec_len c.self.inside.live ≡ length es = search rules in
    let differ = rw c.as_slice.ensures.value at (c.are_new.ensures c.if-are_new.true) in
    rw (← c.self.view_is)
    (ap (λ n. n + length ms) (c.len.ensures ∙ len) ∙ all_new es ms number 0 differ
    ∙ ap (λ l. length (l ++ placed_from number 0 ms))
    (sym (left_plain (event.StopRecording ms skipped) (λ p. refl) (map placed_of es))))
