use Rattle.std.proofs.Common.{not, length, sym, ap, ◌∙◌, arith}
use Rattle.std.specs.List.{filter}
use Rattle.std.proofs.lemmas.List.{length-map, take_all}
use Rattle.request_journal.specs.Past.{Placed, has_id}
use Rattle.mapping_store.specs.declared.entry.Entry.{Entry}
use Rattle.mapping_store.specs.Kept.{placed_of}
use Rattle.mapping_store.proofs.IdLemmas.{filter-map}
use Rattle.mapping_store.proofs.counts.count_others.Goals as goal

pub returns-clause-count : goal.returns-clause-count
returns-clause-count c =
    let entries = c.args.entries.now in
    let mappings = c.args.mappings.now in
    c.loop-i.invariant.counted
    ∙ ap (λ l. length (filter (λ (e : Entry). not (has_id mappings e.id)) l))
    (take_all c.loop-i.i entries (omega arith))
    ∙ sym (ap length (filter-map (λ (p : Placed). not (has_id mappings p.mapping.id)) placed_of entries)
    ∙ length-map (filter (λ (e : Entry). not (has_id mappings e.id)) entries) placed_of)
