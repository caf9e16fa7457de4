use Rattle.std.proofs.Common.{AllPairs, not, subst, sym}
use Rattle.std.proofs.lemmas.List.Kept.{AllPairs-filter}
use Rattle.std.specs.Str.{bytes_eq}
use Rattle.mapping_store.specs.declared.entry.Entry.{Entry}
use Rattle.mapping_store.specs.Kept.{IsBefore}
use Rattle.mapping_store.proofs.entries.replace.Goals as goal

pub put_in-requires-clause-in_order : goal.put_in-requires-clause-in_order
put_in-requires-clause-in_order c =
    subst (λ l. AllPairs IsBefore l) (sym c.take_out-replaced.ensures.rest)
    (AllPairs-filter IsBefore (λ (e : Entry). not (bytes_eq c.args.entry.id e.id))
    c.args.entries.now.items c.requires.in_order)
