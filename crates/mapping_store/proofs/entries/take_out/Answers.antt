use Rattle.std.proofs.Common.{◌∷◌, IsPermutation, ◌∙◌, ap, sym, subst, rules}
use Rattle.std.proofs.lemmas.List.Sorted.{IsPermutation-remove}
use Rattle.mapping_store.specs.declared.entry.Entry.{Entry}
use Rattle.mapping_store.proofs.IdLemmas.{without_none, without_at}
use Rattle.mapping_store.proofs.entries.take_out.Goals as goal

pub returns-in_err-at-clause-rest : goal.returns-in_err-at-clause-rest
returns-in_err-at-clause-rest c = without_none c.args.id c.args.entries.now.items (search rules)

pub returns-clause-rest : goal.returns-clause-rest
returns-clause-rest c =
    let found = rw c.as_slice.ensures.value at c.in_ok-at.ensures in
    c.remove.ensures.items ∙ without_at c.args.id c.args.entries.now.items c.in_ok-at.at c.requires found.0 found.1

pub returns-clause-taken : goal.returns-clause-taken
returns-clause-taken c =
    let found = rw c.as_slice.ensures.value at c.in_ok-at.ensures in
    let read = c.remove.ensures.value in (
      ap (λ (e : Entry). e.id) read ∙ found.1 c.remove.result,
      subst (λ l. IsPermutation c.args.entries.now.items (c.remove.result ∷ l)) (sym c.remove.ensures.items)
          (IsPermutation-remove c.args.entries.now.items c.in_ok-at.at c.remove.result found.0 read),
    )
