use Rattle.std.proofs.Common.{◌≡◌, List, [], ◌∷◌, ◌++◌, IsPermutation, sym, subst, rules}
use Rattle.std.proofs.lemmas.List.Sorted.{IsPermutation-sym, IsPermutation-to_front}
use Rattle.mapping_store.specs.declared.entry.Entry.{Entry}
use Rattle.mapping_store.proofs.IdLemmas.{without_none}
use Rattle.mapping_store.proofs.entries.put_last.Goals as goal

pub returns-clause-put : goal.returns-clause-put
returns-clause-put c =
    let e : Entry = c.args.entry in
    let es : List Entry = c.args.entries.now.items in
    let pushed : c.push.new.self.items ≡ es ++ e ∷ [] = search rules in
    subst (λ l. IsPermutation (e ∷ l) c.push.new.self.items)
    (without_none e.id es (c.requires.new c.if-not-is_new.false))
    (subst (IsPermutation (e ∷ es)) (sym pushed)
    (IsPermutation-sym (es ++ e ∷ []) (e ∷ es) (IsPermutation-to_front es e)))
