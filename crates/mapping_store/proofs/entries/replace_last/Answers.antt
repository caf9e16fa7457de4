use Rattle.std.proofs.Common.{◌≡◌, List, [], ◌∷◌, ◌++◌, IsPermutation, ap, sym, subst, ◌∙◌, rules}
use Rattle.std.proofs.lemmas.List.Sorted.{IsPermutation-sym, IsPermutation-to_front}
use Rattle.mapping_store.specs.declared.entry.Entry.{Entry}
use Rattle.mapping_store.specs.Kept.{without}
use Rattle.mapping_store.proofs.entries.replace_last.Goals as goal

pub returns-clause-put : goal.returns-clause-put
returns-clause-put c =
    let e : Entry = c.args.entry in
    let rest : List Entry = without e.id c.args.entries.now.items in
    let pushed : c.push.new.self.items ≡ c.take_out-replaced.new.entries.items ++ e ∷ [] = search rules in
    subst (λ l. IsPermutation (e ∷ rest) l)
    (sym (pushed ∙ ap (λ l. l ++ e ∷ []) c.take_out-replaced.ensures.rest))
    (IsPermutation-sym (rest ++ e ∷ []) (e ∷ rest) (IsPermutation-to_front rest e))
