-- Documents that are read one after the other.
use Rattle.std.proofs.Common.{◌≡◌, ◌+◌, ◌∷◌, ◌++◌, ◌∙◌, [], ℕ, List, ap, append_assoc, drop, map, refl, sym, take}
use Rattle.std.proofs.Common.{take-append-drop}
use Rattle.std.proofs.lemmas.List.{append-nil, map-append}
use Rattle.mapping_commands.specs.Answering.{SpellDocuments}
use Rattle.mapping_json.specs.Documents.{SpellMappings}
use Rattle.mapping_model.specs.declared.mapping_spec.MappingSpec.{MappingSpec}
use Rattle.template_tree.specs.declared.escape.Escape.{Escape}

-- the mappings of the documents so far, and those of one more
pub spell_push : (escape : Escape) (documents : List (List ℕ)) (mappings : List MappingSpec) (bytes : List ℕ)
    (own : List MappingSpec) → SpellDocuments escape documents mappings → SpellMappings escape bytes own
    → SpellDocuments escape (documents ++ bytes ∷ []) (mappings ++ own)
spell_push escape [] mappings bytes own none spelled =
    (own, [], spelled, refl, ap (λ ms. ms ++ own) none ∙ sym (append-nil own))
spell_push escape (x ∷ xs) mappings bytes own (own', rest, spelled', more, whole) spelled = (
  own',
  rest ++ own,
  spelled',
  spell_push escape xs rest bytes own more spelled,
  ap (λ ms. ms ++ own) whole ∙ append_assoc own' rest own,
)

-- the list up to an element, that element, and the rest, as what each is mapped to
pub split_mapped : {A B : Type 0} (f : A → B) (xs : List A) (i : ℕ) (x : A)
    → take (i + 1) xs ≡ take i xs ++ x ∷ []
    → map f xs ≡ map f (take i xs) ++ f x ∷ map f (drop (i + 1) xs)
split_mapped f xs i x more =
    ap (map f) (sym (take-append-drop (i + 1) xs) ∙ ap (λ l. l ++ drop (i + 1) xs) more
    ∙ append_assoc (take i xs) (x ∷ []) (drop (i + 1) xs))
    ∙ map-append f (take i xs) (x ∷ drop (i + 1) xs)
