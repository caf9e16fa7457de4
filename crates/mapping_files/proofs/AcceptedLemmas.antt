-- Documents that are read one after the other, where refused mappings are left out.
use Rattle.std.proofs.Common.{◌∷◌, ◌++◌, ◌∙◌, [], ℕ, List, ap, append_assoc, refl, sym}
use Rattle.std.proofs.lemmas.List.{append-nil}
use Rattle.mapping_model.specs.declared.mapping_spec.MappingSpec.{MappingSpec}
use Rattle.mapping_files.specs.Served.{AreAccepted, SpellAccepted}
use Rattle.template_tree.specs.declared.escape.Escape.{Escape}

-- the mappings of the documents so far, and those of one more
pub accepted_push : (escape : Escape) (documents : List (List ℕ)) (mappings : List MappingSpec) (bytes : List ℕ)
    (own : List MappingSpec) → SpellAccepted escape documents mappings → AreAccepted escape bytes own
    → SpellAccepted escape (documents ++ bytes ∷ []) (mappings ++ own)
accepted_push escape [] mappings bytes own none spelled =
    (own, [], spelled, refl, ap (λ ms. ms ++ own) none ∙ sym (append-nil own))
accepted_push escape (x ∷ xs) mappings bytes own (own', rest, spelled', more, whole) spelled = (
  own',
  rest ++ own,
  spelled',
  accepted_push escape xs rest bytes own more spelled,
  ap (λ ms. ms ++ own) whole ∙ append_assoc own' rest own,
)
