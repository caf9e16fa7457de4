-- What is read of all mappings of a document.
use Rattle.std.proofs.Common.{◌≡◌, inl, inr, ℕ, List, map, Some, Result, Ok, Err, IfOk, IfErr}
use Rattle.std.proofs.Common.{refl, sym, ap, subst, ◌∙◌}
use Rattle.std.specs.List.{AllZip}
use Rattle.mapping_json.specs.Documents.{AreResults, SpellMappings, IsMappingsError, IsErrorAt, IsResultOf}
use Rattle.mapping_json.specs.Inner.Lists.{IsErrAt, IsFirstErr}
use Rattle.mapping_json.specs.declared.error.MappingError.{MappingError}
use Rattle.mapping_json.specs.declared.error.MappingsError.{MappingsError}
use Rattle.mapping_json.proofs.Zips.{all_read, split_at}
use Rattle.mapping_model.specs.declared.mapping_spec.MappingSpec.{MappingSpec}
use Rattle.template_tree.specs.declared.escape.Escape.{Escape}

-- the mappings of all results
spell : (escape : Escape) (bytes : List ℕ) (results : List (Result MappingSpec MappingError))
    (mappings : List MappingSpec)
    → AreResults escape bytes results → results ≡ map Ok mappings → SpellMappings escape bytes mappings
spell escape bytes results mappings (d, values, document, listed, read) same =
    (d, values, document, listed, all_read escape values mappings (subst (AllZip (IsResultOf escape) values) same read))

pub spell_all : {V : Type 0} (items : V → List MappingSpec) (escape : Escape) (bytes : List ℕ)
    (results : List (Result MappingSpec MappingError)) (r : Result V MappingsError)
    → AreResults escape bytes results → IfOk r (λ v. results ≡ map Ok (items v))
    → IfOk r (λ v. SpellMappings escape bytes (items v))
spell_all items escape bytes results (Ok v) read same = spell escape bytes results (items v) read same
spell_all items escape bytes results (Err e) read same = tt

-- the first error of the results
at_index : (escape : Escape) (bytes : List ℕ) (results : List (Result MappingSpec MappingError)) (e : MappingsError)
    → AreResults escape bytes results → IsErrAt results e → IsMappingsError escape bytes e
at_index escape bytes results e (d, values, document, listed, read) found =
    let split =
    split_at escape values found.before e.error found.after
    (subst (AllZip (IsResultOf escape) values) found.split read) in
    subst (λ index. IsErrorAt escape bytes index e.error) (sym found.index) (record {
      d = d;
      before = split.before;
      value = split.value;
      after = split.after;
      mappings = found.before;
      document = document;
      values = listed ∙ ap Some split.whole;
      read = split.read;
      at = split.count;
      refused = split.refused;
    })

pub first_refused : (escape : Escape) (bytes : List ℕ) (results : List (Result MappingSpec MappingError))
    (e : MappingsError) → AreResults escape bytes results → IsFirstErr results e → IsMappingsError escape bytes e
first_refused escape bytes results e read (inl found) = at_index escape bytes results e read found
first_refused escape bytes results e read (inr memory) =
    subst (IsMappingsError escape bytes) (sym memory) (inr (inr refl))

pub refused_all : {V : Type 0} (escape : Escape) (bytes : List ℕ) (results : List (Result MappingSpec MappingError))
    (r : Result V MappingsError) → AreResults escape bytes results → IfErr r (IsFirstErr results)
    → IfErr r (IsMappingsError escape bytes)
refused_all escape bytes results (Ok v) read err = tt
refused_all escape bytes results (Err e) read err = first_refused escape bytes results e read err
