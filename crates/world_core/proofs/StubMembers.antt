-- Which mappings a list of exchanges gives, where none is skipped: one for each exchange, by those before it.
use Rattle.std.proofs.Common.{◌≡◌, ℕ, suc, true, List, [], ◌∷◌, ◌++◌, length, All, refl, sym, ap}
use Rattle.std.proofs.Common.{◌∙◌, inl, inr, arith, subst}
use Rattle.std.proofs.lemmas.Bool.{cond-true}
use Rattle.std.proofs.lemmas.List.{append-nil, length-append, map-append}
use Rattle.key_groups.specs.Groups.{place_of, places_from, places_of}
use Rattle.mapping_model.specs.declared.mapping_spec.MappingSpec.{MappingSpec}
use Rattle.recorder.specs.Key.{KeyParts, key_of, same_key}
use Rattle.recorder.specs.Stubs.{is_kept, kept_of, keys_of, mapping_of, mappings_of, numbered, parts_of, scenario_of}
use Rattle.recorder.specs.declared.exchange.Exchange.{Exchange}
use Rattle.world_core.proofs.ListFacts.{IsItem, all_first, all_rest, one_further}

module _ (captured : List (List ℕ)) (number : ℕ) where
  all_kept : (exchanges : List Exchange) → All (λ e. is_kept captured e ≡ true) exchanges
      → kept_of captured exchanges ≡ exchanges
  all_kept [] all = refl
  all_kept (e ∷ es) all =
      cond-true (is_kept captured e) (e ∷ kept_of captured es) (kept_of captured es)
      (all_first (λ x. is_kept captured x ≡ true) e es all)
      ∙ ap (λ l. e ∷ l) (all_kept es (all_rest (λ x. is_kept captured x ≡ true) e es all))

  module _ (all : List KeyParts) where
    -- the mapping of an exchange after these
    abbrev pub mapping_after : List Exchange → Exchange → MappingSpec
    mapping_after before e = mapping_of captured number (length before) e
        (scenario_of number (place_of same_key all (keys_of captured before) (key_of e.request captured)))

    -- the mappings of exchanges after others
    abbrev mappings_after : List Exchange → List Exchange → List MappingSpec
    mappings_after before es = numbered captured number (length before)
        (parts_of true number es (places_from same_key all (keys_of captured before) (keys_of captured es)))

    one_mapping : (before : List Exchange) (e : Exchange) (es : List Exchange)
        → mappings_after before (e ∷ es) ≡ mapping_after before e ∷ mappings_after (before ++ e ∷ []) es
    one_mapping before e es =
        let more : suc (length before) ≡ length (before ++ e ∷ []) =
        let l = length-append before (e ∷ []) in omega (arith, l) in
        let keys : keys_of captured before ++ key_of e.request captured ∷ []
        ≡ keys_of captured (before ++ e ∷ []) =
        sym (map-append (λ (x : Exchange). key_of x.request captured) before (e ∷ [])) in
        λ i. mapping_after before e ∷ numbered captured number (more i)
        (parts_of true number es (places_from same_key all (keys i) (keys_of captured es)))

    has_mapping : (before middle : List Exchange) (e : Exchange) (after : List Exchange)
        → IsItem (mappings_after before (middle ++ e ∷ after)) (mapping_after (before ++ middle) e)
    has_mapping before [] e after =
        subst (λ (l : List MappingSpec). IsItem l (mapping_after (before ++ []) e)) (sym (one_mapping before e after))
        (inl (ap (λ b. mapping_after b e) (sym (append-nil before))))
    has_mapping before (m ∷ middle) e after =
        subst (λ (l : List MappingSpec). IsItem l (mapping_after (before ++ m ∷ middle) e))
        (sym (one_mapping before m (middle ++ e ∷ after)))
        (inr (subst (λ b. IsItem (mappings_after (before ++ m ∷ []) (middle ++ e ∷ after)) (mapping_after b e))
        (one_further before m middle) (has_mapping (before ++ m ∷ []) middle e after)))

    -- the mapping is that of one of the exchanges, after those before it
    abbrev IsOneOf : List Exchange → List Exchange → MappingSpec → Type 0
    IsOneOf before es spec = (middle : List Exchange) × (e : Exchange) × (after : List Exchange)
        × (es ≡ middle ++ e ∷ after) × (spec ≡ mapping_after (before ++ middle) e)

    is_one : (before es : List Exchange) (spec : MappingSpec) → IsItem (mappings_after before es) spec
        → IsOneOf before es spec
    is_one before [] spec item = absurd item
    is_one before (e ∷ es) spec item =
        let split : IsItem (mapping_after before e ∷ mappings_after (before ++ e ∷ []) es) spec =
        subst (λ (l : List MappingSpec). IsItem l spec) (one_mapping before e es) item in
        elim split [
          | inl is ↦ ([], e, es, refl, sym is ∙ ap (λ b. mapping_after b e) (sym (append-nil before)))
          | inr later ↦
              let found = is_one (before ++ e ∷ []) es spec later in (
                e ∷ found.0,
                found.1,
                found.2,
                ap (λ l. e ∷ l) found.3,
                found.4 ∙ ap (λ b. mapping_after b found.1) (one_further before e found.0),
              )
        ]

  module _ (exchanges : List Exchange) (all : All (λ e. is_kept captured e ≡ true) exchanges) where
    abbrev keys : List KeyParts
    keys = keys_of captured exchanges

    mappings_are : mappings_of captured exchanges true number
        ≡ mappings_after keys [] exchanges
    mappings_are = ap (λ es. numbered captured number 0
        (parts_of true number es (places_of same_key (keys_of captured es)))) (all_kept exchanges all)

    pub own_mapping : (before : List Exchange) (e : Exchange) (after : List Exchange)
        → exchanges ≡ before ++ e ∷ after
        → IsItem (mappings_of captured exchanges true number) (mapping_after keys before e)
    own_mapping before e after is =
        subst (λ (l : List MappingSpec). IsItem l (mapping_after keys before e)) (sym mappings_are)
        (subst (λ es. IsItem (mappings_after keys [] es) (mapping_after keys before e)) (sym is)
        (has_mapping keys [] before e after))

    pub mapping_is_one : (spec : MappingSpec) → IsItem (mappings_of captured exchanges true number) spec
        → (before : List Exchange) × (e : Exchange) × (after : List Exchange)
        × (exchanges ≡ before ++ e ∷ after) × (spec ≡ mapping_after keys before e)
    mapping_is_one spec item =
        is_one keys [] exchanges spec (subst (λ (l : List MappingSpec). IsItem l spec) mappings_are item)
