-- The filter of conditions by "isn't met": none is left exactly where all are met.
use Rattle.std.proofs.Common.{◌≡◌, ◌↔◌, ℕ, List, [], ◌∷◌, ◌++◌, All, ap, append_assoc, arith, inl, inr, length, map}
use Rattle.std.proofs.Common.{◌∙◌, refl, subst, sym}
use Rattle.std.proofs.lemmas.List.Elements.{All-cons, All-head, All-nil, All-tail}
use Rattle.match_difference.proofs.EligibleLemmas.{eligible_where_all_are_met}
use Rattle.match_difference.specs.Conditions.{IsMet, conditions_of}
use Rattle.match_difference.specs.Inner.Added.{IsAdded}
use Rattle.match_difference.specs.Unmet.{AreUnmet}
use Rattle.match_difference.specs.declared.condition.Condition.{Condition}
use Rattle.mock_request.specs.Request.{Request}
use Rattle.request_journal.specs.Choice.{IsEligible}
use Rattle.request_journal.specs.declared.mapping.Mapping.{Mapping}

no_first : {X : Type 0} (c : X) (cs : List X) → ¬ ([] ≡ c ∷ cs)
no_first c cs e = cc

pub none_left : {X : Type 0} (xs : List X) → length xs ≡ 0 → xs ≡ []
none_left [] e = refl
none_left (x ∷ xs) e = absurd (omega (arith, e))

-- there are none exactly where there are none with something beside
pub none_with : {X : Type 0} (f : X → Condition) (xs : List X) (cs : List Condition) (E : Type 0)
    → map f xs ≡ cs → (cs ≡ []) ↔ E → (xs ≡ []) ↔ E
none_with f [] cs E e h = (λ none. h.0 (sym e), λ is. refl)
none_with f (x ∷ xs) cs E e h = (λ none. absurd (no_first x xs (sym none)), λ is. absurd (no_first (f x) (map f xs) (sym (e ∙ h.1 is))))

module _ (state_of : List ℕ → List ℕ) (request : Request) where
  abbrev Met : Condition → Type 0
  Met = IsMet state_of request

  all_met : (cs : List Condition) → AreUnmet state_of request cs [] → All Met cs
  all_met [] h = All-nil Met
  all_met (c ∷ cs) (inl (met, more)) = All-cons Met c cs met (all_met cs more)
  all_met (c ∷ cs) (inr (rest, e, unmet, more)) = absurd (no_first c rest e)

  none_found : (cs found : List Condition) → AreUnmet state_of request cs found → All Met cs → found ≡ []
  none_found [] found h all = h
  none_found (c ∷ cs) found (inl (met, more)) all = none_found cs found more (All-tail Met c cs all)
  none_found (c ∷ cs) found (inr (rest, e, unmet, more)) all = absurd (unmet (All-head Met c cs all))

  pub none_where_all_met : (cs found : List Condition) → AreUnmet state_of request cs found
      → (found ≡ []) ↔ All Met cs
  none_where_all_met cs found h =
      (λ e. all_met cs (subst (AreUnmet state_of request cs) e h), none_found cs found h)

  pub eligible_by : (found : List Condition) (mapping : Mapping) (cs : List Condition)
      → cs ≡ conditions_of mapping.spec → AreUnmet state_of request cs found
      → (found ≡ []) ↔ IsEligible state_of request mapping
  eligible_by found mapping cs e h =
      let met = none_where_all_met cs found h in
      let eligible = eligible_where_all_are_met state_of request mapping in (
        λ is. eligible.0 (subst (All Met) e (met.0 is)),
        λ may. met.1 (subst (All Met) (sym e) (eligible.1 may)),
      )

  -- what is found of the conditions so far, and what will be found of the rest
  abbrev pub Unmet_from : List Condition → List Condition → List Condition → Type 0
  Unmet_from all found left =
      (more : List Condition) → AreUnmet state_of request left more → AreUnmet state_of request all (found ++ more)

  pub one_more : (all left rest : List Condition) (c : Condition) (old new : List Condition)
      → left ≡ c ∷ rest → IsAdded state_of request c old new → Unmet_from all old left → Unmet_from all new rest
  one_more all left rest c old new e (inl (met, same)) before more unmet =
      subst (λ found. AreUnmet state_of request all (found ++ more)) (sym same)
      (before more (subst (λ cs. AreUnmet state_of request cs more) (sym e) (inl (met, unmet))))
  one_more all left rest c old new e (inr (not_met, added)) before more unmet =
      subst (AreUnmet state_of request all) (sym (ap (λ found. found ++ more) added ∙ append_assoc old (c ∷ []) more))
      (before (c ∷ more)
      (subst (λ cs. AreUnmet state_of request cs (c ∷ more)) (sym e) (inr (more, refl, not_met, unmet))))
