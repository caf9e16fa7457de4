-- The eligible entry that wins over the others is the mapping that is chosen.
use Rattle.std.proofs.Common.{◌≡◌, ℕ, ◌<◌, List, ◌++◌, length, map, get_or, take, drop, sym, ap, subst, ◌∙◌}
use Rattle.std.specs.Prelude.{⊤}
use Rattle.std.proofs.lemmas.List.{length-map, get_or-map, get_or_default, take_at}
use Rattle.mock_request.specs.Request.{Request}
use Rattle.request_journal.specs.Choice.{WinsOver, IsEligible, IsMissed, IsChosen}
use Rattle.request_journal.specs.Past.{Placed}
use Rattle.request_journal.specs.declared.mapping.Mapping.{Mapping}
use Rattle.mapping_store.specs.declared.entry.Entry.{Entry}
use Rattle.mapping_store.specs.Kept.{AreKept, Fits, IsFirst, placed_of}
use Rattle.mapping_store.proofs.OrderLemmas.{not_won}
use Rattle.mapping_store.specs.Inner.Best.{IsBestAt, IsNone}
use Rattle.mapping_store.proofs.StoreLemmas.{entry_of}

module _ (state_of : List ℕ → List ℕ) (request : Request) (xs : List Entry) where
  abbrev pub Meets : Entry → Type 0
  Meets e = IsEligible state_of request (placed_of e).mapping

  pub missed : IsNone (λ _. ⊤) Meets xs → IsMissed state_of (map placed_of xs) request
  missed none p live eligible =
      let found = entry_of xs live.0 p live.1 live.2 in
      subst (λ e. ¬ (Meets e)) (sym found.2) (none live.0 found.0 found.1 tt)
      (subst (λ (q : Placed). IsEligible state_of request q.mapping) (sym found.3) eligible)

  pub chosen : (defaults : List Mapping) (at : ℕ) (e : Entry) (m : Mapping) → AreKept defaults xs
      → e ≡ get_or xs at e → IsBestAt (λ _. ⊤) Meets xs at → (placed_of e).mapping ≡ m
      → IsChosen state_of (map placed_of xs) request m
  chosen defaults at e m kept read best is =
      let eligible : Meets e = subst Meets (sym read) (best.meets e) in
      record {
        placed = placed_of e;
        same = is;
        is_live = (
          at,
          subst (λ n. at < n) (sym (length-map xs placed_of)) best.within,
          get_or-map placed_of xs at e (placed_of e) best.within ∙ ap placed_of (sym read),
        );
        eligible = subst (λ x. IsEligible state_of request x) is eligible;
        best = λ other among meets.
            let found = entry_of xs among.0 other among.1 among.2 in
            let k : ℕ = among.0 in
            let f : Entry = found.0 in
            let meets' : Meets f =
            subst (λ (q : Placed). IsEligible state_of request q.mapping) (sym found.3) meets in
            let fit_e : Fits defaults e = subst (Fits defaults) (sym read) (kept.fit at e best.within) in
            let fit_f : Fits defaults f = subst (Fits defaults) (sym found.2) (kept.fit k f found.1) in
            let here : get_or xs at f ≡ e = get_or_default xs at f e best.within ∙ sym read in
            let first : IsFirst e f =
            subst (λ x. IsFirst x f) here
            (subst (λ x. IsFirst (get_or xs at f) x) (sym found.2)
            (best.first k f found.1 tt (subst Meets found.2 meets'))) in
            subst (λ q. ¬ (WinsOver q (placed_of e))) found.3 (not_won defaults e f fit_e fit_f first);
      }

-- what is left of a Vec after its slice was lent and given back as it was
pub same_items : (n : ℕ) (xs ys : List Entry) → ys ≡ xs → n ≡ length xs
    → take n (ys ++ drop (length ys) xs) ≡ xs
same_items n xs ys same is =
    ap (λ zs. take n (zs ++ drop (length zs) xs)) same ∙ take_at xs (drop (length xs) xs) n (sym is)
