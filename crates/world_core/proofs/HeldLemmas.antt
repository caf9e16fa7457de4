-- What actors hold after one of them holds something else, or nothing.
use Rattle.std.proofs.Common.{◌≡◌, ◌≢◌, ◌==◌, ℕ, Bool, true, false, not, cond, List, [], ◌∷◌}
use Rattle.std.proofs.Common.{◌++◌, Option, Some, None, refl, sym, ap, ◌∙◌, inl, inr}
use Rattle.std.specs.List.{find}
use Rattle.std.specs.Option.{option_or}
use Rattle.std.proofs.lemmas.Bool.{eq-eqb, ne_eqb}
use Rattle.std.proofs.lemmas.Bool.Decides.{eqb_tells}
use Rattle.std.proofs.lemmas.List.Folds.{find-append}
use Rattle.world_core.specs.Schedule.{held_by, held_by_others}
use Rattle.world_core.specs.declared.held.Held.{Held}

true_is_no : (b : Bool) → b ≡ true → b ≡ false → ⊥
true_is_no b e f = cc

no_more : {X : Type 0} (o : Option X) → option_or o None ≡ o
no_more None = refl
no_more (Some x) = refl

-- the others hold nothing for the actor
pub own_gone : (actor : ℕ) (held : List Held) → held_by actor (held_by_others actor held) ≡ None
own_gone actor [] = refl
own_gone actor (h ∷ held) = go (h.actor == actor) refl (own_gone actor held)
  where
    go : (t : Bool) → (h.actor == actor) ≡ t → held_by actor (held_by_others actor held) ≡ None
        → held_by actor (held_by_others actor (h ∷ held)) ≡ None
    go true e rest =
        ap (λ b. find (λ (x : Held). x.actor == actor)
        (cond (not b) (h ∷ held_by_others actor held) (held_by_others actor held))) e
        ∙ rest
    go false e rest =
        ap (λ b. find (λ (x : Held). x.actor == actor)
        (cond (not b) (h ∷ held_by_others actor held) (held_by_others actor held))) e
        ∙ ap (λ b. cond b (Some h) (held_by actor (held_by_others actor held))) e
        ∙ rest

-- another actor's is still there
pub others_stay : (actor other : ℕ) (held : List Held) → other ≢ actor
    → held_by actor (held_by_others other held) ≡ held_by actor held
others_stay actor other [] differ = refl
others_stay actor other (h ∷ held) differ = go (h.actor == other) refl (others_stay actor other held differ)
  where
    go : (t : Bool) → (h.actor == other) ≡ t
        → held_by actor (held_by_others other held) ≡ held_by actor held
        → held_by actor (held_by_others other (h ∷ held)) ≡ held_by actor (h ∷ held)
    go true e rest =
        let not_its : (h.actor == actor) ≡ false = ne_eqb h.actor actor (λ is. elim (eqb_tells h.actor other) [
          | inl same ↦ differ (sym same.1 ∙ is)
          | inr differs ↦ true_is_no (h.actor == other) e differs.0
        ]) in
        ap (λ b. find (λ (x : Held). x.actor == actor)
        (cond (not b) (h ∷ held_by_others other held) (held_by_others other held))) e
        ∙ rest
        ∙ sym (ap (λ b. cond b (Some h) (held_by actor held)) not_its)
    go false e rest =
        ap (λ b. find (λ (x : Held). x.actor == actor)
        (cond (not b) (h ∷ held_by_others other held) (held_by_others other held))) e
        ∙ ap (λ o. cond (h.actor == actor) (Some h) o) rest

-- what is put last is what its actor holds, and the others hold what they held
pub put_own : (actor : ℕ) (held : List Held) (new : Held) → new.actor ≡ actor
    → held_by actor (held_by_others actor held ++ new ∷ []) ≡ Some new
put_own actor held new is =
    find-append (λ (x : Held). x.actor == actor) (held_by_others actor held) (new ∷ [])
    ∙ ap (λ o. option_or o (held_by actor (new ∷ []))) (own_gone actor held)
    ∙ ap (λ b. cond b (Some new) None) (eq-eqb new.actor actor is)

pub put_others : (actor other : ℕ) (held : List Held) (new : Held) → new.actor ≡ other → other ≢ actor
    → held_by actor (held_by_others other held ++ new ∷ []) ≡ held_by actor held
put_others actor other held new is differ =
    find-append (λ (x : Held). x.actor == actor) (held_by_others other held) (new ∷ [])
    ∙ ap (λ b. option_or (held_by actor (held_by_others other held)) (cond b (Some new) None))
    (ne_eqb new.actor actor (λ same. differ (sym is ∙ same)))
    ∙ no_more (held_by actor (held_by_others other held)) ∙ others_stay actor other held differ
