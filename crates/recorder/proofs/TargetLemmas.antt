-- How the code's cuts of a target meet its definition.
use Rattle.std.proofs.Common.{◌≡◌, ◌≢◌, ◌↔◌, ℕ, true, false, List, [], ◌∷◌, ◌++◌, ◌⊎◌, Bor, Option, None, Some, Result}
use Rattle.std.proofs.Common.{Ok, Err, MatchOption, IsTrue, codes, inl, inr, refl, ap, ◌∙◌}
use Rattle.std.proofs.Math.Dec.{eqb}
use Rattle.std.proofs.lemmas.Bool.Decides.{eqb_tells}
use Rattle.std.specs.Net.Grammar.{Parses}
use Rattle.std.specs.Result.{is_ok}
use Rattle.recorder.specs.Target.{without_last_slash}

-- a text is read exactly where it spells a value
pub is_read
    : {A E : Type 0} (Spells : List ℕ → A → Type 0) (text : List ℕ) (r : Result A E) → Parses Spells text r
    → IsTrue (is_ok r) ↔ ((a : A) × Spells text a)
is_read Spells text (Ok a) parsed = (λ _. (a, parsed), λ _. refl)
is_read Spells text (Err e) none = (λ h. cc, λ spelled. absurd (none spelled.0 spelled.1))

abbrev slash : ℕ
slash = 47

pub without_slash : (bs : List ℕ) → without_last_slash (bs ++ slash ∷ []) ≡ bs
without_slash [] = refl
without_slash (b ∷ []) = refl
without_slash (b ∷ c ∷ cs) = ap (λ t. b ∷ t) (without_slash (c ∷ cs))

pub no_last_slash : (bs : List ℕ) → ((front : List ℕ) → bs ≢ front ++ slash ∷ [])
    → without_last_slash bs ≡ bs
no_last_slash [] none = refl
no_last_slash (b ∷ []) none = one (eqb_tells b slash)
  where
    one : ((eqb b slash ≡ true) × (b ≡ slash)) ⊎ ((eqb b slash ≡ false) × (b ≢ slash))
        → without_last_slash (b ∷ []) ≡ b ∷ []
    one (inl e) = absurd (none [] (ap (λ d. d ∷ []) e.1))
    one (inr e) = rw e.0 refl
no_last_slash (b ∷ c ∷ cs) none =
    ap (λ t. b ∷ t) (no_last_slash (c ∷ cs) (λ front e. none (b ∷ front) (ap (λ t. b ∷ t) e)))

pub closed_in_brackets
    : (host rest : List ℕ) (r : Option (Bor (List ℕ))) → host ≡ 91 ∷ rest
    → MatchOption r ((front : List ℕ) → rest ≢ front ++ 93 ∷ []) (λ x. rest ≡ x.now ++ 93 ∷ [])
    → MatchOption r ((inner : List ℕ) → host ≢ codes "[" ++ (inner ++ codes "]"))
    (λ inner. host ≡ codes "[" ++ (inner.now ++ codes "]"))
closed_in_brackets host rest None opened none = λ inner e. none inner (cc)
closed_in_brackets host rest (Some x) opened closed = opened ∙ ap (λ t. 91 ∷ t) closed
