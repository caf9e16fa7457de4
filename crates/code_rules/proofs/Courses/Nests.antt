-- Nests, and which of them lie in which.
use Rattle.std.proofs.Common.{◌≡◌, ℕ, zero, suc, ◌+◌, ◌-◌, ◌<◌, ◌≤◌, Bool, true, false, true≢false, nat_eq, List, []}
use Rattle.std.proofs.Common.{◌∷◌, length, drop, refl, sym, ap, ◌∙◌, subst, ⊎_elim, arith}
use Rattle.std.specs.Prelude.{◌||◌}
use Rattle.std.specs.Cmp.Lexicographic.{same_text}
use Rattle.std.proofs.lemmas.Bool.{cases_lt}
use Rattle.code_rules.specs.Inner.Course.{Bracket, level, opens_over_part, opens_over_data, ends, Course, nest_after}
use Rattle.code_rules.specs.Inner.Course.{nest, same_nest}

pub same-refl : (ns : List ℕ) → same_nest ns ns ≡ true
same-refl [] = refl
same-refl (n ∷ ns) = let h : nat_eq n n ≡ true = grind arith in rw (h, same-refl ns) refl

pub same-true : (ms ns : List ℕ) → same_nest ms ns ≡ true → ms ≡ ns
same-true ms ns h = same_text ms ns (sym h)

differ : (ms ns : List ℕ) → (ms ≡ ns → ⊥) → same_nest ms ns ≡ false
differ ms ns n = by (same_nest ms ns) refl
  where
    by : (b : Bool) → same_nest ms ns ≡ b → b ≡ false
    by true e = absurd (n (same-true ms ns e))
    by false e = refl

pub differ-length : (ms ns : List ℕ) → (length ms ≡ length ns → ⊥) → same_nest ms ns ≡ false
differ-length ms ns n = differ ms ns (λ e. n (ap length e))

abbrev pub first_or : ℕ → List ℕ → ℕ
first_or d [] = d
first_or d (x ∷ xs) = x

differ-first : (p q : ℕ) (ms ns : List ℕ) → (p ≡ q → ⊥) → same_nest (p ∷ ms) (q ∷ ns) ≡ false
differ-first p q ms ns n = differ (p ∷ ms) (q ∷ ns) (λ e. n (ap (first_or 0) e))

pub or-false : (b c : Bool) → b ≡ false → (b || c) ≡ true → c ≡ true
or-false true c e h = absurd (true≢false e)
or-false false c e h = h

or-right : (b c : Bool) → c ≡ true → (b || c) ≡ true
or-right true c e = refl
or-right false c e = e

-- the second nest is the first one, or lies in it
abbrev pub inside : List ℕ → List ℕ → Bool
inside outer [] = same_nest outer []
inside outer (n ∷ ns) = same_nest outer (n ∷ ns) || inside outer ns

pub inside-self : (ns : List ℕ) → inside ns ns ≡ true
inside-self [] = refl
inside-self (n ∷ ns) = ap (λ b. b || inside (n ∷ ns) ns) (same-refl (n ∷ ns))

pub inside-short : (outer ns : List ℕ) → length ns < length outer → inside outer ns ≡ false
inside-short outer [] h = differ-length outer [] (λ e. omega (arith, h, e))
inside-short outer (n ∷ ns) h =
    rw (differ-length outer (n ∷ ns) (λ e. omega (arith, h, e)), inside-short outer ns (omega (arith, h))) refl

pub inside-length : (outer ns : List ℕ) → inside outer ns ≡ true → length outer ≤ length ns
inside-length outer ns h =
    ⊎_elim
    (λ lt. absurd (true≢false (sym h ∙ inside-short outer ns lt)))
    (λ le. le)
    (cases_lt (length ns) (length outer))

-- what lies in a loop lies in the loops round it
pub inside-outer : (opener : ℕ) (outer ns : List ℕ) → inside (opener ∷ outer) ns ≡ true
    → inside outer ns ≡ true
inside-outer opener outer [] h = absurd (true≢false (sym h))
inside-outer opener outer (n ∷ ns) h =
    by (λ k. inside-outer opener outer ns k) (same_nest (opener ∷ outer) (n ∷ ns)) refl
  where
    by : (inside (opener ∷ outer) ns ≡ true → inside outer ns ≡ true) → (b : Bool) →
        same_nest (opener ∷ outer) (n ∷ ns) ≡ b → inside outer (n ∷ ns) ≡ true
    by further true e =
        let same : outer ≡ ns = ap (drop 1) (same-true (opener ∷ outer) (n ∷ ns) e) in
        or-right (same_nest outer (n ∷ ns)) (inside outer ns)
        (subst (λ o. inside o ns ≡ true) (sym same) (inside-self ns))
    by further false e =
        or-right (same_nest outer (n ∷ ns)) (inside outer ns)
        (further (or-false (same_nest (opener ∷ outer) (n ∷ ns)) (inside (opener ∷ outer) ns) e h))

step-open : (opener y : ℕ) (outer ns : List ℕ) → opener < y → inside (opener ∷ outer) (y ∷ ns) ≡ true →
    inside (opener ∷ outer) ns ≡ true
step-open opener y outer ns lt h =
    or-false (same_nest (opener ∷ outer) (y ∷ ns)) (inside (opener ∷ outer) ns)
    (differ-first opener y outer ns (λ e. omega (arith, lt, e))) h

step-by : (opener y : ℕ) (outer ns : List ℕ) (b : Bracket) → opener < y →
    inside (opener ∷ outer) (nest_after b y ns) ≡ true → inside (opener ∷ outer) ns ≡ true
step-by opener y outer ns level lt h = h
step-by opener y outer ns opens_over_part lt h = step-open opener y outer ns lt h
step-by opener y outer ns opens_over_data lt h = step-open opener y outer ns lt h
step-by opener y outer [] ends lt h = h
step-by opener y outer (n ∷ ns) ends lt h =
    or-right (same_nest (opener ∷ outer) (n ∷ ns)) (inside (opener ∷ outer) ns) h

back-by : (c : Course) (opener y x k : ℕ) (outer : List ℕ) → y + k ≡ x → opener < y →
    inside (opener ∷ outer) (nest c x) ≡ true → inside (opener ∷ outer) (nest c y) ≡ true
back-by c opener y x zero outer e lt h =
    let same : x ≡ y = omega (arith, e) in subst (λ z. inside (opener ∷ outer) (nest c z) ≡ true) same h
back-by c opener y x (suc k) outer e lt h =
    step-by opener y outer (nest c y) (c.bracket y) lt
    (back-by c opener (suc y) x k outer (omega (arith, e)) (omega (arith, lt)) h)

-- a place between a loop's opening and a place in the loop is in it, too
pub inside-before : (c : Course) (opener y x : ℕ) (outer : List ℕ) → opener < y → y ≤ x →
    inside (opener ∷ outer) (nest c x) ≡ true → inside (opener ∷ outer) (nest c y) ≡ true
inside-before c opener y x outer lt le h = back-by c opener y x (x - y) outer (omega (arith, le)) lt h

-- each of these places is before that one
abbrev Below : ℕ → List ℕ → Type 0
Below x [] = Unit {0}
Below x (n ∷ ns) = (n < x) × Below x ns

below-up : (x : ℕ) (ns : List ℕ) → Below x ns → Below (suc x) ns
below-up x [] h = tt
below-up x (n ∷ ns) h = (omega (arith, h.0), below-up x ns h.1)

below-by : (x : ℕ) (b : Bracket) (ns : List ℕ) → Below x ns → Below (suc x) (nest_after b x ns)
below-by x level ns h = below-up x ns h
below-by x opens_over_part ns h = (omega arith, below-up x ns h)
below-by x opens_over_data ns h = (omega arith, below-up x ns h)
below-by x ends [] h = tt
below-by x ends (n ∷ ns) h = below-up x ns h.1

nest-below : (c : Course) (x : ℕ) → Below x (nest c x)
nest-below c zero = tt
nest-below c (suc x) = below-by x (c.bracket x) (nest c x) (nest-below c x)

-- a loop opens before the places in it
pub opener-before : (c : Course) (x opener : ℕ) (outer : List ℕ) → nest c x ≡ opener ∷ outer → opener < x
opener-before c x opener outer e = (subst (λ ns. Below x ns) e (nest-below c x)).0

apart-below : (x place : ℕ) (ms ns : List ℕ) → Below x ns → x ≤ place → inside (place ∷ ms) ns ≡ false
apart-below x place ms [] h le = refl
apart-below x place ms (n ∷ ns) h le =
    rw (differ-first place n ms ns (λ e. omega (arith, h.0, le, e)), apart-below x place ms ns h.1 le) refl

-- a loop isn't open at the places up to where it opens
pub below-outside : (c : Course) (place y : ℕ) (ms : List ℕ) → y ≤ place
    → inside (place ∷ ms) (nest c y) ≡ false
below-outside c place y ms le = apart-below y place ms (nest c y) (nest-below c y) le

-- each loop of a nest: at its first place the nest is what it is from that loop on
abbrev Opened : Course → List ℕ → Type 0
Opened c [] = Unit {0}
Opened c (n ∷ ns) = (nest c (suc n) ≡ n ∷ ns) × Opened c ns

opened-by : (c : Course) (x : ℕ) (b : Bracket) (ns : List ℕ) →
    nest c (suc x) ≡ nest_after b x ns → Opened c ns → Opened c (nest_after b x ns)
opened-by c x level ns e h = h
opened-by c x opens_over_part ns e h = (e, h)
opened-by c x opens_over_data ns e h = (e, h)
opened-by c x ends [] e h = tt
opened-by c x ends (n ∷ ns) e h = h.1

nest-opened : (c : Course) (x : ℕ) → Opened c (nest c x)
nest-opened c zero = tt
nest-opened c (suc x) = opened-by c x (c.bracket x) (nest c x) refl (nest-opened c x)

pub first-place : (c : Course) (x opener : ℕ) (outer : List ℕ) → nest c x ≡ opener ∷ outer →
    nest c (suc opener) ≡ opener ∷ outer
first-place c x opener outer e = (subst (λ ns. Opened c ns) e (nest-opened c x)).0

opened-back : (b : Bracket) (x opener : ℕ) (outer ns : List ℕ) → Below x ns → x ≤ opener →
    nest_after b x ns ≡ opener ∷ outer → ns ≡ outer
opened-back level x opener outer ns h le e =
    absurd (let k = subst (λ ms. Below x ms) e h in omega (arith, k.0, le))
opened-back opens_over_part x opener outer ns h le e = ap (drop 1) e
opened-back opens_over_data x opener outer ns h le e = ap (drop 1) e
opened-back ends x opener outer [] h le e = absurd (omega (arith, ap length e))
opened-back ends x opener outer (n ∷ ns) h le e =
    absurd (let k = subst (λ ms. Below x ms) e h.1 in omega (arith, k.0, le))

-- where a loop opens the loops round it are open
pub opened-from : (c : Course) (x opener : ℕ) (outer : List ℕ) → nest c x ≡ opener ∷ outer
    → nest c opener ≡ outer
opened-from c x opener outer e =
    opened-back (c.bracket opener) opener opener outer (nest c opener) (nest-below c opener) (omega arith)
    (first-place c x opener outer e)
