-- Shares of places, seen from nests that lie in one another.
use Rattle.std.proofs.Common.{◌≡◌, ℕ, Bool, true, false, true≢false, List, [], ◌∷◌, length, drop, refl}
use Rattle.std.proofs.Common.{sym, ap, ◌∙◌, subst, arith}
use Rattle.std.specs.Prelude.{if◌then◌else◌, ◌||◌}
use Rattle.code_rules.specs.Inner.Course.{Cost, nothing, plus, of_turns, Course, same_nest, share}
use Rattle.code_rules.proofs.Courses.Sums.{Le, turns-nothing}
use Rattle.code_rules.proofs.Courses.Nests.{same-refl, same-true, differ-length, first_or, or-false, inside}
use Rattle.code_rules.proofs.Courses.Nests.{inside-length}

pub share-self : (c : Course) (ns : List ℕ) (k : Cost) → share c ns ns k ≡ k
share-self c [] k = refl
share-self c (n ∷ ns) k =
    ap (λ b. if b then k else share c (n ∷ ns) ns (of_turns c.size (c.bracket n) k)) (same-refl (n ∷ ns))

neither-left : (b c : Bool) → (b || c) ≡ false → b ≡ false
neither-left true c h = h
neither-left false c h = refl

neither-right : (b c : Bool) → (b || c) ≡ false → c ≡ false
neither-right true c h = absurd (true≢false h)
neither-right false c h = h

pub share-outside : (c : Course) (outer ns : List ℕ) (k : Cost) → inside outer ns ≡ false →
    share c outer ns k ≡ nothing
share-outside c outer [] k h = ap (λ b. if b then k else nothing) h
share-outside c outer (n ∷ ns) k h =
    ap (λ b. if b then k else share c outer ns (of_turns c.size (c.bracket n) k))
    (neither-left (same_nest outer (n ∷ ns)) (inside outer ns) h)
    ∙ share-outside c outer ns (of_turns c.size (c.bracket n) k)
    (neither-right (same_nest outer (n ∷ ns)) (inside outer ns) h)

-- a place in a loop, seen from round it
share-inside : (c : Course) (opener : ℕ) (outer ns : List ℕ) (k : Cost) →
    inside (opener ∷ outer) ns ≡ true →
    share c outer ns k ≡ of_turns c.size (c.bracket opener) (share c (opener ∷ outer) ns k)
share-inside c opener outer [] k h = absurd (true≢false (sym h))
share-inside c opener outer (n ∷ ns) k h =
    by (λ j. share-inside c opener outer ns (of_turns c.size (c.bracket n) k) j)
    (same_nest (opener ∷ outer) (n ∷ ns)) refl
  where
    turned : Cost
    turned = of_turns c.size (c.bracket n) k

    by : (inside (opener ∷ outer) ns ≡ true →
        share c outer ns turned ≡ of_turns c.size (c.bracket opener) (share c (opener ∷ outer) ns turned)) →
        (b : Bool) → same_nest (opener ∷ outer) (n ∷ ns) ≡ b →
        share c outer (n ∷ ns) k ≡ of_turns c.size (c.bracket opener) (share c (opener ∷ outer) (n ∷ ns) k)
    by further true e =
        let same = same-true (opener ∷ outer) (n ∷ ns) e in
        let opens : opener ≡ n = ap (first_or 0) same in
        let rest : outer ≡ ns = ap (drop 1) same in
        let apart = differ-length outer (n ∷ ns) (λ l. omega (arith, l, ap length rest)) in
        ap (λ b. if b then k else share c outer ns turned) apart
        ∙ (ap (λ o. share c o ns turned) rest
        ∙ (share-self c ns turned
        ∙ (sym (ap (λ o. of_turns c.size (c.bracket o) k) opens)
        ∙ sym (ap (λ b. of_turns c.size (c.bracket opener)
        (if b then k else share c (opener ∷ outer) ns turned)) e))))
    by further false e =
        let inner = or-false (same_nest (opener ∷ outer) (n ∷ ns)) (inside (opener ∷ outer) ns) e h in
        let long = inside-length (opener ∷ outer) ns inner in
        let apart = differ-length outer (n ∷ ns) (λ l. omega (arith, l, long)) in
        ap (λ b. if b then k else share c outer ns turned) apart
        ∙ (further inner
        ∙ sym (ap (λ b. of_turns c.size (c.bracket opener)
        (if b then k else share c (opener ∷ outer) ns turned)) e))

-- a share seen from round a loop is that of the loop's turns, or what isn't in the loop
pub share-split : (c : Course) (opener : ℕ) (outer ns : List ℕ) (k : Cost) →
    Le (plus (of_turns c.size (c.bracket opener) (share c (opener ∷ outer) ns k))
    (if inside (opener ∷ outer) ns then nothing else share c outer ns k)) (share c outer ns k)
share-split c opener outer ns k = by (inside (opener ∷ outer) ns) refl
  where
    turns : Cost
    turns = of_turns c.size (c.bracket opener) (share c (opener ∷ outer) ns k)

    by : (b : Bool) → inside (opener ∷ outer) ns ≡ b →
        Le (plus turns (if b then nothing else share c outer ns k)) (share c outer ns k)
    by true e =
        subst (λ s. Le (plus turns nothing) s) (sym (share-inside c opener outer ns k e))
        (record { alone = omega arith; per = omega arith })
    by false e =
        let none : Le turns nothing =
        subst (λ s. Le (of_turns c.size (c.bracket opener) s) nothing)
        (sym (share-outside c (opener ∷ outer) ns k e)) (turns-nothing c.size (c.bracket opener)) in
        record { alone = omega (arith, none.alone); per = omega (arith, none.per) }
