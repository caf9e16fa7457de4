-- Equal keys among the keys of a list, where a test tells which keys are equal.
use Rattle.std.proofs.Common.{◌≡◌, ◌⊎◌, ◌<◌, ◌≤◌, ◌+◌, ℕ, Bool, true, false, cond, List, [], ◌∷◌, ◌++◌, length, map}
use Rattle.std.proofs.Common.{Some, None, refl, sym, ap, ap₂, ◌∙◌, subst, arith, inl, inr}
use Rattle.std.specs.Prelude.{◌&&◌, if◌then◌else◌}
use Rattle.std.specs.List.{position_from}
use Rattle.std.proofs.lemmas.Bool.{cases_Bool, cases_lt, eq-eqb, lt-ltb}
use Rattle.std.proofs.lemmas.List.Sums.{sum_by-append, sum_by-cons}
use Rattle.key_groups.specs.Groups.{times, begins_larger, larger_from, larger_groups, group_of}

-- ---- lists

pub head_or : {X : Type 0} → X → List X → X
head_or d [] = d
head_or d (x ∷ xs) = x

pub rest_of : {X : Type 0} → List X → List X
rest_of [] = []
rest_of (x ∷ xs) = xs

pub same_head : {X : Type 0} (x y : X) (xs ys : List X) → x ∷ xs ≡ y ∷ ys → x ≡ y
unfolding head_or
same_head x y xs ys e = ap (head_or x) e

pub same_rest : {X : Type 0} (x y : X) (xs ys : List X) → x ∷ xs ≡ y ∷ ys → xs ≡ ys
unfolding rest_of
same_rest x y xs ys e = ap rest_of e

pub true_is_no : (b : Bool) → b ≡ true → b ≡ false → ⊥
true_is_no b hit miss = cc

-- ---- the first that passes

never_none : (n : ℕ) → Some n ≡ None → ⊥
never_none n e = cc

same_some : (m n : ℕ) → Some m ≡ Some n → m ≡ n
same_some m n e = cc

pub position_at_least : {A : Type 0} (p : A → Bool) (n g : ℕ) (xs : List A)
    → position_from p n xs ≡ Some g → n ≤ g
position_at_least p n g [] e = cc
position_at_least p n g (x ∷ xs) e =
    elim (cases_Bool (p x)) [
      | inl hit ↦
          let is : n ≡ g = same_some n g (sym (ap (λ b. cond b (Some n) (position_from p (n + 1) xs)) hit) ∙ e) in
          omega (arith, is)
      | inr miss ↦
          let later : n + 1 ≤ g = position_at_least p (n + 1) g xs
          (sym (ap (λ b. cond b (Some n) (position_from p (n + 1) xs)) miss) ∙ e) in
          omega (arith, later)
    ]

position_below : {A : Type 0} (p : A → Bool) (n g : ℕ) (xs : List A) → position_from p n xs ≡ Some g
    → g < n + length xs
position_below p n g [] e = cc
position_below p n g (x ∷ xs) e =
    elim (cases_Bool (p x)) [
      | inl hit ↦
          let is : n ≡ g = same_some n g (sym (ap (λ b. cond b (Some n) (position_from p (n + 1) xs)) hit) ∙ e) in
          omega (arith, is)
      | inr miss ↦
          let later : g < n + 1 + length xs = position_below p (n + 1) g xs
          (sym (ap (λ b. cond b (Some n) (position_from p (n + 1) xs)) miss) ∙ e) in
          omega (arith, later)
    ]

-- at the same place both tests pass
pub position_of_both : {A : Type 0} (p q : A → Bool) (n g : ℕ) (xs : List A) → position_from p n xs ≡ Some g
    → position_from q n xs ≡ Some g → (x : A) × (p x ≡ true) × (q x ≡ true)
position_of_both p q n g [] e f = absurd (never_none g (sym e))
position_of_both p q n g (x ∷ xs) e f =
    elim (cases_Bool (p x)) [
      | inl hit ↦ elim (cases_Bool (q x)) [
        | inl also ↦ (x, hit, also)
        | inr miss ↦
            let is : n ≡ g =
            same_some n g (sym (ap (λ b. cond b (Some n) (position_from p (n + 1) xs)) hit) ∙ e) in
            let later : n + 1 ≤ g = position_at_least q (n + 1) g xs
            (sym (ap (λ b. cond b (Some n) (position_from q (n + 1) xs)) miss) ∙ f) in
            absurd (omega (arith, is, later))
      ]
      | inr not ↦ elim (cases_Bool (q x)) [
        | inl hit ↦
            let is : n ≡ g =
            same_some n g (sym (ap (λ b. cond b (Some n) (position_from q (n + 1) xs)) hit) ∙ f) in
            let later : n + 1 ≤ g = position_at_least p (n + 1) g xs
            (sym (ap (λ b. cond b (Some n) (position_from p (n + 1) xs)) not) ∙ e) in
            absurd (omega (arith, is, later))
        | inr miss ↦ position_of_both p q (n + 1) g xs
            (sym (ap (λ b. cond b (Some n) (position_from p (n + 1) xs)) not) ∙ e)
            (sym (ap (λ b. cond b (Some n) (position_from q (n + 1) xs)) miss) ∙ f)
      ]
    ]

-- one of the items passes
abbrev pub SomePasses : {A : Type 0} → (A → Bool) → List A → Type 0
SomePasses p [] = ⊥
SomePasses p (x ∷ xs) = (p x ≡ true) ⊎ SomePasses p xs

pub has_position : {A : Type 0} (p : A → Bool) (n : ℕ) (xs : List A) → SomePasses p xs
    → position_from p n xs ≡ None → ⊥
has_position p n [] passes e = passes
has_position p n (x ∷ xs) passes e =
    elim (cases_Bool (p x)) [
      | inl hit ↦ never_none n (sym (ap (λ b. cond b (Some n) (position_from p (n + 1) xs)) hit) ∙ e)
      | inr miss ↦ elim passes [
        | inl hit ↦ true_is_no (p x) hit miss
        | inr later ↦ has_position p (n + 1) xs later
            (sym (ap (λ b. cond b (Some n) (position_from p (n + 1) xs)) miss) ∙ e)
      ]
    ]

passes_after : {A : Type 0} (p : A → Bool) (xs ys : List A) → SomePasses p ys → SomePasses p (xs ++ ys)
passes_after p [] ys some = some
passes_after p (x ∷ xs) ys some = inr (passes_after p xs ys some)

module _ {K : Type 0} (same : K → K → Bool) (equal : (a b : K) → same a b ≡ true → a ≡ b)
    (itself : (a : K) → same a a ≡ true) where
  pub times_append : (key : K) (xs ys : List K) → times same key (xs ++ ys) ≡ times same key xs + times same key ys
  times_append key xs ys = sum_by-append (λ o. cond (same o key) 1 0) xs ys

  pub times_cons : (key other : K) (xs : List K)
      → times same key (other ∷ xs) ≡ cond (same other key) 1 0 + times same key xs
  times_cons key other xs = sum_by-cons (λ o. cond (same o key) 1 0) other xs

  pub times_same : (key : K) (xs : List K) → times same key (key ∷ xs) ≡ 1 + times same key xs
  times_same key xs = times_cons key key xs ∙ ap (λ b. cond b 1 0 + times same key xs) (itself key)

  pub times_other : (key other : K) (xs : List K) → same other key ≡ false
      → times same key (other ∷ xs) ≡ times same key xs
  times_other key other xs miss =
      times_cons key other xs ∙ ap (λ b. cond b 1 0 + times same key xs) miss ∙ omega arith

  -- ---- groups of one

  first_of_larger : (all before rest : List K) (key : K) → times same key before ≡ 0 → 1 ≤ times same key rest
      → 1 < times same key all → SomePasses (λ o. same o key) (larger_from same all before rest)
  first_of_larger all before [] key none some many = absurd (omega (arith, some))
  first_of_larger all before (x ∷ rest) key none some many =
      elim (cases_Bool (same x key)) [
        | inl hit ↦
            let is : key ≡ x = sym (equal x key hit) in
            let begins : begins_larger same all before x ≡ true =
            ap₂ (λ a b. a && b) (eq-eqb (times same x before) 0 (subst (λ k. times same k before ≡ 0) is none))
            (lt-ltb 1 (times same x all) (subst (λ k. 1 < times same k all) is many)) in
            subst (λ b. SomePasses (λ o. same o key)
            ((if b then x ∷ [] else []) ++ larger_from same all (before ++ x ∷ []) rest)) (sym begins) (inl hit)
        | inr miss ↦
            let none_yet : times same key (before ++ x ∷ []) ≡ 0 =
            let e = times_append key before (x ∷ []) in
            let f = times_other key x [] miss in omega (arith, e, f, none) in
            let some_left : 1 ≤ times same key rest = let e = times_other key x rest miss in omega (arith, e, some) in
            passes_after (λ o. same o key) (if begins_larger same all before x then x ∷ [] else [])
            (larger_from same all (before ++ x ∷ []) rest)
            (first_of_larger all (before ++ x ∷ []) rest key none_yet some_left many)
      ]

  -- a key that is in no larger group is there once at most
  pub once_at_most : (all : List K) (key : K) → group_of same all key ≡ None → times same key all ≤ 1
  once_at_most all key none =
      elim (cases_lt 1 (times same key all)) [
        | inl many ↦ absurd (has_position (λ o. same o key) 1 (larger_groups same all)
            (first_of_larger all [] all key (omega arith) (omega (arith, many)) many) none)
        | inr few ↦ few
      ]

  few_larger : (all before rest : List K) → length (larger_from same all before rest) ≤ length rest
  few_larger all before [] = omega arith
  few_larger all before (x ∷ rest) =
      let later = few_larger all (before ++ x ∷ []) rest in
      let more = larger_from same all (before ++ x ∷ []) rest in
      elim (cases_Bool (begins_larger same all before x)) [
        | inl hit ↦
            let is : length ((if begins_larger same all before x then x ∷ [] else []) ++ more)
            ≡ length (x ∷ more) =
            ap (λ b. length ((if b then x ∷ [] else []) ++ more)) hit in
            omega (arith, is, later)
        | inr miss ↦
            let is : length ((if begins_larger same all before x then x ∷ [] else []) ++ more) ≡ length more =
            ap (λ b. length ((if b then x ∷ [] else []) ++ more)) miss in
            omega (arith, is, later)
      ]

  -- there are no more groups than keys
  pub few_groups : (all : List K) (key : K) (g : ℕ) → group_of same all key ≡ Some g → g ≤ length all
  few_groups all key g is =
      let below = position_below (λ o. same o key) 1 g (larger_groups same all) is in
      let few = few_larger all [] all in omega (arith, below, few)

  -- a key that is there is there once or more
  pub times_item : (key : K) (before after : List K) → 1 ≤ times same key (before ++ key ∷ after)
  times_item key before after =
      let both = times_append key before (key ∷ after) in
      let one = times_same key after in omega (arith, both, one)

  -- keys of one group are equal
  pub equal_in_group : (all : List K) (a b : K) (g : ℕ) → group_of same all a ≡ Some g
      → group_of same all b ≡ Some g → a ≡ b
  equal_in_group all a b g e f =
      let both = position_of_both (λ o. same o a) (λ o. same o b) 1 g (larger_groups same all) e f in
      sym (equal both.0 a both.1) ∙ equal both.0 b both.2

  -- ---- which of a list has a key, by how many before it have it

  module _ {X : Type 0} (key_of : X → K) where
    abbrev pub before_it : K → List X → ℕ
    before_it key xs = times same key (map key_of xs)

    one_before : (key : K) (x : X) (xs : List X) → key_of x ≡ key → 1 ≤ before_it key (x ∷ xs)
    one_before key x xs is =
        let e : times same key (key_of x ∷ map key_of xs) ≡ 1 + before_it key xs =
        subst (λ k. times same key (k ∷ map key_of xs) ≡ 1 + before_it key xs) (sym is)
        (times_same key (map key_of xs)) in
        omega (arith, e)

    pub same_split : (b c : List X) (x y : X) (bs cs : List X) → b ++ x ∷ bs ≡ c ++ y ∷ cs
        → key_of x ≡ key_of y → before_it (key_of y) b ≡ before_it (key_of y) c → (b ≡ c) × (x ≡ y)
    same_split [] [] x y bs cs e k t = (refl, same_head x y bs cs e)
    same_split [] (z ∷ c) x y bs cs e k t =
        let is : key_of z ≡ key_of y = ap key_of (sym (same_head x z bs (c ++ y ∷ cs) e)) ∙ k in
        let one : 1 ≤ before_it (key_of y) (z ∷ c) = one_before (key_of y) z c is in
        absurd (omega (arith, one, t))
    same_split (z ∷ b) [] x y bs cs e k t =
        let is : key_of z ≡ key_of y = ap key_of (same_head z y (b ++ x ∷ bs) cs e) in
        let one : 1 ≤ before_it (key_of y) (z ∷ b) = one_before (key_of y) z b is in
        absurd (omega (arith, one, t))
    same_split (z ∷ b) (w ∷ c) x y bs cs e k t =
        let first : z ≡ w = same_head z w (b ++ x ∷ bs) (c ++ y ∷ cs) e in
        let as_often : before_it (key_of y) b ≡ before_it (key_of y) c =
        let one : ℕ = cond (same (key_of z) (key_of y)) 1 0 in
        let other : ℕ = cond (same (key_of w) (key_of y)) 1 0 in
        let more : one ≡ other = ap (λ v. cond (same (key_of v) (key_of y)) 1 0) first in
        let here = times_cons (key_of y) (key_of z) (map key_of b) in
        let there = times_cons (key_of y) (key_of w) (map key_of c) in
        omega (arith, more, here, there, t) in
        let rest = same_split b c x y bs cs (same_rest z w (b ++ x ∷ bs) (c ++ y ∷ cs) e) k as_often in
        ((λ i. first i ∷ rest.0 i), rest.1)
