-- Which of some entries wins over the others, found among those of each key.
use Rattle.std.proofs.Common.{◌≡◌, ℕ, ◌<◌, ◌≤◌, true, false, Bool, List, length, get_or, refl}
use Rattle.std.proofs.Common.{sym, ap, subst, ◌∙◌, arith, ◌⊎◌, inl, inr, Option, Some, None}
use Rattle.std.specs.Cmp.{IsTotalOrder}
use Rattle.std.specs.List.{AllPairs, AllWithin, HoldsAt}
use Rattle.std.specs.List.Sorted.{IsPartitionedBy}
use Rattle.std.specs.Ordering.{is_gt, is_lt, ordering_reverse, ordering_then}
use Rattle.std.specs.declared.cmp.Ordering.{Ordering}
use Rattle.std.specs.declared.cmp.Ordering.TheVariants.{Less, Equal, Greater}
use Rattle.std.proofs.lemmas.Bool.{cases_order, true≢false, false≢true}
use Rattle.std.proofs.lemmas.Cmp.{tied_itself}
use Rattle.mapping_store.specs.declared.entry.Entry.{Entry}
use Rattle.mapping_store.specs.Kept.{choice_order, key_order, IsBefore, IsFirst}
use Rattle.mapping_store.proofs.OrderLemmas.{choice_total, key_total, not_beaten_itself}
use Rattle.mapping_store.proofs.RankLemmas.{less_than}
use Rattle.mapping_store.specs.Inner.Best.{IsBest, IsBestAt, IsBetterOf, IsNone}
use Rattle.request_match.specs.declared.url_key.UrlKey.{UrlKey}
use Rattle.request_match.specs.declared.url_key.UrlKey.TheVariants.{Any, Url, UrlPath}

-- ---- a total order

back_lt : (r : Ordering) → is_gt r ≡ true → is_lt (ordering_reverse r) ≡ true
back_lt Less h = absurd (false≢true h)
back_lt Equal h = absurd (false≢true h)
back_lt Greater h = refl

lt_back : (r : Ordering) → is_lt (ordering_reverse r) ≡ true → is_gt r ≡ true
lt_back Less h = absurd (false≢true h)
lt_back Equal h = absurd (false≢true h)
lt_back Greater h = refl

lt_not_gt : (r : Ordering) → is_lt r ≡ true → is_gt r ≡ false
lt_not_gt Less h = refl
lt_not_gt Equal h = absurd (false≢true h)
lt_not_gt Greater h = absurd (false≢true h)

module _ {K : Type 0} {R : K → K → Ordering} (o : IsTotalOrder R) where
  -- the other way round
  turned : (a b : K) → is_gt (R a b) ≡ true → is_lt (R b a) ≡ true
  turned a b h = ap is_lt (o.antisymm b a) ∙ back_lt (R a b) h

  turned_back : (a b : K) → is_lt (R b a) ≡ true → is_gt (R a b) ≡ true
  turned_back a b h = lt_back (R a b) (sym (ap is_lt (o.antisymm b a)) ∙ h)

  not_over : (a b c : K) → is_gt (R a b) ≡ false → is_gt (R b c) ≡ false → (g : Bool) → is_gt (R a c) ≡ g
      → is_gt (R a c) ≡ false
  not_over a b c first second false is = is
  not_over a b c first second true is =
      absurd (true≢false (sym (turned_back a b (less_than o b c a second (turned a c is))) ∙ first))

  -- of what isn't over one another
  pub not_gt_trans : (a b c : K) → is_gt (R a b) ≡ false → is_gt (R b c) ≡ false → is_gt (R a c) ≡ false
  not_gt_trans a b c first second = not_over a b c first second (is_gt (R a c)) refl

  pub gt_turned : (a b : K) → is_gt (R a b) ≡ true → is_gt (R b a) ≡ false
  gt_turned a b h = lt_not_gt (R b a) (turned a b h)

-- ---- the better of two

module _ (P Q Meets : Entry → Type 0) (entries : List Entry) where
  abbrev Both : Entry → Type 0
  Both e = P e ⊎ Q e

  pub neither : IsNone P Meets entries → IsNone Q Meets entries → IsNone Both Meets entries
  neither one other k d within (inl is) = one k d within is
  neither one other k d within (inr is) = other k d within is

  pub one_alone : (at : ℕ) → IsBestAt P Meets entries at → IsNone Q Meets entries
      → IsBestAt Both Meets entries at
  one_alone at one other = record {
    within = one.within;
    meets = one.meets;
    first = λ k d within is meets. elim is as
        (λ _. IsFirst (get_or entries at d) (get_or entries k d)) [
          | inl here ↦ one.first k d within here meets
          | inr there ↦ absurd (other k d within there meets)
        ];
  }

  pub other_alone : (at : ℕ) → IsNone P Meets entries → IsBestAt Q Meets entries at
      → IsBestAt Both Meets entries at
  other_alone at one other = record {
    within = other.within;
    meets = other.meets;
    first = λ k d within is meets. elim is as
        (λ _. IsFirst (get_or entries at d) (get_or entries k d)) [
          | inl here ↦ absurd (one k d within here meets)
          | inr there ↦ other.first k d within there meets
        ];
  }

  pub one_first : (at after : ℕ) → IsBestAt P Meets entries at → IsBestAt Q Meets entries after
      → ((d : Entry) → IsFirst (get_or entries at d) (get_or entries after d)) → IsBestAt Both Meets entries at
  one_first at after one other before = record {
    within = one.within;
    meets = one.meets;
    first = λ k d within is meets. elim is as
        (λ _. IsFirst (get_or entries at d) (get_or entries k d)) [
          | inl here ↦ one.first k d within here meets
          | inr there ↦ not_gt_trans choice_total (get_or entries at d) (get_or entries after d) (get_or entries k d)
              (before d) (other.first k d within there meets)
        ];
  }

  pub other_first : (at after : ℕ) → IsBestAt P Meets entries at → IsBestAt Q Meets entries after
      → ((d : Entry) → IsFirst (get_or entries after d) (get_or entries at d)) → IsBestAt Both Meets entries after
  other_first at after one other before = record {
    within = other.within;
    meets = other.meets;
    first = λ k d within is meets. elim is as
        (λ _. IsFirst (get_or entries after d) (get_or entries k d)) [
          | inl here ↦ not_gt_trans choice_total (get_or entries after d) (get_or entries at d) (get_or entries k d)
              (before d) (one.first k d within here meets)
          | inr there ↦ other.first k d within there meets
        ];
  }

  pub better_of : (one other result : Option ℕ) → IsBest P Meets entries one → IsBest Q Meets entries other
      → IsBetterOf entries one other result → IsBest Both Meets entries result
  better_of None None result no_one no_other is =
      subst (IsBest Both Meets entries) (sym is) (neither no_one no_other)
  better_of None (Some after) result no_one other is =
      subst (IsBest Both Meets entries) (sym is) (other_alone after no_one other)
  better_of (Some at) None result one no_other is =
      subst (IsBest Both Meets entries) (sym is) (one_alone at one no_other)
  better_of (Some at) (Some after) result one other (inl is) =
      subst (IsBest Both Meets entries) (sym is.0) (one_first at after one other is.1)
  better_of (Some at) (Some after) result one other (inr is) =
      subst (IsBest Both Meets entries) (sym is.0) (other_first at after one other is.1)

-- ---- those of one key

-- what is in order is in the order of keys
in_keys : (r q : Ordering) → is_gt (ordering_then r q) ≡ false → is_gt r ≡ false
in_keys Less q h = refl
in_keys Equal q h = refl
in_keys Greater q h = absurd (true≢false h)

module _ (xs : List Entry) (key : UrlKey) (pairs : AllPairs IsBefore xs) where
  keys : (i j : ℕ) (d : Entry) → i < j → j < length xs
      → is_gt (key_order (get_or xs i d).key (get_or xs j d).key) ≡ false
  keys i j d below l =
      in_keys (key_order (get_or xs i d).key (get_or xs j d).key)
      (choice_order (get_or xs i d) (get_or xs j d)) (pairs i j d below l)

  -- those whose keys are less come first
  pub parted_below : IsPartitionedBy (λ e. is_lt (key_order e.key key)) xs
  parted_below i j d le l less =
      elim (cases_order i j) as (λ _. is_lt (key_order (get_or xs i d).key key) ≡ true) [
        | inl same ↦ subst (λ k. is_lt (key_order (get_or xs k d).key key) ≡ true) (sym same) less
        | inr other ↦ elim other as (λ _. is_lt (key_order (get_or xs i d).key key) ≡ true) [
          | inl below ↦ less_than key_total (get_or xs i d).key (get_or xs j d).key key (keys i j d below l) less
          | inr above ↦ absurd (omega arith)
        ]
      ]

-- and none is less than what asks for no literal URL
pub none_below_any : (k : UrlKey) → is_lt (key_order k Any) ≡ false
none_below_any Any = refl
none_below_any (Url hash) = refl
none_below_any (UrlPath hash) = refl

-- where a key is neither less nor greater, what is in order is in the order of choice
in_choice : (r q : Ordering) → is_lt r ≡ false → is_gt r ≡ false → is_gt (ordering_then r q) ≡ false
    → is_gt q ≡ false
in_choice Less q no_less no_more h = absurd (true≢false no_less)
in_choice Equal q no_less no_more h = h
in_choice Greater q no_less no_more h = absurd (true≢false no_more)

-- the entries before the start have lesser keys, and none after it has
pub record IsStart (entries : List Entry) (key : UrlKey) (start : ℕ) : Type 0 where
  pub before : AllWithin (λ e. is_lt (key_order e.key key) ≡ true) entries 0 start
  pub from : AllWithin (λ e. is_lt (key_order e.key key) ≡ false) entries start (length entries)

module _ (entries : List Entry) (key : UrlKey) (start : ℕ) (is_start : IsStart entries key start)
    (Meets : Entry → Type 0) where
  abbrev Passed : Entry → Type 0
  Passed e = ¬ (Meets e)

  same_key : (a : UrlKey) → a ≡ key → key_order a key ≡ Equal
  same_key a is = subst (λ b. key_order b key ≡ Equal) (sym is) (tied_itself key_total key)

  not_greater : (a : UrlKey) → a ≡ key → ¬ (is_gt (key_order a key) ≡ true)
  not_greater a is greater = false≢true (sym (ap is_gt (same_key a is)) ∙ greater)

  not_before : (k : ℕ) (d : Entry) → (get_or entries k d).key ≡ key → ¬ (k < start)
  not_before k d is less =
      false≢true (sym (ap is_lt (same_key (get_or entries k d).key is)) ∙ is_start.before k d (omega arith) less)

  pub none_at_all : AllWithin Passed entries start (length entries) → IsNone (λ e. e.key ≡ key) Meets entries
  none_at_all passed k d within is =
      let from = not_before k d is in
      passed k d (omega (arith, from)) within

  module _ (in_order : AllPairs IsBefore entries) where
    -- none has the key from an entry on whose own is greater
    not_beyond : (at k : ℕ) (d : Entry) → HoldsAt (λ e. is_gt (key_order e.key key) ≡ true) entries at
        → k < length entries → (get_or entries k d).key ≡ key → ¬ (at ≤ k)
    not_beyond at k d greater within is more =
        elim (cases_order at k) as (λ _. ⊥) [
          | inl same ↦ not_greater (get_or entries at d).key
              (subst (λ n. (get_or entries n d).key ≡ key) (sym same) is) (greater d)
          | inr other ↦ elim other as (λ _. ⊥) [
            | inl below ↦ true≢false
                (sym (greater d)
                ∙ subst (λ b. is_gt (key_order (get_or entries at d).key b) ≡ false) is
                (keys entries key in_order at k d below within))
            | inr above ↦ absurd (omega arith)
          ]
        ]

    pub none_up_to : (at : ℕ) → HoldsAt (λ e. is_gt (key_order e.key key) ≡ true) entries at
        → AllWithin Passed entries start at → IsNone (λ e. e.key ≡ key) Meets entries
    none_up_to at greater passed k d within is =
        let from = not_before k d is in
        let to = not_beyond at k d greater within is in
        passed k d (omega (arith, from)) (omega (arith, to))

    pub best_at : (at : ℕ) → start ≤ at → at < length entries
        → HoldsAt (λ e. is_gt (key_order e.key key) ≡ false) entries at
        → HoldsAt Meets entries at → AllWithin Passed entries start at
        → IsBestAt (λ e. e.key ≡ key) Meets entries at
    best_at at from within no_greater meets passed = record {
      within = within;
      meets = meets;
      first = λ k d inside is meets_too.
          let after_start = not_before k d is in
          elim (cases_order k at) as (λ _. IsFirst (get_or entries at d) (get_or entries k d)) [
            | inl same ↦ subst (λ n. IsFirst (get_or entries at d) (get_or entries n d)) (sym same)
                (not_beaten_itself (get_or entries at d))
            | inr other ↦ elim other as (λ _. IsFirst (get_or entries at d) (get_or entries k d)) [
              | inl below ↦ absurd (passed k d (omega (arith, after_start)) below meets_too)
              | inr above ↦
                  let a : Entry = get_or entries at d in
                  let b : Entry = get_or entries k d in
                  let no_less : is_lt (key_order a.key b.key) ≡ false =
                  subst (λ c. is_lt (key_order a.key c) ≡ false) (sym is) (is_start.from at d from within) in
                  let no_more : is_gt (key_order a.key b.key) ≡ false =
                  subst (λ c. is_gt (key_order a.key c) ≡ false) (sym is) (no_greater d) in
                  in_choice (key_order a.key b.key) (choice_order a b) no_less no_more
                  (in_order at k d above inside)
            ]
          ];
    }

-- ---- all

-- what holds of each entry that meets may be left out
module _ (P Meets : Entry → Type 0) (entries : List Entry)
    (each : (k : ℕ) (d : Entry) → k < length entries → Meets (get_or entries k d)
    → P (get_or entries k d)) where
  pub of_all : (found : Option ℕ) → IsBest P Meets entries found → IsBest (λ _. Unit {0}) Meets entries found
  of_all None none = λ k d within is meets. none k d within (each k d within meets) meets
  of_all (Some at) best = record {
    within = best.within;
    meets = best.meets;
    first = λ k d within is meets. best.first k d within (each k d within meets) meets;
  }
