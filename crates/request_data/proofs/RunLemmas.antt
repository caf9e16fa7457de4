-- Names whose values follow each other, as pairs.
use Rattle.std.proofs.Common.{◌≡◌, ℕ, Bool, true, false, ◌||◌, cond, List, [], ◌∷◌, ◌++◌, map}
use Rattle.std.proofs.Common.{refl, ap, sym, ◌∙◌, append-nil, append_assoc, ◌<◌, length, arith}
use Rattle.std.proofs.Common.{is_some}
use Rattle.std.specs.Option.{unwrap_or}
use Rattle.std.specs.Cmp.Lexicographic.{slice_cmp}
use Rattle.std.specs.Ordering.{is_eq, nat_cmp}
use Rattle.std.specs.declared.cmp.Ordering.TheVariants.{Less}
use Rattle.std.specs.List.{AllByRecursion}
use Rattle.std.specs.List.Sorted.{IsStrictlySortedBy}
use Rattle.std.specs.Map.{keys_of}
use Rattle.std.proofs.lemmas.Cmp.{nat_list_cmp_total}
use Rattle.std.proofs.lemmas.Map.Text.{is_eq-slice_cmp}
use Rattle.std.proofs.lemmas.Slice.Eq.{bytes_eq-Decides}
use Rattle.data_tree.specs.Tree.{members_of}
use Rattle.request_data.specs.Grouped.{members_under, names_in, values_tree}
use Rattle.request_data.proofs.GroupLemmas.{entry_tree, found, grouped_entries}
use Rattle.std.specs.List.{filter, list_any}
use Rattle.std.specs.Str.{bytes_eq}
use Rattle.std.proofs.lemmas.Grind.{flat_map-append}
use Rattle.std.proofs.lemmas.List.{map-append}
use Rattle.std.proofs.lemmas.List.Elements.{filter-append}
use Rattle.std.proofs.lemmas.List.Folds.{list_any-append}
use Rattle.std.specs.Str.Lossy.{utf8_lossy}
use Rattle.form_urlencoded.specs.Form.{decode}
use Rattle.mock_request.specs.Values.{values_of}
use Rattle.mock_request.proofs.QueryLemmas.{texts_left}
use Rattle.request_data.specs.Inner.Runs.{Run, pairs_under, run_pairs, pairs_of_runs, IsBefore, AreInOrder}

-- the name of a pair is that name
abbrev pub is_named : List ℕ → List ℕ × List ℕ → Bool
is_named name pair = bytes_eq name pair.0

runs_more
    : (runs : List Run) (run : Run) → pairs_of_runs (runs ++ run ∷ []) ≡ pairs_of_runs runs ++ run_pairs run
runs_more runs run =
    flat_map-append run_pairs runs (run ∷ []) ∙ ap (λ ps. pairs_of_runs runs ++ ps) (append-nil (run_pairs run))

values_under
    : (name other : List ℕ) (values : List (List ℕ))
    → values_of name (pairs_under other values) ≡ cond (bytes_eq name other) values []
values_under name other values = by (bytes_eq name other) refl values
  where
    by
        : (b : Bool) → bytes_eq name other ≡ b → (values : List (List ℕ))
        → values_of name (pairs_under other values) ≡ cond b values []
    by true e [] = refl
    by false e [] = refl
    by true e (value ∷ values) = rw e (ap (λ vs. value ∷ vs) (by true e values))
    by false e (value ∷ values) = rw e (by false e values)

any_under
    : (name other : List ℕ) (value : List ℕ) (values : List (List ℕ))
    → list_any (is_named name) (pairs_under other (value ∷ values)) ≡ bytes_eq name other
any_under name other value [] = or_false (bytes_eq name other)
  where
    or_false : (b : Bool) → (b || false) ≡ b
    or_false true = refl
    or_false false = refl
any_under name other value (next ∷ values) =
    ap (λ b. bytes_eq name other || b) (any_under name other next values) ∙ or_same (bytes_eq name other)
  where
    or_same : (b : Bool) → (b || b) ≡ b
    or_same true = refl
    or_same false = refl

pub values_of_run
    : (name : List ℕ) (runs : List Run) (run : Run)
    → values_of name (pairs_of_runs (runs ++ run ∷ []))
    ≡ values_of name (pairs_of_runs runs) ++ cond (bytes_eq name run.0) run.1 []
values_of_run name runs run =
    let before = pairs_of_runs runs in
    let here = run_pairs run in
    ap (values_of name) (runs_more runs run)
    ∙ ap (map (λ pair. pair.1)) (filter-append (is_named name) before here)
    ∙ map-append (λ pair. pair.1) (filter (is_named name) before) (filter (is_named name) here)
    ∙ ap (λ vs. values_of name before ++ vs) (values_under name run.0 run.1)

pub any_of_run
    : (name : List ℕ) (runs : List Run) (run : Run) → 0 < length run.1
    → list_any (is_named name) (pairs_of_runs (runs ++ run ∷ []))
    ≡ (list_any (is_named name) (pairs_of_runs runs) || bytes_eq name run.0)
any_of_run name runs run some =
    ap (list_any (is_named name)) (runs_more runs run)
    ∙ list_any-append (is_named name) (pairs_of_runs runs) (run_pairs run)
    ∙ by run.1 some
  where
    by
        : (values : List (List ℕ)) → 0 < length values
        → (list_any (is_named name) (pairs_of_runs runs)
        || list_any (is_named name) (pairs_under run.0 values))
        ≡ (list_any (is_named name) (pairs_of_runs runs) || bytes_eq name run.0)
    by [] none = absurd (omega (arith, none))
    by (value ∷ values) more =
        ap (λ b. list_any (is_named name) (pairs_of_runs runs) || b) (any_under name run.0 value values)

-- ---- a form whose names and values are read one after the other

abbrev pub text_of : List ℕ → List ℕ
text_of encoded = utf8_lossy (decode encoded)

-- what has been read, with what is left
abbrev pub HasRead : List (List ℕ × List ℕ) → List ℕ → List (List ℕ) → List (List ℕ × List ℕ)
    → List (List ℕ × List ℕ) → Type 0
HasRead done name values left whole = (done ++ pairs_under (text_of name) values) ++ texts_left left ≡ whole

shifted
    : (done here : List (List ℕ × List ℕ)) (pair : List ℕ × List ℕ) (later : List (List ℕ × List ℕ))
    → (done ++ (here ++ pair ∷ [])) ++ later ≡ (done ++ here) ++ pair ∷ later
shifted done here pair later =
    ap (λ ps. ps ++ later) (sym (append_assoc done here (pair ∷ []))) ∙ append_assoc (done ++ here) (pair ∷ []) later

-- a name that is pushed with its values leaves room for another name
pub another_name
    : (done new : List (List ℕ × List ℕ)) (last name : List ℕ) (values none : List (List ℕ))
    (left whole : List (List ℕ × List ℕ))
    → HasRead done last values left whole → new ≡ done ++ pairs_under (text_of last) values → none ≡ []
    → HasRead new name none left whole
another_name done new last name values none left whole so_far pushed empty =
    ap (λ vs. (new ++ pairs_under (text_of name) vs) ++ texts_left left) empty
    ∙ ap (λ ps. ps ++ texts_left left) (append-nil new ∙ pushed) ∙ so_far

-- one more value of the same name
pub value_more
    : (done : List (List ℕ × List ℕ)) (last : List ℕ) (values new : List (List ℕ)) (text : List ℕ)
    (name value : List ℕ) (left rest whole : List (List ℕ × List ℕ))
    → HasRead done last values left whole → left ≡ (name, value) ∷ rest → name ≡ last
    → text ≡ text_of value → new ≡ values ++ text ∷ [] → HasRead done last new rest whole
value_more done last values new text name value left rest whole so_far next same is pushed =
    let here = pairs_under (text_of last) values in
    let pair : (text_of last, text) ≡ (text_of name, text_of value) =
    ap (λ n. (text_of n, text)) (sym same) ∙ ap (λ v. (text_of name, v)) is in
    ap (λ vs. (done ++ pairs_under (text_of last) vs) ++ texts_left rest) pushed
    ∙ ap (λ ps. (done ++ ps) ++ texts_left rest) (map-append (λ v. (text_of last, v)) values (text ∷ []))
    ∙ shifted done here (text_of last, text) (texts_left rest)
    ∙ ap (λ p. (done ++ here) ++ p ∷ texts_left rest) pair
    ∙ ap (λ raw. (done ++ here) ++ texts_left raw) (sym next)
    ∙ so_far

pub none_left
    : (done new : List (List ℕ × List ℕ)) (last : List ℕ) (values : List (List ℕ))
    (left whole : List (List ℕ × List ℕ))
    → HasRead done last values left whole → left ≡ [] → new ≡ done ++ pairs_under (text_of last) values
    → new ≡ whole
none_left done new last values left whole so_far none pushed =
    pushed ∙ sym (append-nil (done ++ pairs_under (text_of last) values))
    ∙ ap (λ raw. (done ++ pairs_under (text_of last) values) ++ texts_left raw) (sym none) ∙ so_far

-- ---- runs in order

-- each name has a value
abbrev pub HaveValues : List Run → Type 0
HaveValues [] = Unit {0}
HaveValues (run ∷ runs) = (0 < length run.1) × HaveValues runs

above
    : (name : List ℕ) (runs : List Run) → IsBefore name runs → AreInOrder runs
    → AllByRecursion (λ k. slice_cmp nat_cmp name k ≡ Less) (keys_of runs)
above name [] before order = tt
above name (run ∷ runs) before order = (before, later runs (above run.0 runs order.0 order.1))
  where
    later
        : (rest : List Run) → AllByRecursion (λ k. slice_cmp nat_cmp run.0 k ≡ Less) (keys_of rest)
        → AllByRecursion (λ k. slice_cmp nat_cmp name k ≡ Less) (keys_of rest)
    later [] all = tt
    later (next ∷ rest) all = (
      nat_list_cmp_total.trans name run.0 next.0 before all.0,
      later rest all.1,
    )

sorted_runs : (runs : List Run) → AreInOrder runs → IsStrictlySortedBy (slice_cmp nat_cmp) (keys_of runs)
unfolding IsStrictlySortedBy
sorted_runs [] order = tt
sorted_runs (run ∷ runs) order = (above run.0 runs order.0 order.1, sorted_runs runs order.1)

values_before
    : (name : List ℕ) (run : Run) (runs : List Run)
    → values_of name (pairs_of_runs (run ∷ runs))
    ≡ cond (bytes_eq name run.0) run.1 [] ++ values_of name (pairs_of_runs runs)
values_before name run runs =
    ap (map (λ pair. pair.1)) (filter-append (is_named name) (run_pairs run) (pairs_of_runs runs))
    ∙ map-append (λ pair. pair.1) (filter (is_named name) (run_pairs run)) (filter (is_named name) (pairs_of_runs runs))
    ∙ ap (λ vs. vs ++ values_of name (pairs_of_runs runs)) (values_under name run.0 run.1)

-- a name that is before all others has no values there
none_above
    : (name : List ℕ) (runs : List Run) → AllByRecursion (λ k. slice_cmp nat_cmp name k ≡ Less) (keys_of runs)
    → values_of name (pairs_of_runs runs) ≡ []
none_above name [] all = refl
none_above name (run ∷ runs) all =
    let apart : bytes_eq name run.0 ≡ false =
    sym (is_eq-slice_cmp name run.0) ∙ ap is_eq all.0 in
    values_before name run runs ∙ rw apart (none_above name runs all.1)

-- what is found under a name are its values
found_values
    : (runs : List Run) → AreInOrder runs → (name : List ℕ)
    → unwrap_or (found (λ key. key) values_tree name runs) [] ≡ values_of name (pairs_of_runs runs)
found_values [] order name = refl
found_values (run ∷ runs) order name =
    by (bytes_eq name run.0) refl (found_values runs order.1 name) ∙ sym (values_before name run runs)
  where
    by
        : (b : Bool) → bytes_eq name run.0 ≡ b
        → unwrap_or (found (λ key. key) values_tree name runs) [] ≡ values_of name (pairs_of_runs runs)
        → unwrap_or (found (λ key. key) values_tree name (run ∷ runs)) []
        ≡ cond (bytes_eq name run.0) run.1 [] ++ values_of name (pairs_of_runs runs)
    by true e later =
        let same : name ≡ run.0 = (bytes_eq-Decides name run.0).0 e in
        let none : values_of name (pairs_of_runs runs) ≡ [] =
        ap (λ n. values_of n (pairs_of_runs runs)) same ∙ none_above run.0 runs (above run.0 runs order.0 order.1) in
        rw (is_eq-slice_cmp name run.0, e, none) (sym (append-nil run.1))
    by false e later = rw (is_eq-slice_cmp name run.0, e) later

-- a name is found where a pair has it
found_among
    : (runs : List Run) → AreInOrder runs → HaveValues runs → (name : List ℕ)
    → is_some (found (λ key. key) values_tree name runs) ≡ list_any (is_named name) (pairs_of_runs runs)
found_among [] order have name = refl
found_among (run ∷ runs) order have name =
    by (bytes_eq name run.0) refl (found_among runs order.1 have.1 name)
    ∙ sym (any_before run.1 have.0)
  where
    any_before
        : (values : List (List ℕ)) → 0 < length values
        → list_any (is_named name) (pairs_under run.0 values ++ pairs_of_runs runs)
        ≡ (bytes_eq name run.0 || list_any (is_named name) (pairs_of_runs runs))
    any_before [] none = absurd (omega (arith, none))
    any_before (value ∷ values) some =
        list_any-append (is_named name) (pairs_under run.0 (value ∷ values)) (pairs_of_runs runs)
        ∙ ap (λ b. b || list_any (is_named name) (pairs_of_runs runs)) (any_under name run.0 value values)

    by
        : (b : Bool) → bytes_eq name run.0 ≡ b
        → is_some (found (λ key. key) values_tree name runs) ≡ list_any (is_named name) (pairs_of_runs runs)
        → is_some (found (λ key. key) values_tree name (run ∷ runs))
        ≡ (bytes_eq name run.0 || list_any (is_named name) (pairs_of_runs runs))
    by true e later = rw (is_eq-slice_cmp name run.0, e) refl
    by false e later = rw (is_eq-slice_cmp name run.0, e) later

-- runs in order are what the definition groups
pub grouped_in_order
    : (runs : List Run) → AreInOrder runs → HaveValues runs
    → members_of (map (entry_tree (λ key. key) values_tree) runs)
    ≡ members_under values_tree (names_in (pairs_of_runs runs)) (pairs_of_runs runs)
grouped_in_order runs order have =
    grouped_entries (λ key. key) values_tree (pairs_of_runs runs) runs (sorted_runs runs order) (found_values runs order)
    (found_among runs order have)
