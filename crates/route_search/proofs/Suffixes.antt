-- What a parameter takes of a path, where it is the last of its segment in each row.
use Rattle.std.proofs.Common.{◌≡◌, ◌⊎◌, inl, inr, ℕ, zero, suc, ◌<◌, ◌+◌, ◌-◌, List, [], ◌∷◌, ◌++◌, length}
use Rattle.std.proofs.Common.{drop, Bool, true, false, cond, ◌==◌, ltb, ◌&&◌, refl, sym, ap, ◌∙◌, arith, nat_eq, subst}
use Rattle.std.proofs.Common.{length-append, append-nil}
use Rattle.std.proofs.lemmas.Bool.Decides.{nat_tests}
use Rattle.std.specs.List.{ends_with}
use Rattle.matchit.specs.Rows.{RowsOf}
use Rattle.matchit.specs.Seek.{segment, has_slash, cuts, longest_from, longest_suffix, with_suffix, param_step, same_text}
use Rattle.matchit.proofs.ParamLemmas.{same_text-self}
use Rattle.route_search.specs.Segment.{slash}
use Rattle.route_search.proofs.Fits.{EndsSegment, Has}
use Rattle.route_search.proofs.Segments.{IsCut, cut_at, uncut, first_cut}

abbrev pub end : List ℕ
end = slash ∷ []

-- ---- whether a segment ends with a slash and has more

drop_front : (front back : List ℕ) → drop (length front) (front ++ back) ≡ back
drop_front [] back = refl
drop_front (b ∷ front) back = drop_front front back

pub slash_cuts : (value : List ℕ) → 0 < length value → cuts (value ++ end) end ≡ true
slash_cuts value some =
    let long : length (value ++ end) ≡ length value + 1 = length-append value end in
    let at : length (value ++ end) - 1 ≡ length value = omega arith in
    let more : ltb 1 (length (value ++ end)) ≡ true = grind (arith, nat_tests) in
    rw (more, at, drop_front value end) refl

no_slash_later : (n : ℕ) (text : List ℕ) → has_slash text ≡ false → has_slash (drop n text) ≡ false
no_slash_later zero text e = e
no_slash_later (suc n) [] e = refl
no_slash_later (suc n) (b ∷ bs) e = no_slash_later n bs (by (b == slash) e)
  where
    by : (v : Bool) → cond v true (has_slash bs) ≡ false → has_slash bs ≡ false
    by true e = cc
    by false e = e

not_end : (text : List ℕ) → has_slash text ≡ false → same_text end text ≡ false
not_end [] e = refl
not_end (b ∷ bs) e = by (b == slash) refl e
  where
    by : (v : Bool) → (b == slash) ≡ v → cond v true (has_slash bs) ≡ false → same_text end (b ∷ bs) ≡ false
    by true q e = cc
    by false q e =
        let other : nat_eq slash b ≡ false = grind (arith, nat_tests) in
        rw other refl

pub no_slash_cuts : (text : List ℕ) → has_slash text ≡ false → cuts text end ≡ false
no_slash_cuts text e =
    let q = not_end (drop (length text - 1) text) (no_slash_later (length text - 1) text e) in
    by (ltb 1 (length text)) (ends_with nat_eq text end) q
  where
    by : (v w : Bool) → w ≡ false → (v && w) ≡ false
    by true w q = q
    by false w q = refl

-- ---- the longest suffix

module _ {K : Type 0} where
  -- after the parameter each of these rows is at the end of the segment
  abbrev pub AllEnd : RowsOf K → Type 0
  AllEnd [] = Unit {0}
  AllEnd ((pattern, key) ∷ rows) = EndsSegment pattern × AllEnd rows

  pub uncut_suffix
      : (seg : List ℕ) (rows : RowsOf K) → AllEnd rows → cuts seg end ≡ false → longest_suffix seg rows ≡ []
  uncut_suffix seg [] all e = refl
  uncut_suffix seg (([], key) ∷ rows) all e = uncut_suffix seg rows all.1 e
  uncut_suffix seg ((token ∷ pattern, key) ∷ rows) all e =
      let s : segment (token ∷ pattern) ≡ end = rw all.0 refl in
      rw (s, e) (uncut_suffix seg rows all.1 e)

  end_stays : (seg : List ℕ) (rows : RowsOf K) → AllEnd rows → longest_from seg end rows ≡ end
  end_stays seg [] all = refl
  end_stays seg (([], key) ∷ rows) all = end_stays seg rows all.1
  end_stays seg ((token ∷ pattern, key) ∷ rows) all =
      let s : segment (token ∷ pattern) ≡ end = rw all.0 refl in
      rw s (end_stays seg rows all.1)

  pub cut_suffix
      : (seg : List ℕ) (rows : RowsOf K) → AllEnd rows → cuts seg end ≡ true
      → (longest_suffix seg rows ≡ []) ⊎ (longest_suffix seg rows ≡ end)
  cut_suffix seg [] all e = inl refl
  cut_suffix seg (([], key) ∷ rows) all e = cut_suffix seg rows all.1 e
  cut_suffix seg ((token ∷ pattern, key) ∷ rows) all e =
      let s : segment (token ∷ pattern) ≡ end = rw all.0 refl in
      inr (rw (s, e) (end_stays seg rows all.1))

  pub has_suffix
      : (seg pattern : List ℕ) (key : K) (rows : RowsOf K) → AllEnd rows → cuts seg end ≡ true
      → Has (slash ∷ pattern) key rows → longest_suffix seg rows ≡ end
  has_suffix seg pattern key [] all e has = absurd has
  has_suffix seg pattern key (([], k) ∷ rows) all e (inl same) = absurd (cc same.0)
  has_suffix seg pattern key (([], k) ∷ rows) all e (inr later) = has_suffix seg pattern key rows all.1 e later
  has_suffix seg pattern key ((token ∷ p, k) ∷ rows) all e has =
      let s : segment (token ∷ p) ≡ end = rw all.0 refl in
      rw (s, e) (end_stays seg rows all.1)

  -- ---- the rows with a suffix

  pub suffix_has
      : (suffix pattern : List ℕ) (key : K) (rows : RowsOf K) → Has pattern key (with_suffix suffix rows)
      → Has pattern key rows
  suffix_has suffix pattern key [] has = has
  suffix_has suffix pattern key ((p, k) ∷ rows) has =
      by (same_text (segment p) suffix) (suffix_has suffix pattern key rows) has
    where
      by : (v : Bool) → (Has pattern key (with_suffix suffix rows) → Has pattern key rows)
          → Has pattern key (cond v ((p, k) ∷ with_suffix suffix rows) (with_suffix suffix rows))
          → Has pattern key ((p, k) ∷ rows)
      by true among (inl same) = inl same
      by true among (inr later) = inr (among later)
      by false among later = inr (among later)

  pub has_with_suffix
      : (pattern : List ℕ) (key : K) (rows : RowsOf K) → Has pattern key rows
      → Has pattern key (with_suffix (segment pattern) rows)
  has_with_suffix pattern key [] has = has
  has_with_suffix pattern key ((p, k) ∷ rows) (inl same) =
      let e : same_text (segment p) (segment pattern) ≡ true = rw same.0 (same_text-self (segment pattern)) in
      rw e (inl same)
  has_with_suffix pattern key ((p, k) ∷ rows) (inr later) =
      by (same_text (segment p) (segment pattern)) (has_with_suffix pattern key rows later)
    where
      by : (v : Bool) → Has pattern key (with_suffix (segment pattern) rows)
          → Has pattern key
          (cond v ((p, k) ∷ with_suffix (segment pattern) rows) (with_suffix (segment pattern) rows))
      by true has = inr has
      by false has = has

  -- ---- the step of a parameter

  -- what a parameter takes of the path, where it goes on
  pub record IsTaken (rows : RowsOf K) (path value rest : List ℕ) (step : ℕ × RowsOf K) : Type 0 where
    pub whole : path ≡ value ++ rest
    pub some : 0 < length value
    pub no_slash : has_slash value ≡ false
    pub taken : step.0 ≡ length value
    pub among : (pattern : List ℕ) (key : K) → Has pattern key step.1 → Has pattern key rows

  -- the step where no suffix is found, and where a slash is
  step_without
      : (rows : RowsOf K) (path : List ℕ) → longest_suffix (segment path) rows ≡ []
      → param_step rows path ≡ cond (has_slash path) (0, []) (length path, rows)
  unfolding param_step
  step_without rows path e = rw e refl

  step_with
      : (rows : RowsOf K) (path : List ℕ) → longest_suffix (segment path) rows ≡ end
      → param_step rows path ≡ (length (segment path) - 1, with_suffix end rows)
  unfolding param_step
  step_with rows path e = rw e refl

  abbrev pub Takes : RowsOf K → List ℕ → ℕ × RowsOf K → Type 0
  Takes rows path step = (value : List ℕ) × (rest : List ℕ) × IsTaken rows path value rest step

  takes_whole
      : (rows : RowsOf K) (path : List ℕ) → AllEnd rows → 0 < length path → has_slash path ≡ false
      → Takes rows path (param_step rows path)
  takes_whole rows path all some none =
      let seg = uncut path none in
      let uncuts : cuts (segment path) end ≡ false = rw seg (no_slash_cuts path none) in
      let e = step_without rows path (uncut_suffix (segment path) rows all uncuts) in
      let step : param_step rows path ≡ (length path, rows) = rw none at e in (
        path,
        [],
        record {
          whole = sym (append-nil path);
          some = some;
          no_slash = none;
          taken = ap (λ s. s.0) step;
          among = λ pattern key has. subst (λ s. Has pattern key s.1) step has;
        },
      )

  takes_cut
      : (rows : RowsOf K) (path value rest : List ℕ) → IsCut path value rest → 0 < length value
      → longest_suffix (segment path) rows ≡ end
      → IsTaken rows path value (slash ∷ rest) (param_step rows path)
  takes_cut rows path value rest cut some suffix =
      let step = step_with rows path suffix in
      let long : length (value ++ end) ≡ length value + 1 = length-append value end in
      let seg : length (segment path) ≡ length value + 1 = ap length cut.first ∙ long in
      let less : length (segment path) - 1 ≡ length value = omega arith in record {
        whole = cut.whole;
        some = some;
        no_slash = cut.no_slash;
        taken = ap (λ s. s.0) step ∙ less;
        among = λ pattern key has.
            suffix_has end pattern key rows (subst (λ s. Has pattern key s.1) step has);
      }

  takes_none
      : (rows : RowsOf K) (path value rest : List ℕ) → IsCut path value rest
      → longest_suffix (segment path) rows ≡ [] → (param_step rows path).1 ≡ []
  takes_none rows path value rest cut suffix =
      let step : param_step rows path ≡ (0, []) = rw cut.slashed at (step_without rows path suffix) in
      ap (λ s. s.1) step

  at_cut
      : (rows : RowsOf K) (path value rest : List ℕ) → AllEnd rows → IsCut path value rest
      → ((param_step rows path).1 ≡ []) ⊎ Takes rows path (param_step rows path)
  at_cut rows path [] rest all cut =
      let uncuts : cuts (segment path) end ≡ false = rw cut.first refl in
      inl (takes_none rows path [] rest cut (uncut_suffix (segment path) rows all uncuts))
  at_cut rows path (b ∷ bs) rest all cut = by (cut_suffix (segment path) rows all cuts_it)
    where
      cuts_it : cuts (segment path) end ≡ true
      cuts_it = rw cut.first (slash_cuts (b ∷ bs) (omega arith))

      by : (longest_suffix (segment path) rows ≡ []) ⊎ (longest_suffix (segment path) rows ≡ end)
          → ((param_step rows path).1 ≡ []) ⊎ Takes rows path (param_step rows path)
      by (inl none) = inl (takes_none rows path (b ∷ bs) rest cut none)
      by (inr suffix) = inr (b ∷ bs, slash ∷ rest, takes_cut rows path (b ∷ bs) rest cut (omega arith) suffix)

  -- the step goes on with no row, or takes a segment of the path
  pub param_takes
      : (rows : RowsOf K) (path : List ℕ) → AllEnd rows → 0 < length path
      → ((param_step rows path).1 ≡ []) ⊎ Takes rows path (param_step rows path)
  param_takes rows path all some = by (first_cut path)
    where
      by : (has_slash path ≡ false) ⊎ ((value : List ℕ) × (rest : List ℕ) × IsCut path value rest)
          → ((param_step rows path).1 ≡ []) ⊎ Takes rows path (param_step rows path)
      by (inl none) = inr (takes_whole rows path all some none)
      by (inr (value, rest, cut)) = at_cut rows path value rest all cut

  -- the step of a row that goes on at the end of the segment
  pub record IsStep (pattern : List ℕ) (key : K) (value : List ℕ) (step : ℕ × RowsOf K) : Type 0 where
    pub taken : step.0 ≡ length value
    pub has : Has pattern key step.1

  pub step_at_end
      : (rows : RowsOf K) (value : List ℕ) (key : K) → AllEnd rows → 0 < length value
      → has_slash value ≡ false → Has [] key rows → IsStep [] key value (param_step rows value)
  step_at_end rows value key all some none has =
      let seg = uncut value none in
      let uncuts : cuts (segment value) end ≡ false = rw seg (no_slash_cuts value none) in
      let e = step_without rows value (uncut_suffix (segment value) rows all uncuts) in
      let step : param_step rows value ≡ (length value, rows) = rw none at e in
      record { taken = ap (λ s. s.0) step; has = subst (λ s. Has [] key s.1) (sym step) has }

  pub step_at_slash
      : (rows : RowsOf K) (value rest pattern : List ℕ) (key : K) → AllEnd rows → 0 < length value
      → has_slash value ≡ false → Has (slash ∷ pattern) key rows
      → IsStep (slash ∷ pattern) key value (param_step rows (value ++ slash ∷ rest))
  step_at_slash rows value rest pattern key all some none has =
      let cut = cut_at value rest none in
      let path : List ℕ = value ++ slash ∷ rest in
      let cuts_it : cuts (segment path) end ≡ true = rw cut.first (slash_cuts value some) in
      let step = step_with rows path (has_suffix (segment path) pattern key rows all cuts_it has) in
      let long : length (value ++ end) ≡ length value + 1 = length-append value end in
      let seg : length (segment path) ≡ length value + 1 = ap length cut.first ∙ long in
      let less : length (segment path) - 1 ≡ length value = omega arith in record {
        taken = ap (λ s. s.0) step ∙ less;
        has = subst (λ s. Has (slash ∷ pattern) key s.1) (sym step)
            (has_with_suffix (slash ∷ pattern) key rows has);
      }
