-- What the search finds: a row that the path fits, and one wherever a row fits.
use Rattle.std.proofs.Common.{◌≡◌, ◌≢◌, ◌⊎◌, inl, inr, ℕ, zero, suc, ◌<◌, ◌-◌, List, [], ◌∷◌, ◌++◌, length}
use Rattle.std.proofs.Common.{drop, Bool, true, false, cond, ◌==◌, Option, Some, None, refl, sym, ap, ◌∙◌, arith, subst, append-nil}
use Rattle.std.proofs.lemmas.Bool.Decides.{nat_tests}
use Rattle.matchit.specs.Level.{IsText}
use Rattle.matchit.specs.Rows.{RowsOf, param_token, catch_all_token}
use Rattle.matchit.specs.Seek.{own, step, or_else, seek, param_step, has_slash}
use Rattle.route_search.specs.Segment.{slash, IsSegment}
use Rattle.route_search.proofs.Fits.{Begins, Fits, EndsSegment, IsWhole, AllWhole, Has}
use Rattle.route_search.proofs.Segments.{is_cons, all_no_slash, has_no_slash}
use Rattle.route_search.proofs.Suffixes.{AllEnd, IsTaken, Takes, param_takes, IsStep, step_at_end, step_at_slash}

drop_front : (front back : List ℕ) → drop (length front) (front ++ back) ≡ back
drop_front [] back = refl
drop_front (b ∷ front) back = drop_front front back

drop_nil : (n : ℕ) → drop {A = ℕ} n [] ≡ []
drop_nil zero = refl
drop_nil (suc n) = refl

some_length : (text : List ℕ) → text ≢ [] → 0 < length text
some_length [] some = absurd (some refl)
some_length (b ∷ bs) some = omega arith

is_some : (text : List ℕ) → 0 < length text → text ≢ []
is_some [] some e = absurd (omega arith)
is_some (b ∷ bs) some e = is_cons b bs e

ends_here : (pattern : List ℕ) → IsWhole (param_token ∷ pattern) → EndsSegment pattern
ends_here pattern (inl less, later) = absurd (omega arith)
ends_here pattern (inr ends, later) = ends.1

no_catch_all : (pattern : List ℕ) → IsWhole (catch_all_token ∷ pattern) → ⊥
no_catch_all pattern (inl less, later) = omega arith
no_catch_all pattern (inr ends, later) = absurd (omega (arith, ends.0))

segment_of : (b : ℕ) (bs : List ℕ) → has_slash (b ∷ bs) ≡ false → IsSegment (b ∷ bs)
segment_of b bs none = record { some = is_cons b bs; no_slash = all_no_slash (b ∷ bs) none }

-- a pattern that goes on doesn't fit the empty path
only_empty : (pattern : List ℕ) → Fits pattern [] → pattern ≡ []
only_empty [] fits = refl
only_empty (token ∷ pattern) (rest, inl (byte, same), fits) = absurd (cc same)
only_empty (token ∷ pattern) (rest, inr (param, ([], segment, same)), fits) = absurd (segment.some refl)
only_empty (token ∷ pattern) (rest, inr (param, (v ∷ vs, segment, same)), fits) = absurd (cc same)

module _ {K : Type 0} where
  -- a row has this key, and fits the path
  abbrev pub Hit : RowsOf K → K → List ℕ → Type 0
  Hit rows key path = (pattern : List ℕ) × Has pattern key rows × Fits pattern path

  -- ---- rows and their steps

  own_has : (rows : RowsOf K) (key : K) → own rows ≡ Some key → Has [] key rows
  own_has [] key e = absurd (cc e)
  own_has (([], k) ∷ rows) key e = inl (refl, cc e)
  own_has ((token ∷ pattern, k) ∷ rows) key e = inr (own_has rows key e)

  step_has
      : (token : ℕ) (pattern : List ℕ) (key : K) (rows : RowsOf K) → Has pattern key (step token rows)
      → Has (token ∷ pattern) key rows
  step_has token pattern key [] has = has
  step_has token pattern key (([], k) ∷ rows) has = inr (step_has token pattern key rows has)
  step_has token pattern key ((t ∷ p, k) ∷ rows) has =
      by (t == token) refl (step_has token pattern key rows) has
    where
      by : (v : Bool) → (t == token) ≡ v
          → (Has pattern key (step token rows) → Has (token ∷ pattern) key rows)
          → Has pattern key (cond v ((p, k) ∷ step token rows) (step token rows))
          → Has (token ∷ pattern) key ((t ∷ p, k) ∷ rows)
      by true q among (inl same) =
          let is : t ≡ token = grind (arith, nat_tests) in
          inl (ap (λ x. x ∷ p) is ∙ ap (λ x. token ∷ x) same.0, same.1)
      by true q among (inr later) = inr (among later)
      by false q among later = inr (among later)

  has_step
      : (token : ℕ) (pattern : List ℕ) (key : K) (rows : RowsOf K) → Has (token ∷ pattern) key rows
      → Has pattern key (step token rows)
  has_step token pattern key [] has = has
  has_step token pattern key (([], k) ∷ rows) (inl same) = absurd (cc same.0)
  has_step token pattern key (([], k) ∷ rows) (inr later) = has_step token pattern key rows later
  has_step token pattern key ((t ∷ p, k) ∷ rows) (inl same) =
      let is : t ≡ token = cc same.0 in
      let rest : p ≡ pattern = cc same.0 in
      let q : (t == token) ≡ true = grind (arith, nat_tests) in
      rw q (inl (rest, same.1))
  has_step token pattern key ((t ∷ p, k) ∷ rows) (inr later) =
      by (t == token) (has_step token pattern key rows later)
    where
      by : (v : Bool) → Has pattern key (step token rows)
          → Has pattern key (cond v ((p, k) ∷ step token rows) (step token rows))
      by true has = inr has
      by false has = has

  whole_at : (pattern : List ℕ) (key : K) (rows : RowsOf K) → AllWhole rows → Has pattern key rows → IsWhole pattern
  whole_at pattern key [] all has = absurd has
  whole_at pattern key ((p, k) ∷ rows) all (inl same) = subst IsWhole same.0 all.0
  whole_at pattern key ((p, k) ∷ rows) all (inr later) = whole_at pattern key rows all.1 later

  all_whole : (rows : RowsOf K) → ((pattern : List ℕ) (key : K) → Has pattern key rows → IsWhole pattern) → AllWhole rows
  all_whole [] each = tt
  all_whole ((p, k) ∷ rows) each =
      (each p k (inl (refl, refl)), all_whole rows (λ pattern key has. each pattern key (inr has)))

  step_whole : (token : ℕ) (rows : RowsOf K) → AllWhole rows → AllWhole (step token rows)
  step_whole token rows all =
      all_whole (step token rows)
      (λ pattern key has. (whole_at (token ∷ pattern) key rows all (step_has token pattern key rows has)).1)

  all_end : (rows : RowsOf K) → ((pattern : List ℕ) (key : K) → Has pattern key rows → EndsSegment pattern) → AllEnd rows
  all_end [] each = tt
  all_end ((p, k) ∷ rows) each =
      (each p k (inl (refl, refl)), all_end rows (λ pattern key has. each pattern key (inr has)))

  param_end : (rows : RowsOf K) → AllWhole rows → AllEnd (step param_token rows)
  param_end rows all =
      all_end (step param_token rows)
      (λ pattern key has.
      ends_here pattern (whole_at (param_token ∷ pattern) key rows all (step_has param_token pattern key rows has)))

  -- ---- what is found fits

  hit_byte
      : (rows : RowsOf K) (key : K) (b : ℕ) (path : List ℕ) → b < param_token → Hit (step b rows) key path
      → Hit rows key (b ∷ path)
  hit_byte rows key b path byte (pattern, has, fits) =
      (b ∷ pattern, step_has b pattern key rows has, (path, inl (byte, refl), fits))

  hit_taken
      : (rows : RowsOf K) (key : K) (b : ℕ) (path value rest : List ℕ) (s : ℕ × RowsOf K)
      → IsTaken (step param_token rows) (b ∷ path) value rest s → Hit s.1 key (drop (s.0 - 1) path)
      → Hit rows key (b ∷ path)
  hit_taken rows key b path [] rest s taken hit = absurd (omega (arith, taken.some))
  hit_taken rows key b path (v ∷ vs) rest s taken (pattern, has, fits) =
      let later : path ≡ vs ++ rest = cc taken.whole in
      let at : s.0 - 1 ≡ length vs = omega (arith, taken.taken) in
      let left : drop (s.0 - 1) path ≡ rest = ap (λ n. drop n path) at ∙ ap (drop (length vs)) later ∙ drop_front vs rest in (
        param_token ∷ pattern,
        step_has param_token pattern key rows (taken.among pattern key has),
        (
          rest,
          inr (refl, (v ∷ vs, segment_of v vs taken.no_slash, taken.whole)),
          subst (Fits pattern) left fits,
        ),
      )

  hit_param
      : (rows : RowsOf K) (key : K) (b : ℕ) (path : List ℕ) (s : ℕ × RowsOf K)
      → (s.1 ≡ []) ⊎ Takes (step param_token rows) (b ∷ path) s → Hit s.1 key (drop (s.0 - 1) path)
      → Hit rows key (b ∷ path)
  hit_param rows key b path s (inl none) (pattern, has, fits) = absurd (subst (Has pattern key) none has)
  hit_param rows key b path s (inr (value, rest, taken)) hit = hit_taken rows key b path value rest s taken hit

  miss_catch_all : {A : Type 0} (rows : RowsOf K) (key : K) → AllWhole rows → own (step catch_all_token rows) ≡ Some key → A
  miss_catch_all rows key all e =
      let has = step_has catch_all_token [] key rows (own_has (step catch_all_token rows) key e) in
      absurd (no_catch_all [] (whole_at (catch_all_token ∷ []) key rows all has))

  takes_whole_rows
      : (rows : RowsOf K) (path : List ℕ) (s : ℕ × RowsOf K) → AllWhole rows → (s.1 ≡ []) ⊎ Takes rows path s
      → AllWhole s.1
  takes_whole_rows rows path s all (inl none) = rw none tt
  takes_whole_rows rows path s all (inr (value, rest, taken)) =
      all_whole s.1 (λ pattern key has. whole_at pattern key rows all (taken.among pattern key has))

  three_cases
      : {R : Type 0} (a b c : Option K) (key : K) → or_else a (or_else b c) ≡ Some key → (a ≡ Some key → R)
      → (b ≡ Some key → R) → (c ≡ Some key → R) → R
  three_cases None None c key e here there last = last e
  three_cases None (Some k) c key e here there last = there e
  three_cases (Some k) b c key e here there last = here e

  pub found_fits
      : (skip : ℕ) (rows : RowsOf K) (path : List ℕ) (key : K) → AllWhole rows → IsText path
      → seek skip rows path ≡ Some key → Hit rows key (drop skip path)
  unfolding seek
  found_fits skip rows [] key all text e = ([], own_has rows key e, drop_nil skip)
  found_fits (suc skip) rows (b ∷ path) key all text e = found_fits skip rows path key all text.1 e
  found_fits zero rows (b ∷ path) key all text e =
      let params = step param_token rows in
      let s = param_step params (b ∷ path) in
      let takes = param_takes params (b ∷ path) (param_end rows all) (omega arith) in
      let left = takes_whole_rows params (b ∷ path) s (step_whole param_token rows all) takes in
      three_cases (seek 0 (step b rows) path) (seek (s.0 - 1) s.1 path) (own (step catch_all_token rows)) key e
      (λ at. hit_byte rows key b path text.0
      (found_fits zero (step b rows) path key (step_whole b rows all) text.1 at))
      (λ at. hit_param rows key b path s takes (found_fits (s.0 - 1) s.1 path key left text.1 at))
      (miss_catch_all rows key all)

  -- ---- a row that fits is found

  or_else_some : (a b : Option K) → a ≢ None → or_else a b ≢ None
  or_else_some None b some = absurd (some refl)
  or_else_some (Some k) b some = some

  or_else_later : (a b : Option K) → b ≢ None → or_else a b ≢ None
  or_else_later None b some = some
  or_else_later (Some k) b some = λ e. cc e

  own_some : (rows : RowsOf K) (key : K) → Has [] key rows → own rows ≢ None
  own_some [] key has = absurd has
  own_some (([], k) ∷ rows) key has = λ e. cc e
  own_some ((token ∷ pattern, k) ∷ rows) key (inl same) = absurd (cc same.0)
  own_some ((token ∷ pattern, k) ∷ rows) key (inr later) = own_some rows key later

  seek_later : (skip : ℕ) (rows : RowsOf K) (path : List ℕ) → seek skip rows path ≡ seek 0 rows (drop skip path)
  unfolding seek
  seek_later zero rows path = refl
  seek_later (suc skip) rows [] = refl
  seek_later (suc skip) rows (b ∷ path) = seek_later skip rows path

  -- the step of a row that goes on after the value
  step_of
      : (rows : RowsOf K) (pattern : List ℕ) (key : K) (value rest : List ℕ) → AllEnd rows → EndsSegment pattern
      → 0 < length value → has_slash value ≡ false → Has pattern key rows → Fits pattern rest
      → IsStep pattern key value (param_step rows (value ++ rest))
  step_of rows [] key value rest all ends some none has fits =
      subst (λ path. IsStep [] key value (param_step rows path)) (sym (ap (λ r. value ++ r) fits ∙ append-nil value))
      (step_at_end rows value key all some none has)
  step_of rows (token ∷ pattern) key value rest all ends some none has fits =
      let begins : rest ≡ slash ∷ fits.0 = at_slash fits.1 in
      subst (λ t. IsStep (t ∷ pattern) key value (param_step rows (value ++ rest))) (sym ends)
      (subst (λ r. IsStep (slash ∷ pattern) key value (param_step rows (value ++ r))) (sym begins)
      (step_at_slash rows value fits.0 pattern key all some none
      (subst (λ t. Has (t ∷ pattern) key rows) ends has)))
    where
      at_slash : Begins token rest fits.0 → rest ≡ slash ∷ fits.0
      at_slash (inl (byte, same)) = same ∙ ap (λ t. t ∷ fits.0) ends
      at_slash (inr (param, other)) = absurd (omega (arith, ends, param))

  byte_found
      : (rows : RowsOf K) (b token : ℕ) (path pattern rest : List ℕ) (key : K) → Has (token ∷ pattern) key rows
      → b ∷ path ≡ token ∷ rest → Fits pattern rest
      → (Has pattern key (step b rows) → Fits pattern path → seek 0 (step b rows) path ≢ None)
      → seek 0 (step b rows) path ≢ None
  byte_found rows b token path pattern rest key has same fits later =
      let at : token ≡ b = cc same in
      let left : rest ≡ path = cc same in
      later (has_step b pattern key rows (subst (λ t. Has (t ∷ pattern) key rows) at has))
      (subst (Fits pattern) left fits)

  param_found
      : (rows : RowsOf K) (b : ℕ) (path pattern value rest : List ℕ) (key : K) → AllWhole rows
      → Has (param_token ∷ pattern) key rows → IsSegment value → b ∷ path ≡ value ++ rest → Fits pattern rest
      → (Has pattern key (param_step (step param_token rows) (b ∷ path)).1
      → Fits pattern (drop ((param_step (step param_token rows) (b ∷ path)).0 - 1) path)
      → seek ((param_step (step param_token rows) (b ∷ path)).0 - 1) (param_step (step param_token rows) (b ∷ path)).1 path ≢ None)
      → seek ((param_step (step param_token rows) (b ∷ path)).0 - 1) (param_step (step param_token rows) (b ∷ path)).1 path ≢ None
  param_found rows b path pattern [] rest key all has segment same fits later = absurd (segment.some refl)
  param_found rows b path pattern (v ∷ vs) rest key all has segment same fits later =
      let params = step param_token rows in
      let ends = ends_here pattern (whole_at (param_token ∷ pattern) key rows all has) in
      let none = has_no_slash (v ∷ vs) segment.no_slash in
      let at = step_of params pattern key (v ∷ vs) rest (param_end rows all) ends (omega arith) none
      (has_step param_token pattern key rows has) fits in
      let is : IsStep pattern key (v ∷ vs) (param_step params (b ∷ path)) =
      subst (λ p. IsStep pattern key (v ∷ vs) (param_step params p)) (sym same) at in
      let skip : (param_step params (b ∷ path)).0 - 1 ≡ length vs = omega (arith, is.taken) in
      let after : path ≡ vs ++ rest = cc same in
      let left : drop ((param_step params (b ∷ path)).0 - 1) path ≡ rest =
      ap (λ n. drop n path) skip ∙ ap (drop (length vs)) after ∙ drop_front vs rest in
      later is.has (subst (Fits pattern) (sym left) fits)

  pub fitting_is_found
      : (skip : ℕ) (rows : RowsOf K) (path pattern : List ℕ) (key : K) → AllWhole rows → Has pattern key rows
      → Fits pattern (drop skip path) → seek skip rows path ≢ None
  unfolding seek
  fitting_is_found skip rows [] pattern key all has fits =
      let empty : pattern ≡ [] = only_empty pattern (subst (Fits pattern) (drop_nil skip) fits) in
      own_some rows key (subst (λ p. Has p key rows) empty has)
  fitting_is_found (suc skip) rows (b ∷ path) pattern key all has fits =
      fitting_is_found skip rows path pattern key all has fits
  fitting_is_found zero rows (b ∷ path) [] key all has fits = absurd (cc fits)
  fitting_is_found zero rows (b ∷ path) (token ∷ pattern) key all has (rest, inl (byte, same), fits) =
      or_else_some (seek 0 (step b rows) path) _
      (byte_found rows b token path pattern rest key has same fits
      (fitting_is_found zero (step b rows) path pattern key (step_whole b rows all)))
  fitting_is_found zero rows (b ∷ path) (token ∷ pattern) key all has (rest, inr (param, (value, segment, same)), fits) =
      let params = step param_token rows in
      let s = param_step params (b ∷ path) in
      let takes = param_takes params (b ∷ path) (param_end rows all) (omega arith) in
      let left = takes_whole_rows params (b ∷ path) s (step_whole param_token rows all) takes in
      or_else_later (seek 0 (step b rows) path) _
      (or_else_some (seek (s.0 - 1) s.1 path) (own (step catch_all_token rows))
      (param_found rows b path pattern value rest key all (subst (λ t. Has (t ∷ pattern) key rows) param has)
      segment same fits (fitting_is_found (s.0 - 1) s.1 path pattern key left)))
