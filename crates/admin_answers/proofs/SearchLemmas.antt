-- What a search finds is what passes the test, and a portion more changes nothing of it.
use Rattle.std.proofs.Common.{◌≡◌, ◌≤◌, ◌-◌, ◌+◌, ℕ, List, [], ◌∷◌, ◌++◌, inl, inr, length, drop, take, refl}
use Rattle.std.proofs.Common.{sym, ap, ◌∙◌, Bool, true, false, cond, Decides, filter, arith, append_assoc}
use Rattle.std.proofs.Common.{drop-drop, take-append-drop, suc-le-suc, zero-le, suc}
use Rattle.std.specs.List.{AllByRecursion}
use Rattle.std.proofs.lemmas.Bool.Decides.{not_from_Decides}
use Rattle.std.proofs.lemmas.List.Elements.{filter-append}
use Rattle.request_journal.specs.Journal.{Picks}

module _ {X : Type 0} (p : X → Bool) (P : X → Type 0) (each : (x : X) → Decides (p x) (P x)) where
  picks_one
      : (x : X) (xs : List X) (b : Bool) → p x ≡ b → Picks P xs (filter p xs)
      → Picks P (x ∷ xs) (cond b (x ∷ filter p xs) (filter p xs))
  picks_one x xs true is rest = inl (filter p xs, refl, (each x).0 is, rest)
  picks_one x xs false is rest = inr (not_from_Decides (p x) (each x) is, rest)

  pub picks_filter : (xs : List X) → Picks P xs (filter p xs)
  picks_filter [] = refl
  picks_filter (x ∷ xs) = picks_one x xs (p x) refl (picks_filter xs)

  found_one
      : (x : X) (xs ys : List X) (b : Bool) → p x ≡ b → ((zs : List X) → Picks P xs zs → zs ≡ filter p xs)
      → Picks P (x ∷ xs) ys → ys ≡ cond b (x ∷ filter p xs) (filter p xs)
  found_one x xs ys true is rest (inl h) = h.1 ∙ ap (λ zs. x ∷ zs) (rest h.0 h.3)
  found_one x xs ys true is rest (inr h) = absurd (h.0 ((each x).0 is))
  found_one x xs ys false is rest (inl h) = absurd (not_from_Decides (p x) (each x) is h.2)
  found_one x xs ys false is rest (inr h) = rest ys h.1

  pub picked_is_filter : (xs ys : List X) → Picks P xs ys → ys ≡ filter p xs
  picked_is_filter [] ys is = is
  picked_is_filter (x ∷ xs) ys is = found_one x xs ys (p x) refl (picked_is_filter xs) is

module _ {X : Type 0} (p : X → Bool) where
  all_one
      : (Q : X → Type 0) (x : X) (ys : List X) (b : Bool) → Q x → AllByRecursion Q ys
      → AllByRecursion Q (cond b (x ∷ ys) ys)
  all_one Q x ys true here rest = (here, rest)
  all_one Q x ys false here rest = rest

  pub all_filter : (Q : X → Type 0) (xs : List X) → AllByRecursion Q xs → AllByRecursion Q (filter p xs)
  all_filter Q [] all = tt
  all_filter Q (x ∷ xs) all = all_one Q x (filter p xs) (p x) all.0 (all_filter Q xs all.1)

  short_one : (x : X) (ys : List X) (n : ℕ) (b : Bool) → length ys ≤ n → length (cond b (x ∷ ys) ys) ≤ suc n
  short_one x ys n true le = suc-le-suc le
  short_one x ys n false le = omega (arith, le)

  pub filter_short : (xs : List X) → length (filter p xs) ≤ length xs
  filter_short [] = zero-le
  filter_short (x ∷ xs) = short_one x (filter p xs) (length xs) (p x) (filter_short xs)

  -- what is found from one place on is what is found up to another one, and from there on
  pub found_later
      : (found : List X) (xs : List X) (next end : ℕ) → next ≤ end
      → (found ++ filter p (take (end - next) (drop next xs))) ++ filter p (drop end xs)
      ≡ found ++ filter p (drop next xs)
  found_later found xs next end le =
      let portion = take (end - next) (drop next xs) in
      let there : next + (end - next) ≡ end = omega (arith, le) in
      let rest : drop (end - next) (drop next xs) ≡ drop end xs =
      drop-drop (end - next) next xs ∙ ap (λ n. drop n xs) there in
      append_assoc found (filter p portion) (filter p (drop end xs))
      ∙ ap (λ ys. found ++ ys)
      (sym (filter-append p portion (drop end xs))
      ∙ ap (λ ys. filter p (portion ++ ys)) (sym rest)
      ∙ ap (filter p) (take-append-drop (end - next) (drop next xs)))
