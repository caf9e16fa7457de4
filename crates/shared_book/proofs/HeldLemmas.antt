-- Lines of receipts: what stays where they let go of events, and what is there once a seat took over another.
use Rattle.std.proofs.Common.{◌≡◌, ℕ, ◌+◌, ◌<◌, ◌≤◌, Bool, true, false, cond, List, [], ◌∷◌, ◌++◌, All, map, length, refl}
use Rattle.std.proofs.Common.{sym, ap, ◌∙◌, subst, append_assoc, append-nil, length-append, arith}
use Rattle.std.proofs.lemmas.List.{map-append}
use Rattle.std.proofs.lemmas.List.Concat.{flat_map-append}
use Rattle.std.proofs.lemmas.List.Elements.{All-append, All-head, All-nil, All-tail, All-weaker, filter-append}
use Rattle.std.specs.List.{AllZip, concat}
use Rattle.shared_book.specs.Held.{Held, LetsGo, all_numbers, all_parts, filled, is_filled, receipts_of}
use Rattle.shared_book.specs.Inner.Keeps.{Keeps}
use Rattle.shared_book.specs.Inner.Seat.{free_line, lines_in, lines_of}
use Rattle.shared_book.specs.Receipts.{Line, numbers, numbers_of}
use Rattle.shared_book.specs.declared.receipt.Receipt.{Receipt}
use Rattle.shared_book.specs.declared.pile.Pile.{Pile}

-- ---- one line

pub numbers-append : (xs ys : List Receipt) → numbers (xs ++ ys) ≡ numbers xs ++ numbers ys
numbers-append xs ys = map-append (λ (r : Receipt). r.number) xs ys

pub lets_go_numbers : (P : ℕ → Type 0) (x y : Line) → LetsGo P x y → numbers_of y ≡ numbers_of x
lets_go_numbers P x y go =
    ap (λ (l : List ℕ). l ++ numbers y.held) go.kept
    ∙ append_assoc x.let_go (numbers go.gone) (numbers y.held)
    ∙ ap (λ (l : List ℕ). x.let_go ++ l) (sym (numbers-append go.gone y.held))
    ∙ ap (λ (l : List Receipt). x.let_go ++ numbers l) (sym go.held)

pub lets_go_none : (P : ℕ → Type 0) (x : Line) → LetsGo P x x
lets_go_none P x = record {
  gone = [];
  held = refl;
  kept = sym (append-nil x.let_go);
  allowed = All-nil (λ (r : Receipt). P r.number);
}

pub lets_go_twice : (P : ℕ → Type 0) (x y z : Line) → LetsGo P x y → LetsGo P y z → LetsGo P x z
lets_go_twice P x y z one two = record {
  gone = one.gone ++ two.gone;
  held = one.held ∙ ap (λ (l : List Receipt). one.gone ++ l) two.held
      ∙ sym (append_assoc one.gone two.gone z.held);
  kept = two.kept ∙ ap (λ (l : List ℕ). l ++ numbers two.gone) one.kept
      ∙ append_assoc x.let_go (numbers one.gone) (numbers two.gone)
      ∙ ap (λ (l : List ℕ). x.let_go ++ l) (sym (numbers-append one.gone two.gone));
  allowed = All-append (λ (r : Receipt). P r.number) one.gone two.gone one.allowed two.allowed;
}

pub lets_go_weaker : (P Q : ℕ → Type 0) → ((n : ℕ) → P n → Q n) → (x y : Line) → LetsGo P x y → LetsGo Q x y
lets_go_weaker P Q f x y go = record {
  gone = go.gone;
  held = go.held;
  kept = go.kept;
  allowed = All-weaker (λ (r : Receipt). P r.number) (λ (r : Receipt). Q r.number) (λ r p. f r.number p)
      go.gone go.allowed;
}

-- ---- several lines

module _ (P : ℕ → Type 0) where
  pub all_go_none : (xs : List Line) → AllZip (LetsGo P) xs xs
  all_go_none [] = tt
  all_go_none (x ∷ xs) = (lets_go_none P x, all_go_none xs)

  pub all_go_twice : (xs ys zs : List Line) → AllZip (LetsGo P) xs ys → AllZip (LetsGo P) ys zs
      → AllZip (LetsGo P) xs zs
  all_go_twice [] [] [] one two = tt
  all_go_twice [] [] (z ∷ zs) one two = absurd two
  all_go_twice [] (y ∷ ys) zs one two = absurd one
  all_go_twice (x ∷ xs) [] zs one two = absurd one
  all_go_twice (x ∷ xs) (y ∷ ys) [] one two = absurd two
  all_go_twice (x ∷ xs) (y ∷ ys) (z ∷ zs) one two =
      (lets_go_twice P x y z one.0 two.0, all_go_twice xs ys zs one.1 two.1)

  pub all_go_append : (xs ys us vs : List Line) → AllZip (LetsGo P) xs ys → AllZip (LetsGo P) us vs
      → AllZip (LetsGo P) (xs ++ us) (ys ++ vs)
  all_go_append [] [] us vs one two = two
  all_go_append [] (y ∷ ys) us vs one two = absurd one
  all_go_append (x ∷ xs) [] us vs one two = absurd one
  all_go_append (x ∷ xs) (y ∷ ys) us vs one two = (one.0, all_go_append xs ys us vs one.1 two)

  go_if : (b : Bool) (x y : Line) (xs ys : List Line) → LetsGo P x y → AllZip (LetsGo P) xs ys
      → AllZip (LetsGo P) (cond b (x ∷ xs) xs) (cond b (y ∷ ys) ys)
  go_if true x y xs ys one all = (one, all)
  go_if false x y xs ys one all = all

  pub all_go_filled : (xs ys : List Line) → AllZip (LetsGo P) xs ys → AllZip (LetsGo P) (filled xs) (filled ys)
  all_go_filled [] [] go = tt
  all_go_filled [] (y ∷ ys) go = absurd go
  all_go_filled (x ∷ xs) [] go = absurd go
  all_go_filled (x ∷ xs) (y ∷ ys) go =
      subst (λ (ns : List ℕ). AllZip (LetsGo P) (cond (is_filled (numbers_of x)) (x ∷ filled xs) (filled xs))
      (cond (is_filled ns) (y ∷ filled ys) (filled ys))) (sym (lets_go_numbers P x y go.0))
      (go_if (is_filled (numbers_of x)) x y (filled xs) (filled ys) go.0 (all_go_filled xs ys go.1))

  pub all_go_numbers : (xs ys : List Line) → AllZip (LetsGo P) xs ys → all_numbers ys ≡ all_numbers xs
  all_go_numbers [] [] go = refl
  all_go_numbers [] (y ∷ ys) go = absurd go
  all_go_numbers (x ∷ xs) [] go = absurd go
  all_go_numbers (x ∷ xs) (y ∷ ys) go =
      ap (λ (l : List ℕ). l ++ all_numbers ys) (lets_go_numbers P x y go.0)
      ∙ ap (λ (l : List ℕ). numbers_of x ++ l) (all_go_numbers xs ys go.1)

pub all_go_weaker : (P Q : ℕ → Type 0) → ((n : ℕ) → P n → Q n) → (xs ys : List Line) → AllZip (LetsGo P) xs ys
    → AllZip (LetsGo Q) xs ys
all_go_weaker P Q f [] [] go = tt
all_go_weaker P Q f [] (y ∷ ys) go = absurd go
all_go_weaker P Q f (x ∷ xs) [] go = absurd go
all_go_weaker P Q f (x ∷ xs) (y ∷ ys) go = (lets_go_weaker P Q f x y go.0, all_go_weaker P Q f xs ys go.1)

-- ---- piles of lines

pub lines_in-append : (ps qs : List Pile) → lines_in (ps ++ qs) ≡ lines_in ps ++ lines_in qs
lines_in-append ps qs = flat_map-append lines_of ps qs

-- one more pile
pub lines_more : (ps : List Pile) (p : Pile) → lines_in (ps ++ p ∷ []) ≡ lines_in ps ++ lines_of p
lines_more ps p = lines_in-append ps (p ∷ []) ∙ ap (λ (l : List Line). lines_in ps ++ l) (append-nil (lines_of p))

-- ---- lines whose events are all free

filled_one : (ns : List ℕ) (xs : List Line) → 0 < length ns
    → cond (is_filled (ns ++ [])) (free_line ns ∷ xs) xs ≡ free_line ns ∷ xs
filled_one [] xs some = absurd (omega (arith, some))
filled_one (n ∷ ns) xs some = refl

pub filled_free : (lists : List (List ℕ)) → All (λ list. 0 < length list) lists
    → filled (map free_line lists) ≡ map free_line lists
filled_free [] all = refl
filled_free (ns ∷ lists) all =
    filled_one ns (filled (map free_line lists)) (All-head (λ list. 0 < length list) ns lists all)
    ∙ ap (λ (l : List Line). free_line ns ∷ l) (filled_free lists (All-tail (λ list. 0 < length list) ns lists all))

pub numbers_free : (lists : List (List ℕ)) → all_numbers (map free_line lists) ≡ concat lists
numbers_free [] = refl
numbers_free (ns ∷ lists) =
    ap (λ (l : List ℕ). l ++ all_numbers (map free_line lists)) (append-nil ns)
    ∙ ap (λ (l : List ℕ). ns ++ l) (numbers_free lists)

pub receipts_free : (lists : List (List ℕ)) → receipts_of (map free_line lists) ≡ []
receipts_free [] = refl
receipts_free (ns ∷ lists) = receipts_free lists

-- ---- lines that have a receipt

pub filled-append : (xs ys : List Line) → filled (xs ++ ys) ≡ filled xs ++ filled ys
filled-append xs ys = filter-append (λ (l : Line). is_filled (numbers_of l)) xs ys

numbers_if : (ns : List ℕ) (x : Line) (xs : List Line) → numbers_of x ≡ ns
    → all_numbers (cond (is_filled ns) (x ∷ xs) xs) ≡ ns ++ all_numbers xs
numbers_if [] x xs e = refl
numbers_if (n ∷ ns) x xs e = ap (λ (l : List ℕ). l ++ all_numbers xs) e

pub all_numbers-filled : (xs : List Line) → all_numbers (filled xs) ≡ all_numbers xs
all_numbers-filled [] = refl
all_numbers-filled (x ∷ xs) =
    numbers_if (numbers_of x) x (filled xs) refl
    ∙ ap (λ (l : List ℕ). numbers_of x ++ l) (all_numbers-filled xs)

-- what more lines add
pub filled_more : (before lines more : List Line) (own : Line)
    → (before ++ filled (own ∷ lines)) ++ filled more ≡ before ++ filled (own ∷ (lines ++ more))
filled_more before lines more own =
    append_assoc before (filled (own ∷ lines)) (filled more)
    ∙ ap (λ (l : List Line). before ++ l) (sym (filled-append (own ∷ lines) more))

-- ---- how many receipts there are

-- once lines were taken over
pub count_joined : (P : ℕ → Type 0) (own now : Line) (lines other new : List Line) → LetsGo P own now
    → AllZip (LetsGo P) (lines ++ filled other) new
    → length (all_numbers (now ∷ new)) ≡ length (all_numbers (own ∷ lines)) + length (all_numbers other)
count_joined P own now lines other new go all =
    ap length (all_go_numbers P (own ∷ (lines ++ filled other)) (now ∷ new) (go, all))
    ∙ ap length (flat_map-append numbers_of (own ∷ lines) (filled other))
    ∙ length-append (all_numbers (own ∷ lines)) (all_numbers (filled other))
    ∙ ap (λ (l : List ℕ). length (all_numbers (own ∷ lines)) + length l) (all_numbers-filled other)

length-numbers-more : (xs : List Receipt) (r : Receipt) → length (numbers (xs ++ r ∷ [])) ≡ length (numbers xs) + 1
length-numbers-more xs r =
    ap length (numbers-append xs (r ∷ [])) ∙ length-append (numbers xs) (r.number ∷ [])

-- once a receipt was kept
pub count_kept : (last : ℕ) (own now : Line) (receipt : Receipt) (lines new : List Line)
    → Keeps last own now receipt → AllZip (LetsGo (λ n. n ≤ last)) lines new
    → length (all_numbers (now ∷ new)) ≡ length (all_numbers (own ∷ lines)) + 1
count_kept last own now receipt lines new keeps all =
    let old : List ℕ = numbers_of own in
    let rest : List ℕ = all_numbers new in
    let same : numbers_of keeps.before ≡ old = lets_go_numbers (λ n. n ≤ last) own keeps.before keeps.let_go in
    let others : all_numbers new ≡ all_numbers lines = all_go_numbers (λ n. n ≤ last) lines new all in
    let added : length (numbers_of now) ≡ length (numbers_of keeps.before) + 1 =
    ap (λ (l : Line). length (numbers_of l)) keeps.added
    ∙ length-append keeps.before.let_go (numbers (keeps.before.held ++ receipt ∷ []))
    ∙ ap (λ (n : ℕ). length keeps.before.let_go + n) (length-numbers-more keeps.before.held receipt)
    ∙ more (length keeps.before.let_go) (length (numbers keeps.before.held))
    ∙ ap (λ (n : ℕ). n + 1) (sym (length-append keeps.before.let_go (numbers keeps.before.held))) in
    length-append (numbers_of now) (all_numbers new)
    ∙ sums (length (numbers_of now)) (length (numbers_of keeps.before)) (length (all_numbers new)) added
    ∙ ap (λ (n : ℕ). n + 1) (ap (λ (l : List ℕ). length l + length (all_numbers new)) same
    ∙ ap (λ (l : List ℕ). length old + length l) others
    ∙ sym (length-append old (all_numbers lines)))
  where
    more : (a b : ℕ) → a + (b + 1) ≡ a + b + 1
    more a b = omega arith

    sums : (a b c : ℕ) → a ≡ b + 1 → a + c ≡ b + c + 1
    sums a b c e = omega (arith, e)

-- seats that have a part together are one at least
pub parts_some : (seats : List Held) → 0 < all_parts seats → 1 ≤ length seats
parts_some [] some = absurd (omega (arith, some))
parts_some (s ∷ seats) some = omega arith
