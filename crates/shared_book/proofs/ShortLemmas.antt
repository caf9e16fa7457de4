-- Lists that lie one after another in one block.
use Rattle.std.proofs.Common.{◌≡◌, ℕ, suc, ◌+◌, ◌<◌, ◌≤◌, List, [], ◌∷◌, ◌++◌, map, length, take, drop}
use Rattle.std.proofs.Common.{All, refl, sym, ap, ◌∙◌, subst, arith}
use Rattle.std.proofs.lemmas.List.{drop-append-le, length-drop, length-take-le, take-append-drop, take-append-le}
use Rattle.std.proofs.lemmas.List.Elements.{All-cons, All-head, All-nil, All-tail}
use Rattle.std.proofs.lemmas.List.Sums.{sum_by-cons}
use Rattle.std.specs.List.{concat, sum}
use Rattle.std.specs.Prelude.{Any, Contains, IsSomeAnd, Option, Some}
use Rattle.shared_book.proofs.FallLemmas.{IsWalked, walk_more}
use Rattle.shared_book.proofs.NumberLemmas.{all_left, contains_left}
use Rattle.shared_book.specs.Inner.Misplaced.{IsMisplaced, IsWellPlaced}
use Rattle.shared_book.specs.Inner.Seat.{free_line}
use Rattle.shared_book.specs.Inner.ShortLists.{AreSizes, cut}

-- ---- the first list, and what is left

sum-cons : (size : ℕ) (sizes : List ℕ) → sum (size ∷ sizes) ≡ size + sum sizes
sum-cons size sizes = sum_by-cons (λ x. x) size sizes

-- it is no longer than what there is
first_fits : (size : ℕ) (sizes ns : List ℕ) → sum (size ∷ sizes) ≡ length ns → size ≤ length ns
first_fits size sizes ns all = omega (arith, all, sum-cons size sizes)

-- and the others are what is left
rest_all : (size : ℕ) (sizes ns : List ℕ) → sum (size ∷ sizes) ≡ length ns → sum sizes ≡ length (drop size ns)
rest_all size sizes ns all = omega (arith, all, sum-cons size sizes, length-drop size ns)

-- ---- lists that are added

cut_more : (sizes more ns ms : List ℕ) → sum sizes ≡ length ns
    → cut (sizes ++ more) (ns ++ ms) ≡ cut sizes ns ++ cut more ms
cut_more [] more [] ms all = refl
cut_more [] more (n ∷ ns) ms all = absurd (omega (arith, all))
cut_more (size ∷ sizes) more ns ms all =
    let fits = first_fits size sizes ns all in
    ap (λ l. l ∷ cut (sizes ++ more) (drop size (ns ++ ms))) (take-append-le size ns ms fits)
    ∙ ap (λ l. take size ns ∷ cut (sizes ++ more) l) (drop-append-le size ns ms fits)
    ∙ ap (λ ls. take size ns ∷ ls) (cut_more sizes more (drop size ns) ms (rest_all size sizes ns all))

pub cut_added : (sizes more all_sizes ns ms all : List ℕ) (old added : List (List ℕ)) → sum sizes ≡ length ns
    → all_sizes ≡ sizes ++ more → all ≡ ns ++ ms → cut sizes ns ≡ old → cut more ms ≡ added
    → cut all_sizes all ≡ old ++ added
cut_added sizes more all_sizes ns ms all old added fits e f one two =
    ap (λ ss. cut ss all) e ∙ ap (cut (sizes ++ more)) f ∙ cut_more sizes more ns ms fits
    ∙ ap (λ ls. ls ++ cut more ms) one ∙ ap (λ ls. old ++ ls) two

-- ---- all lists

concat_cut : (sizes ns : List ℕ) → sum sizes ≡ length ns → concat (cut sizes ns) ≡ ns
concat_cut [] [] all = refl
concat_cut [] (n ∷ ns) all = absurd (omega (arith, all))
concat_cut (size ∷ sizes) ns all =
    ap (λ l. take size ns ++ l) (concat_cut sizes (drop size ns) (rest_all size sizes ns all))
    ∙ take-append-drop size ns

filled_cut : (sizes ns : List ℕ) → All (λ s. 0 < s) sizes → sum sizes ≡ length ns
    → All (λ list. 0 < length list) (cut sizes ns)
filled_cut [] ns some all = All-nil (λ list. 0 < length list)
filled_cut (size ∷ sizes) ns some all =
    All-cons (λ list. 0 < length list) (take size ns) (cut sizes (drop size ns))
    (omega (
      arith,
      length-take-le size ns (first_fits size sizes ns all),
      All-head (λ s. 0 < s) size sizes some,
    ))
    (filled_cut sizes (drop size ns) (All-tail (λ s. 0 < s) size sizes some) (rest_all size sizes ns all))

pub lists_filled : (sizes ns : List ℕ) → AreSizes sizes ns → All (λ list. 0 < length list) (cut sizes ns)
lists_filled sizes ns are = filled_cut sizes ns are.some are.all

pub concat_view : (sizes ns : List ℕ) (lists : List (List ℕ)) → AreSizes sizes ns → cut sizes ns ≡ lists
    → ns ≡ concat lists
concat_view sizes ns lists are is = sym (concat_cut sizes ns are.all) ∙ ap concat is

-- ---- a walk over one list

-- What it knows that has come to the numbers that are left. The first `count` of these are the list's, and decide with the
-- one before them whether its numbers rise, and are up to the last one; the others are the next lists'.
pub record IsInList (last : ℕ) (list others : List ℕ) (before : Option ℕ) (count : ℕ) (left : List ℕ) : Type 0 where
  pub enough : count ≤ length left
  pub others_left : drop count left ≡ others
  pub walked : IsWalked (free_line list) before (take count left ++ [])
  pub up_to : All (λ n. n ≤ last) (take count left) → All (λ n. n ≤ last) list
  pub found : (n : ℕ) → Contains (take count left) n → Contains list n

module _ (last : ℕ) (list others : List ℕ) (before : Option ℕ) where
  next_taken : (count less n : ℕ) (left after : List ℕ) → count ≡ suc less → left ≡ n ∷ after
      → take count left ≡ n ∷ take less after
  next_taken count less n left after more e = ap (λ c. take c left) more ∙ ap (take (suc less)) e

  next_dropped : (count less n : ℕ) (left after : List ℕ) → count ≡ suc less → left ≡ n ∷ after
      → drop count left ≡ drop less after
  next_dropped count less n left after more e = ap (λ c. drop c left) more ∙ ap (drop (suc less)) e

  -- one number more, which is above the one before it, and not above the last one
  pub list_more : (count less n : ℕ) (left after : List ℕ) → IsInList last list others before count left
      → count ≡ suc less → left ≡ n ∷ after → n ≤ last → (IsSomeAnd before (λ b. n ≤ b) → ⊥)
      → IsInList last list others (Some n) less after
  list_more count less n left after is more e le above =
      let taken = next_taken count less n left after more e in
      record {
        enough = omega (arith, is.enough, more, ap length e);
        others_left = sym (next_dropped count less n left after more e) ∙ is.others_left;
        walked = walk_more (free_line list) before (take count left ++ []) (take less after ++ []) n is.walked
            (ap (λ ns. ns ++ []) taken) above;
        up_to = λ all. is.up_to (all_left (λ m. m ≤ last) (take count left) (take less after) n taken le all);
        found = λ m found. is.found m (contains_left (take count left) (take less after) n m taken found);
      }

-- ---- a walk over all lists

-- What it knows that has come to the numbers that are left: these are those of lists of these sizes, which decide it.
pub record IsAtLists (last : ℕ) (lists : List (List ℕ)) (sizes left : List ℕ) : Type 0 where
  pub all : sum sizes ≡ length left
  pub well : All (IsWellPlaced last) (map free_line (cut sizes left)) → All (IsWellPlaced last) (map free_line lists)
  pub wrong : (n : ℕ) → Any (IsMisplaced last n) (map free_line (cut sizes left))
      → Any (IsMisplaced last n) (map free_line lists)

pub lists_entered : (last : ℕ) (lists : List (List ℕ)) (sizes ns : List ℕ) → AreSizes sizes ns → cut sizes ns ≡ lists
    → IsAtLists last lists sizes ns
lists_entered last lists sizes ns are is = record {
  all = are.all;
  well = λ all. subst (λ ls. All (IsWellPlaced last) (map free_line ls)) is all;
  wrong = λ n any. subst (λ ls. Any (IsMisplaced last n) (map free_line ls)) is any;
}

-- one list more, which is well placed
pub lists_more : (last : ℕ) (lists : List (List ℕ)) (sizes rest left after : List ℕ) (size : ℕ)
    → IsAtLists last lists sizes left → sizes ≡ size ∷ rest → after ≡ drop size left
    → IsWellPlaced last (free_line (take size left)) → IsAtLists last lists rest after
lists_more last lists sizes rest left after size is e gone placed =
    let at : IsAtLists last lists (size ∷ rest) left = subst (λ ss. IsAtLists last lists ss left) e is in
    subst (IsAtLists last lists rest) (sym gone) (record {
      all = rest_all size rest left at.all;
      well = λ all. at.well (All-cons (IsWellPlaced last) (free_line (take size left))
          (map free_line (cut rest (drop size left))) placed all);
      wrong = λ n any. at.wrong n
          (suc any.0, any.1, (let short = any.2 in omega (arith, short)), any.3, any.4);
    })

-- one that isn't
pub lists_wrong : (last n : ℕ) (lists : List (List ℕ)) (sizes rest left : List ℕ) (size : ℕ)
    → IsAtLists last lists sizes left → sizes ≡ size ∷ rest → IsMisplaced last n (free_line (take size left))
    → Any (IsMisplaced last n) (map free_line lists)
lists_wrong last n lists sizes rest left size is e wrong =
    let at : IsAtLists last lists (size ∷ rest) left = subst (λ ss. IsAtLists last lists ss left) e is in
    at.wrong n (0, free_line (take size left), omega arith, refl, wrong)

-- no list is left
pub lists_ended : (last : ℕ) (lists : List (List ℕ)) (sizes left : List ℕ) → IsAtLists last lists sizes left
    → sizes ≡ [] → All (IsWellPlaced last) (map free_line lists)
lists_ended last lists sizes left is none =
    (subst (λ ss. IsAtLists last lists ss left) none is).well (All-nil (IsWellPlaced last))
