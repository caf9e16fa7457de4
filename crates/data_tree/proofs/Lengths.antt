-- Lengths of JSON texts, piece by piece, as counts that stop at the greatest number.
use Rattle.std.proofs.Common.{◌≡◌, ℕ, ◌+◌, List, [], ◌∷◌, ◌++◌, true, false, length, nat_eq}
use Rattle.std.proofs.Common.{if◌then◌else◌, refl, arith, length-append}
use Rattle.json.specs.Print.{quoted}
use Rattle.data_tree.specs.Tree.{list, fields, named, no_members, Items, Members, view, items_view, members_view}
use Rattle.data_tree.specs.Json.{json, items_json, members_json}
use Rattle.data_tree.specs.Capped.{capped}
use Rattle.data_tree.specs.declared.data.Data.{Data}
use Rattle.data_tree.proofs.Views.{Field, suc_is_not_zero}

-- brackets round n parts that each have a comma before them, but for the first
pub list_length : (xs : List Data) (n : ℕ) → n ≡ length xs
    → (if nat_eq n 0 then 2 else capped (capped (length (items_json true (items_view xs))) + 1)) ≡ capped
    (length (json (list (items_view xs))))
list_length [] n e = rw e refl
list_length (x ∷ xs) n e =
    let j = json (view x) in
    let rest = items_json true (items_view xs) in
    let one : capped (capped (length (items_json true (items_view (x ∷ xs)))) + 1) ≡ capped
    (length (json (list (items_view (x ∷ xs))))) =
    omega (arith, length-append j rest, length-append (j ++ rest) (93 ∷ [])) in
    rw e (rw (suc_is_not_zero (length xs)) one)

pub fields_length : (xs : List Field) (n : ℕ) → n ≡ length xs
    → (if nat_eq n 0 then 2 else capped (capped (length (members_json true (members_view xs))) + 1)) ≡ capped
    (length (json (fields (members_view xs))))
fields_length [] n e = rw e refl
fields_length (x ∷ xs) n e =
    let whole = members_json false (members_view (x ∷ xs)) in
    let one : capped (capped (length (members_json true (members_view (x ∷ xs)))) + 1) ≡ capped
    (length (json (fields (members_view (x ∷ xs))))) =
    omega (arith, length-append whole (125 ∷ [])) in
    rw e (rw (suc_is_not_zero (length xs)) one)

pub named_length : (s : List ℕ) (ts : Items) (ms : Members)
    → capped (capped
    (capped (capped (length (json (fields ms))) + capped (length (json (list ts)))) + capped
    (length (quoted s))) + 28) ≡ capped (length (json (named s ts ms)))
named_length s ts ms =
    let m = members_json false ms in
    let i = items_json false ts in
    let q = quoted s in
    omega (
      arith,
      length-append m (125 ∷ []),
      length-append i (93 ∷ []),
      length-append q (125 ∷ []),
      length-append i (93 ∷ 44 ∷ 34 ∷ 116 ∷ 101 ∷ 120 ∷ 116 ∷ 34 ∷ 58 ∷ (q ++ 125 ∷ [])),
      length-append m
          (125 ∷ 44 ∷ 34 ∷ 105 ∷ 116 ∷ 101 ∷ 109 ∷ 115 ∷ 34 ∷ 58 ∷ 91 ∷
          (i ++ (93 ∷ 44 ∷ 34 ∷ 116 ∷ 101 ∷ 120 ∷ 116 ∷ 34 ∷ 58 ∷ (q ++ 125 ∷ [])))),
    )

pub values_length : (s : List ℕ) (ts : Items)
    → capped (capped (capped (length (json (list ts))) + capped (length (quoted s))) + 30)
    ≡ capped (length (json (named s ts no_members)))
values_length s ts =
    let i = items_json false ts in
    let q = quoted s in
    omega (
      arith,
      length-append i (93 ∷ []),
      length-append q (125 ∷ []),
      length-append i (93 ∷ 44 ∷ 34 ∷ 116 ∷ 101 ∷ 120 ∷ 116 ∷ 34 ∷ 58 ∷ (q ++ 125 ∷ [])),
    )
