-- Names in byte order, each once: a name that comes before others isn't one of them.
use Rattle.std.proofs.Common.{◌≡◌, ◌&&◌, false, List, [], ◌∷◌, ℕ, Some, None, if◌then◌else◌}
use Rattle.std.proofs.Common.{is_some, refl, sym, ap, ◌∙◌, nat_cmp, Less}
use Rattle.std.proofs.lemmas.Cmp.{nat_list_cmp_total}
use Rattle.std.proofs.lemmas.Map.Text.{is_eq-slice_cmp}
use Rattle.std.specs.Cmp.Lexicographic.{slice_cmp}
use Rattle.std.specs.Option.{option_map_or}
use Rattle.std.specs.Ordering.{is_eq, ordering_reverse}
use Rattle.std.specs.Str.{bytes_eq}
use Rattle.data_tree.specs.Parts.{names_of}
use Rattle.data_tree.specs.Tree.{Tree, Members, no_members, member}
use Rattle.data_tree.specs.WellFormed.{IsAscending}
use Rattle.json_match.specs.Matching.{value_of, has_names, is_equal, have_equal}
use Rattle.json_match.specs.declared.compare.Flags.{Flags}

pub differs : (k l : List ℕ) → slice_cmp nat_cmp k l ≡ Less → bytes_eq k l ≡ false
differs k l less = sym (is_eq-slice_cmp k l) ∙ ap is_eq less

pub differs_back : (k l : List ℕ) → slice_cmp nat_cmp k l ≡ Less → bytes_eq l k ≡ false
differs_back k l less =
    sym (is_eq-slice_cmp l k) ∙ ap is_eq (nat_list_cmp_total.antisymm l k ∙ ap ordering_reverse less)

pub tail_ascends : (k : List ℕ) (names : List (List ℕ)) → IsAscending (k ∷ names) → IsAscending names
tail_ascends k [] a = tt
tail_ascends k (name ∷ names) a = a.1

-- before a name that comes before the others, all come later
pub comes_before : (k l : List ℕ) (names : List (List ℕ)) → slice_cmp nat_cmp k l ≡ Less
    → IsAscending (l ∷ names) → IsAscending (k ∷ names)
comes_before k l [] less a = tt
comes_before k l (name ∷ names) less a = (nat_list_cmp_total.trans k l name less a.0, a.1)

pub not_there : (k : List ℕ) (ms : Members) → IsAscending (k ∷ names_of ms) → value_of k ms ≡ None
not_there k no_members a = refl
not_there k (member l t ms) a =
    ap (λ b. if b then Some t else value_of k ms) (differs_back k l a.0)
    ∙ not_there k ms (comes_before k l (names_of ms) a.0 a.1)

-- a member before all expected names makes no difference
pub have_equal-past : (f : Flags) (l : List ℕ) (t : Tree) (es ms : Members) → IsAscending (l ∷ names_of es)
    → have_equal f es (member l t ms) ≡ have_equal f es ms
have_equal-past f l t no_members ms a = refl
have_equal-past f l t (member k e es) ms a =
    let other = differs l k a.0 in
    let later = have_equal-past f l t es ms (comes_before l k (names_of es) a.0 a.1) in
    (λ i. option_map_or (is_equal f e) (if other i then Some t else value_of k ms) false && later i)

-- nor does one before all names that are asked for
pub has_names-past : (k : List ℕ) (e : Tree) (es : Members) (names : List (List ℕ)) → IsAscending (k ∷ names)
    → has_names names (member k e es) ≡ has_names names es
has_names-past k e es [] a = refl
has_names-past k e es (name ∷ names) a =
    let other = differs k name a.0 in
    let later = has_names-past k e es names (comes_before k name names a.0 a.1) in
    (λ i. is_some (if other i then Some e else value_of name es) && later i)
