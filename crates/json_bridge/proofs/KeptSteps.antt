-- The members that are kept, as members are put one after the other.
use Rattle.std.proofs.Common.{◌≡◌, ℕ, ◌+◌, ◌≤◌, List, [], ◌∷◌, ◌++◌, length, codes, Bool, true, false, cond}
use Rattle.std.proofs.Common.{Ordering, Less, Equal, Greater, is_eq, nat_cmp, refl, sym, ap, ◌∙◌, arith, length-append}
use Rattle.std.proofs.lemmas.Bool.{cond-false, cond_both, false≢true, false_from_ne_true}
use Rattle.std.proofs.lemmas.Cmp.{nat_list_cmp_total}
use Rattle.std.proofs.lemmas.Map.Text.{is_eq-slice_cmp}
use Rattle.std.proofs.lemmas.Slice.Eq.{bytes_eq-Decides}
use Rattle.std.specs.Cmp.Lexicographic.{slice_cmp}
use Rattle.std.specs.Ordering.{match_ordering, ordering_reverse}
use Rattle.std.specs.Prelude.{⊤}
use Rattle.std.specs.Str.{bytes_eq}
use Rattle.json.specs.Print.{quoted}
use Rattle.data_tree.specs.Json.{json, items_json, members_json, comma_if}
use Rattle.data_tree.specs.LookUp.{after, at, under}
use Rattle.data_tree.specs.Tree.{Tree, nothing, truth, number, text, list, fields, named, Members, no_members, member}
use Rattle.data_tree.specs.declared.step.Step.{Step}
use Rattle.data_tree.specs.declared.step.Step.TheVariants.{Name}
use Rattle.data_tree.specs.Parts.{names_of}
use Rattle.data_tree.specs.WellFormed.{IsAscending, IsWellFormed, HaveWellFormedValues}
use Rattle.json_bridge.specs.Part.{is_kept, kept, part}
use Rattle.json_bridge.specs.Inner.Direct.{put}

same_name : (k l : List ℕ) → slice_cmp nat_cmp k l ≡ Equal → k ≡ l
same_name k l e = (bytes_eq-Decides k l).0 (sym (is_eq-slice_cmp k l) ∙ ap is_eq e)

-- ---- names stay in order

after_put : (o : Ordering) (l k m : List ℕ) (t u : Tree) (ms : Members)
    → slice_cmp nat_cmp l k ≡ Less → slice_cmp nat_cmp l m ≡ Less
    → IsAscending (names_of (match_ordering o (member k t (member m u ms)) (member m t ms) (member m u (put k t ms))))
    → IsAscending (l ∷ names_of (match_ordering o (member k t (member m u ms)) (member m t ms)
    (member m u (put k t ms))))
after_put Less l k m t u ms below next h = (below, h)
after_put Equal l k m t u ms below next h = (next, h)
after_put Greater l k m t u ms below next h = (next, h)

before_put : (l k : List ℕ) (t : Tree) (ms : Members) → slice_cmp nat_cmp l k ≡ Less
    → IsAscending (l ∷ names_of ms) → IsAscending (names_of (put k t ms)) → IsAscending (l ∷ names_of (put k t ms))
before_put l k t no_members below h done = (below, done)
before_put l k t (member m u ms) below h done = after_put (slice_cmp nat_cmp k m) l k m t u ms below h.0 done

tail_ascends : (l : List ℕ) (names : List (List ℕ)) → IsAscending (l ∷ names) → IsAscending names
tail_ascends l [] h = tt
tail_ascends l (name ∷ names) h = h.1

ascends_at : (o : Ordering) (k l : List ℕ) (t u : Tree) (ms : Members) → slice_cmp nat_cmp k l ≡ o
    → IsAscending (l ∷ names_of ms) → IsAscending (names_of (put k t ms))
    → IsAscending (names_of (match_ordering o (member k t (member l u ms)) (member l t ms) (member l u (put k t ms))))
ascends_at Less k l t u ms is h later = (is, h)
ascends_at Equal k l t u ms is h later = h
ascends_at Greater k l t u ms is h later =
    before_put l k t ms (nat_list_cmp_total.antisymm l k ∙ ap ordering_reverse is) h later

pub ascends_put : (k : List ℕ) (t : Tree) (ms : Members) → IsAscending (names_of ms)
    → IsAscending (names_of (put k t ms))
ascends_put k t no_members h = tt
ascends_put k t (member l u ms) h =
    ascends_at (slice_cmp nat_cmp k l) k l t u ms refl h (ascends_put k t ms (tail_ascends l (names_of ms) h))

-- ---- a name that is below all others

abbrev IsBelow : List ℕ → Members → Type 0
IsBelow k no_members = ⊤
IsBelow k (member l u ms) = (slice_cmp nat_cmp k l ≡ Less) × IsBelow k ms

below_all : (k l : List ℕ) (ms : Members) → slice_cmp nat_cmp k l ≡ Less → IsAscending (l ∷ names_of ms) → IsBelow k ms
below_all k l no_members below h = tt
below_all k l (member m u ms) below h =
    let next = nat_list_cmp_total.trans k l m below h.0 in
    (next, below_all k m ms next h.1)

below_kept_by : (b : Bool) (k l : List ℕ) (u : Tree) (ms : Members) → slice_cmp nat_cmp k l ≡ Less → IsBelow k ms
    → IsBelow k (cond b (member l u ms) ms)
below_kept_by true k l u ms is h = (is, h)
below_kept_by false k l u ms is h = h

below_kept : (is_so : List ℕ → Bool) (k : List ℕ) (ms : Members) → IsBelow k ms → IsBelow k (kept is_so ms)
below_kept is_so k no_members h = tt
below_kept is_so k (member l u ms) h =
    below_kept_by (is_so l) k l u (kept is_so ms) h.0 (below_kept is_so k ms h.1)

put_first : (k : List ℕ) (t : Tree) (ms : Members) → IsBelow k ms → put k t ms ≡ member k t ms
put_first k t no_members h = refl
put_first k t (member l u ms) h = rw h.0 refl

-- ---- a member that is kept

kept_at : (o : Ordering) (b : Bool) (is_so : List ℕ → Bool) (k l : List ℕ) (t u : Tree) (ms : Members)
    → slice_cmp nat_cmp k l ≡ o → is_so l ≡ b → is_so k ≡ true → IsAscending (l ∷ names_of ms)
    → put k t (kept is_so ms) ≡ kept is_so (put k t ms)
    → put k t (cond b (member l u (kept is_so ms)) (kept is_so ms))
    ≡ kept is_so (match_ordering o (member k t (member l u ms)) (member l t ms) (member l u (put k t ms)))
kept_at Less true is_so k l t u ms is own asked up later = rw (asked, own, is) refl
kept_at Less false is_so k l t u ms is own asked up later =
    rw (asked, own) (put_first k t (kept is_so ms) (below_kept is_so k ms (below_all k l ms is up)))
kept_at Equal true is_so k l t u ms is own asked up later = rw (own, is) refl
kept_at Equal false is_so k l t u ms is own asked up later =
    absurd (cc (sym asked, ap is_so (same_name k l is), own))
kept_at Greater true is_so k l t u ms is own asked up later = rw (own, is) (ap (member l u) later)
kept_at Greater false is_so k l t u ms is own asked up later = rw own later

pub kept_put : (is_so : List ℕ → Bool) (k : List ℕ) (t : Tree) (ms : Members) → is_so k ≡ true
    → IsAscending (names_of ms) → put k t (kept is_so ms) ≡ kept is_so (put k t ms)
kept_put is_so k t no_members asked up = rw asked refl
kept_put is_so k t (member l u ms) asked up =
    kept_at (slice_cmp nat_cmp k l) (is_so l) is_so k l t u ms refl refl asked up
    (kept_put is_so k t ms asked (tail_ascends l (names_of ms) up))

-- ---- a member that isn't

other_at : (o : Ordering) (is_so : List ℕ → Bool) (k l : List ℕ) (t u : Tree) (ms : Members)
    → slice_cmp nat_cmp k l ≡ o → is_so k ≡ false → kept is_so (put k t ms) ≡ kept is_so ms
    → kept is_so (match_ordering o (member k t (member l u ms)) (member l t ms) (member l u (put k t ms)))
    ≡ cond (is_so l) (member l u (kept is_so ms)) (kept is_so ms)
other_at Less is_so k l t u ms is other later = rw other refl
other_at Equal is_so k l t u ms is other later =
    let own : is_so l ≡ false = ap is_so (sym (same_name k l is)) ∙ other in
    rw own refl
other_at Greater is_so k l t u ms is other later =
    ap (λ rest. cond (is_so l) (member l u rest) rest) later

pub kept_other : (is_so : List ℕ → Bool) (k : List ℕ) (t : Tree) (ms : Members) → is_so k ≡ false
    → kept is_so (put k t ms) ≡ kept is_so ms
kept_other is_so k t no_members other = rw other refl
kept_other is_so k t (member l u ms) other =
    other_at (slice_cmp nat_cmp k l) is_so k l t u ms refl other (kept_other is_so k t ms other)

-- ---- the names that are kept ascend

ascends_from : (k : List ℕ) (ms : Members) → IsBelow k ms → IsAscending (names_of ms) → IsAscending (k ∷ names_of ms)
ascends_from k no_members below h = tt
ascends_from k (member l u ms) below h = (below.0, h)

ascends_by : (b : Bool) (l : List ℕ) (u : Tree) (ms : Members) → IsBelow l ms → IsAscending (names_of ms)
    → IsAscending (names_of (cond b (member l u ms) ms))
ascends_by true l u ms below h = ascends_from l ms below h
ascends_by false l u ms below h = h

all_below : (l : List ℕ) (ms : Members) → IsAscending (l ∷ names_of ms) → IsBelow l ms
all_below l no_members h = tt
all_below l (member m u ms) h = (h.0, below_all l m ms h.0 h.1)

pub ascends_kept : (is_so : List ℕ → Bool) (ms : Members) → IsAscending (names_of ms)
    → IsAscending (names_of (kept is_so ms))
ascends_kept is_so no_members h = tt
ascends_kept is_so (member l u ms) h =
    ascends_by (is_so l) l u (kept is_so ms) (below_kept is_so l ms (all_below l ms h))
    (ascends_kept is_so ms (tail_ascends l (names_of ms) h))

values_by : (b : Bool) (l : List ℕ) (u : Tree) (ms : Members) → IsWellFormed u → HaveWellFormedValues ms
    → HaveWellFormedValues (cond b (member l u ms) ms)
values_by true l u ms p h = (p, h)
values_by false l u ms p h = h

values_kept : (is_so : List ℕ → Bool) (ms : Members) → HaveWellFormedValues ms → HaveWellFormedValues (kept is_so ms)
values_kept is_so no_members h = tt
values_kept is_so (member l u ms) h = values_by (is_so l) l u (kept is_so ms) h.0 (values_kept is_so ms h.1)

pub part_well_formed : (names : List (List ℕ)) (t : Tree) → IsWellFormed t → IsWellFormed (part names t)
part_well_formed names nothing h = h
part_well_formed names (truth b) h = h
part_well_formed names (number n) h = h
part_well_formed names (text s) h = h
part_well_formed names (list ts) h = tt
part_well_formed names (fields ms) h = (ascends_kept (is_kept names) ms h.0, values_kept (is_kept names) ms h.1)
part_well_formed names (named s ts ms) h = h

-- ---- what is kept is found

found_by : (b : Bool) (name k : List ℕ) (t u u' : Tree) → u ≡ u' → (b ≡ false → bytes_eq k name ≡ false)
    → (b ≡ true → cond (bytes_eq k name) t u ≡ cond (bytes_eq k name) t u')
    → cond b (cond (bytes_eq k name) t u) u ≡ cond (bytes_eq k name) t u'
found_by true name k t u u' e other same = same refl
found_by false name k t u u' e other same = e ∙ sym (cond-false (bytes_eq k name) t u' (other refl))

under_by : (b : Bool) (name k : List ℕ) (t : Tree) (ms : Members)
    → under name (cond b (member k t ms) ms) ≡ cond b (cond (bytes_eq k name) t (under name ms)) (under name ms)
under_by true name k t ms = refl
under_by false name k t ms = refl

not_named : (is_so : List ℕ → Bool) (name k : List ℕ) → is_so name ≡ true → is_so k ≡ false → bytes_eq k name ≡ false
not_named is_so name k asked other =
    false_from_ne_true _ (λ e. false≢true (sym other ∙ ap is_so ((bytes_eq-Decides k name).0 e) ∙ asked))

pub under_kept : (is_so : List ℕ → Bool) (name : List ℕ) (ms : Members) → is_so name ≡ true
    → under name (kept is_so ms) ≡ under name ms
under_kept is_so name no_members asked = refl
under_kept is_so name (member k t ms) asked =
    let later = under_kept is_so name ms asked in
    under_by (is_so k) name k t (kept is_so ms)
    ∙ found_by (is_so k) name k t (under name (kept is_so ms)) (under name ms) later
    (λ other. not_named is_so name k asked other) (λ own. ap (λ u. cond (bytes_eq k name) t u) later)

under_part : (names : List (List ℕ)) (name : List ℕ) (t : Tree) → is_kept names name ≡ true
    → after (Name name) (part names t) ≡ after (Name name) t
under_part names name nothing asked = refl
under_part names name (truth b) asked = refl
under_part names name (number n) asked = refl
under_part names name (text s) asked = refl
under_part names name (list ts) asked = refl
under_part names name (fields ms) asked = under_kept (is_kept names) name ms asked
under_part names name (named s ts ms) asked = refl

-- steps that begin with one of the names find the same in the part
pub part_finds : (names : List (List ℕ)) (name : List ℕ) (steps : List Step) (t : Tree) → is_kept names name ≡ true
    → at (Name name ∷ steps) (part names t) ≡ at (Name name ∷ steps) t
part_finds names name steps t asked = ap (at steps) (under_part names name t asked)

-- ---- the part is no larger

member_length : (later : Bool) (k : List ℕ) (t : Tree) (ms : Members)
    → length (members_json later (member k t ms))
    ≡ length (comma_if later) + length (quoted k) + 1 + length (json t) + length (members_json true ms)
member_length later k t ms =
    omega (
      arith,
      length-append (comma_if later) (quoted k ++ (codes ":" ++ (json t ++ members_json true ms))),
      length-append (quoted k) (codes ":" ++ (json t ++ members_json true ms)),
      length-append (json t) (members_json true ms),
    )

-- the first member has no comma before it
first_member : (ms : Members) → length (members_json false ms) ≤ length (members_json true ms)
first_member no_members = omega arith
first_member (member k t ms) = omega arith

kept_later : (is_so : List ℕ → Bool) (ms : Members)
    → length (members_json true (kept is_so ms)) ≤ length (members_json true ms)
kept_later is_so no_members = omega arith
kept_later is_so (member k t ms) =
    cond_both (is_so k) (member k t (kept is_so ms)) (kept is_so ms)
    (λ kept. length (members_json true kept) ≤ length (members_json true (member k t ms)))
    (λ _. omega (arith, member_length true k t (kept is_so ms), member_length true k t ms, kept_later is_so ms))
    (λ _. omega (arith, member_length true k t ms, kept_later is_so ms))

kept_first : (is_so : List ℕ → Bool) (ms : Members)
    → length (members_json false (kept is_so ms)) ≤ length (members_json false ms)
kept_first is_so no_members = omega arith
kept_first is_so (member k t ms) =
    cond_both (is_so k) (member k t (kept is_so ms)) (kept is_so ms)
    (λ kept. length (members_json false kept) ≤ length (members_json false (member k t ms)))
    (λ _. omega (arith, member_length false k t (kept is_so ms), member_length false k t ms, kept_later is_so ms))
    (λ _. omega (arith, member_length false k t ms, first_member (kept is_so ms), kept_later is_so ms))

pub part_no_longer : (names : List (List ℕ)) (t : Tree) → length (json (part names t)) ≤ length (json t)
part_no_longer names nothing = omega arith
part_no_longer names (truth b) = omega arith
part_no_longer names (number n) = omega arith
part_no_longer names (text s) = omega arith
part_no_longer names (list ts) = omega (arith, length-append (items_json false ts) (codes "]"))
part_no_longer names (fields ms) =
    omega (
      arith,
      length-append (members_json false (kept (is_kept names) ms)) (codes "}"),
      length-append (members_json false ms) (codes "}"),
      kept_first (is_kept names) ms,
    )
part_no_longer names (named s ts ms) = omega arith
