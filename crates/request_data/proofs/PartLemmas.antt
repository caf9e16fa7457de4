-- What the part of a request's data that is needed keeps.
use Rattle.std.proofs.Common.{◌≡◌, ℕ, ◌+◌, ◌≤◌, Bool, true, false, cond, List, [], ◌∷◌}
use Rattle.std.proofs.Common.{◌++◌, length, refl, ap, ◌∙◌, sym, Option, arith, length-append, codes}
use Rattle.std.specs.Prelude.{◌||◌}
use Rattle.std.specs.List.{AllByRecursion}
use Rattle.std.specs.List.Sorted.{IsStrictlySortedBy}
use Rattle.std.specs.Str.{bytes_eq}
use Rattle.std.specs.Str.Lossy.{utf8_lossy}
use Rattle.std.specs.declared.cmp.Ordering.TheVariants.{Less}
use Rattle.std.proofs.lemmas.Bool.{cond-false, cond_both, or_left, false≢true, false_from_ne_true}
use Rattle.std.proofs.lemmas.List.Elements.{filter-append}
use Rattle.std.proofs.lemmas.Slice.Eq.{bytes_eq-Decides}
use Rattle.json.specs.Print.{quoted}
use Rattle.data_tree.specs.Tree.{Tree, fields, Members, no_members, member}
use Rattle.data_tree.specs.Json.{json, members_json, comma_if, size}
use Rattle.data_tree.specs.LookUp.{after, under, at}
use Rattle.data_tree.specs.declared.step.Step.TheVariants.{Name}
use Rattle.data_tree.specs.Parts.{names_of}
use Rattle.data_tree.specs.WellFormed.{IsWellFormed, IsAscending, HaveWellFormedValues}
use Rattle.data_tree.proofs.Sizes.{length_fields}
use Rattle.mock_request.specs.Request.{Request}
use Rattle.json_bridge.specs.Part.{is_kept, part}
use Rattle.json_bridge.proofs.KeptSteps.{part_finds, part_no_longer}
use Rattle.needed_data.specs.Needed.{NeededData, AreAlike, is_json_needed, is_needed, json_field_path}
use Rattle.data_tree.specs.RootPaths.{json_path}
use Rattle.data_tree.specs.RootPaths.{field_path}
use Rattle.request_data.specs.Part.{is_some, is_json_part_needed, json_part, kept, request_part, part_tree}
use Rattle.request_data.specs.Inner.Views.{kept_of}
use Rattle.request_data.specs.RequestTree.{json_tree, request_fields, request_tree}
use Rattle.request_data.proofs.GroupLemmas.{byte_order, below_all, ascending}
use Rattle.request_data.proofs.TreeLemmas.{members_from, request_fields_well_formed}
use Rattle.request_data.proofs.TextBounds.{first_member}

-- ---- fields as they are pushed

-- the fields that were pushed are the needed ones of those so far
pub record IsPart (needed : NeededData) (made whole : List (List ℕ × Tree)) : Type 0 where
  pub same : made ≡ kept_of needed whole

-- one more field
pub kept_more
    : {needed : NeededData} (entry : List ℕ × Tree) {old new before : List (List ℕ × Tree)}
    → IsPart needed old before → new ≡ old ++ kept_of needed (entry ∷ [])
    → IsPart needed new (before ++ entry ∷ [])
kept_more {needed} entry {old} {new} {before} so_far pushed = record {
  same =
      pushed
      ∙ ap (λ es. es ++ kept_of needed (entry ∷ [])) so_far.same
      ∙ sym (filter-append (λ entry. is_needed needed entry.0) before (entry ∷ []));
}

members_of_kept
    : (needed : NeededData) (entries : List (List ℕ × Tree))
    → members_from (kept_of needed entries) ≡ kept needed (members_from entries)
unfolding kept
members_of_kept needed [] = refl
members_of_kept needed (entry ∷ entries) = by (is_needed needed entry.0) (members_of_kept needed entries)
  where
    by
        : (b : Bool) → members_from (kept_of needed entries) ≡ kept needed (members_from entries)
        → members_from (cond b (entry ∷ kept_of needed entries) (kept_of needed entries))
        ≡ cond b (member entry.0 entry.1 (kept needed (members_from entries))) (kept needed (members_from entries))
    by true later = ap (member entry.0 entry.1) later
    by false later = later

pub members_of_part
    : {needed : NeededData} {made whole : List (List ℕ × Tree)} → IsPart needed made whole
    → members_from made ≡ kept needed (members_from whole)
members_of_part {needed} {made} {whole} part = ap members_from part.same ∙ members_of_kept needed whole

-- ---- what is needed is the same

under_kept
    : (needed : NeededData) (name : List ℕ) (ms : Members) → is_needed needed name ≡ true
    → under name (kept needed ms) ≡ under name ms
unfolding kept
under_kept needed name no_members asked = refl
under_kept needed name (member k t ms) asked = by (is_needed needed k) refl (under_kept needed name ms asked)
  where
    other : is_needed needed k ≡ false → bytes_eq k name ≡ false
    other none =
        false_from_ne_true _
        (λ e. false≢true (sym none ∙ ap (is_needed needed) ((bytes_eq-Decides k name).0 e) ∙ asked))

    by
        : (b : Bool) → is_needed needed k ≡ b → under name (kept needed ms) ≡ under name ms
        → under name (cond b (member k t (kept needed ms)) (kept needed ms))
        ≡ cond (bytes_eq k name) t (under name ms)
    by true e later = ap (λ u. cond (bytes_eq k name) t u) later
    by false e later = later ∙ sym (cond-false (bytes_eq k name) t (under name ms) (other e))

kept_all : (needed : NeededData) (ms : Members) → needed.everything ≡ true → kept needed ms ≡ ms
unfolding kept
kept_all needed no_members all = refl
kept_all needed (member k t ms) all =
    ap (λ b. cond b (member k t (kept needed ms)) (kept needed ms)) (or_left needed.everything _ all)
    ∙ ap (member k t) (kept_all needed ms all)

-- a root with or without the body's data
abbrev rest_of : Members → Members
rest_of ms = member (codes "request") (fields ms) no_members

abbrev root_with : Bool → Tree → Members → Tree
root_with has_json value ms = fields (cond has_json (member (codes "json") value (rest_of ms)) (rest_of ms))

found_under
    : (has_json : Bool) (value : Tree) (ms : Members) (name : List ℕ)
    → at (field_path name) (root_with has_json value ms) ≡ under name ms
found_under true value ms name = refl
found_under false value ms name = refl

field_under
    : (has_json : Bool) (value : Tree) (ms : Members) (name : List ℕ) → has_json ≡ true
    → at (json_field_path name) (root_with has_json value ms) ≡ after (Name name) value
field_under true value ms name asked = refl
field_under false value ms name asked = absurd (cc asked)

-- a name is among some
some_named : (names : List (List ℕ)) (name : List ℕ) → is_kept names name ≡ true → is_some names ≡ true
some_named [] name asked = absurd (cc asked)
some_named (other ∷ names) name asked = refl

field_part
    : (all : Bool) (names : List (List ℕ)) (name : List ℕ) (value : Tree) → (all || is_kept names name) ≡ true
    → after (Name name) (cond all value (part names value)) ≡ after (Name name) value
field_part true names name value asked = refl
field_part false names name value asked = part_finds names name [] value asked

some_part : (all : Bool) (names : List (List ℕ)) (name : List ℕ) → (all || is_kept names name) ≡ true
    → (all || is_some names) ≡ true
some_part true names name asked = refl
some_part false names name asked = some_named names name asked

pub part_alike
    : (needed : NeededData) (request : Request) (template : Option (List ℕ))
    → AreAlike needed (part_tree needed request template) (request_tree request template)
part_alike needed request template =
    let value = json_tree (utf8_lossy request.body) in
    let of_value = json_part needed (utf8_lossy request.body) in
    let ms = request_fields request template in
    let names = needed.json_names in
    let whole : is_json_needed needed ≡ true → of_value ≡ value =
    λ asked. ap (λ b. cond b value (part names value)) asked in
    let there : is_json_needed needed ≡ true → is_json_part_needed needed ≡ true =
    λ asked. ap (λ b. b || is_some names) asked in
    record {
      everything =
          λ all.
          let asked : is_json_needed needed ≡ true = or_left needed.everything needed.json all in
          ap (λ b. root_with b of_value (kept needed ms)) (there asked)
          ∙ ap (λ v. root_with true v (kept needed ms)) (whole asked)
          ∙ ap (root_with true value) (kept_all needed ms all);
      json =
          λ asked. ap (λ b. at json_path (root_with b of_value (kept needed ms))) (there asked) ∙ whole asked;
      json_fields =
          λ name asked. field_under (is_json_part_needed needed) of_value (kept needed ms) name
          (some_part (is_json_needed needed) names name asked)
          ∙ field_part (is_json_needed needed) names name value asked;
      fields =
          λ name asked. found_under (is_json_part_needed needed) of_value (kept needed ms) name
          ∙ under_kept needed name ms asked;
    }

pub with_json
    : (needed : NeededData) (request : Request) (template : Option (List ℕ)) → is_json_part_needed needed ≡ true
    → fields (member (codes "json") (json_part needed (utf8_lossy request.body)) (request_part needed request template))
    ≡ part_tree needed request template
with_json needed request template asked =
    sym (ap (λ b. root_with b (json_part needed (utf8_lossy request.body))
    (kept needed (request_fields request template))) asked)

pub without_json
    : (needed : NeededData) (request : Request) (template : Option (List ℕ)) → is_json_part_needed needed ≡ false
    → fields (request_part needed request template) ≡ part_tree needed request template
without_json needed request template none =
    sym (ap (λ b. root_with b (json_part needed (utf8_lossy request.body))
    (kept needed (request_fields request template))) none)

-- ---- the part is well formed

sorted_from : (names : List (List ℕ)) → IsAscending names → IsStrictlySortedBy byte_order names
unfolding IsStrictlySortedBy
sorted_from [] up = tt
sorted_from (name ∷ []) up = (tt, tt)
sorted_from (name ∷ next ∷ names) up =
    let later = sorted_from (next ∷ names) up.1 in
    ((up.0, below_all name next names up.0 later.0), later)

all_kept
    : (P : List ℕ → Type 0) (needed : NeededData) (ms : Members) → AllByRecursion P (names_of ms)
    → AllByRecursion P (names_of (kept needed ms))
unfolding kept
all_kept P needed no_members all = tt
all_kept P needed (member k t ms) all =
    let later = all_kept P needed ms all.1 in
    cond_both (is_needed needed k) (member k t (kept needed ms)) (kept needed ms)
    (λ ms. AllByRecursion P (names_of ms))
    (λ _. (all.0, later)) (λ _. later)

sorted_kept
    : (needed : NeededData) (ms : Members) → IsStrictlySortedBy byte_order (names_of ms)
    → IsStrictlySortedBy byte_order (names_of (kept needed ms))
unfolding IsStrictlySortedBy kept
sorted_kept needed no_members sorted = tt
sorted_kept needed (member k t ms) sorted =
    let later = sorted_kept needed ms sorted.1 in
    cond_both (is_needed needed k) (member k t (kept needed ms)) (kept needed ms)
    (λ ms. IsStrictlySortedBy byte_order (names_of ms))
    (λ _. (all_kept (λ n. byte_order k n ≡ Less) needed ms sorted.0, later)) (λ _. later)

values_kept
    : (needed : NeededData) (ms : Members) → HaveWellFormedValues ms → HaveWellFormedValues (kept needed ms)
unfolding kept
values_kept needed no_members formed = tt
values_kept needed (member k t ms) formed =
    let later = values_kept needed ms formed.1 in
    cond_both (is_needed needed k) (member k t (kept needed ms)) (kept needed ms) HaveWellFormedValues
    (λ _. (formed.0, later)) (λ _. later)

pub part_well_formed
    : (needed : NeededData) (request : Request) (template : Option (List ℕ))
    → (is_json_part_needed needed ≡ true → IsWellFormed (json_part needed (utf8_lossy request.body)))
    → IsWellFormed (part_tree needed request template)
part_well_formed needed request template json =
    let ms = request_fields request template in
    let whole = request_fields_well_formed request template in
    let names : IsAscending (names_of (kept needed ms)) =
    ascending (names_of (kept needed ms)) (sorted_kept needed ms (sorted_from (names_of ms) whole.0)) in
    let part : IsWellFormed (fields (kept needed ms)) = (names, values_kept needed ms whole.1) in
    cond_both (is_json_part_needed needed)
    (member (codes "json") (json_part needed (utf8_lossy request.body)) (rest_of (kept needed ms)))
    (rest_of (kept needed ms)) (λ ms. IsWellFormed (fields ms))
    (λ asked. ((refl, tt), (json asked, (part, tt)))) (λ _. (tt, (part, tt)))

-- ---- and no larger

member_length
    : (later : Bool) (k : List ℕ) (t : Tree) (ms : Members)
    → length (members_json later (member k t ms))
    ≡ length (comma_if later) + length (quoted k) + 1 + length (json t) + length (members_json true ms)
member_length later k t ms =
    omega (
      arith,
      length-append (comma_if later) (quoted k ++ (codes ":" ++ (json t ++ members_json true ms))),
      length-append (quoted k) (codes ":" ++ (json t ++ members_json true ms)),
      length-append (json t) (members_json true ms),
    )

kept_later
    : (needed : NeededData) (ms : Members)
    → length (members_json true (kept needed ms)) ≤ length (members_json true ms)
unfolding kept
kept_later needed no_members = omega arith
kept_later needed (member k t ms) =
    cond_both (is_needed needed k) (member k t (kept needed ms)) (kept needed ms)
    (λ part. length (members_json true part) ≤ length (members_json true (member k t ms)))
    (λ _. omega (
      arith,
      member_length true k t (kept needed ms),
      member_length true k t ms,
      kept_later needed ms,
    ))
    (λ _. omega (arith, member_length true k t ms, kept_later needed ms))

kept_first
    : (needed : NeededData) (ms : Members)
    → length (members_json false (kept needed ms)) ≤ length (members_json false ms)
unfolding kept
kept_first needed no_members = omega arith
kept_first needed (member k t ms) =
    cond_both (is_needed needed k) (member k t (kept needed ms)) (kept needed ms)
    (λ part. length (members_json false part) ≤ length (members_json false (member k t ms)))
    (λ _. omega (
      arith,
      member_length false k t (kept needed ms),
      member_length false k t ms,
      kept_later needed ms,
    ))
    (λ _. omega (
      arith,
      member_length false k t ms,
      first_member (kept needed ms),
      kept_later needed ms,
    ))

root_no_larger
    : (has_json : Bool) (less value : Tree) (part ms : Members)
    → length (json less) ≤ length (json value)
    → length (members_json false part) ≤ length (members_json false ms)
    → size (root_with has_json less part) ≤ size (root_with true value ms)
root_no_larger true less value part ms smaller shorter =
    omega (
      arith,
      smaller,
      length_fields (member (codes "json") less (rest_of part)),
      length_fields (member (codes "json") value (rest_of ms)),
      member_length false (codes "json") less (rest_of part),
      member_length false (codes "json") value (rest_of ms),
      member_length true (codes "request") (fields part) no_members,
      member_length true (codes "request") (fields ms) no_members,
      length_fields part,
      length_fields ms,
    )
root_no_larger false less value part ms smaller shorter =
    omega (
      arith,
      length_fields (rest_of part),
      length_fields (member (codes "json") value (rest_of ms)),
      member_length false (codes "request") (fields part) no_members,
      member_length false (codes "json") value (rest_of ms),
      member_length true (codes "request") (fields ms) no_members,
      length_fields part,
      length_fields ms,
    )

json_no_longer : (all : Bool) (names : List (List ℕ)) (value : Tree)
    → length (json (cond all value (part names value))) ≤ length (json value)
json_no_longer true names value = omega arith
json_no_longer false names value = part_no_longer names value

pub part_no_larger
    : (needed : NeededData) (request : Request) (template : Option (List ℕ))
    → size (part_tree needed request template) ≤ size (request_tree request template)
part_no_larger needed request template =
    let ms = request_fields request template in
    let value = json_tree (utf8_lossy request.body) in
    root_no_larger (is_json_part_needed needed) (json_part needed (utf8_lossy request.body)) value (kept needed ms) ms
    (json_no_longer (is_json_needed needed) needed.json_names value) (kept_first needed ms)
