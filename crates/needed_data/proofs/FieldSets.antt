-- Which names the fields of a set have.
use Rattle.std.proofs.Common.{◌≡◌, ℕ, ◌==◌, Bool, true, false, cond, List, [], ◌∷◌, map, refl, ap, sym, ◌∙◌}
use Rattle.std.proofs.Common.{Option, Some, find, ◌*◌, ◌%◌, ◌^◌, ◌<◌, arith, bit_and, bit_or, zero, suc}
use Rattle.std.specs.Int.{bit_at}
use Rattle.std.specs.Prelude.{◌||◌, ◌&&◌, filter}
use Rattle.std.specs.List.{list_any}
use Rattle.std.specs.Str.{bytes_eq}
use Rattle.std.proofs.lemmas.Bool.{and_right, or_right, false≢true, eqb-true, eqb-false}
use Rattle.std.proofs.lemmas.Nat.{and_le_r, one_shl}
use Rattle.std.proofs.lemmas.Nat.Bits.{bit_at_and, bit_at_or, bit_at_ones, bit_at-lt, bit_at-zero, bit_at-pow_same}
use Rattle.std.proofs.lemmas.Nat.Bits.{same_from_bits_below}
use Rattle.std.proofs.lemmas.Slice.Eq.{bytes_eq-Decides}
use Rattle.needed_data.specs.Fields.{name_of}
use Rattle.needed_data.specs.Inner.FieldSet.{index_of, all_fields, is_in, names_in, has_name, HasNamesOf}
use Rattle.needed_data.specs.declared.request_field.RequestField.{RequestField}
use Rattle.needed_data.specs.declared.request_field.RequestField.TheVariants.{BaseUrl, Body, Cookies, Headers, Host}
use Rattle.needed_data.specs.declared.request_field.RequestField.TheVariants.{Method, Path, PathSegments, Port}
use Rattle.needed_data.specs.declared.request_field.RequestField.TheVariants.{Query, Scheme, Url}

abbrev field_named : List ℕ → Option RequestField
field_named name = find (λ field. bytes_eq (name_of field) name) all_fields

named_itself : (field : RequestField) → field_named (name_of field) ≡ Some field
named_itself BaseUrl = refl
named_itself Body = refl
named_itself Cookies = refl
named_itself Headers = refl
named_itself Host = refl
named_itself Method = refl
named_itself Path = refl
named_itself PathSegments = refl
named_itself Port = refl
named_itself Query = refl
named_itself Scheme = refl
named_itself Url = refl

one_field : (f g : RequestField) → name_of f ≡ name_of g → f ≡ g
one_field f g same =
    let e : ◌≡◌ {A = Option RequestField} (Some f) (Some g) =
    sym (named_itself f) ∙ ap field_named same ∙ named_itself g in
    cc

abbrev are_named : List RequestField → List ℕ → Bool
are_named fields name = list_any (λ other. bytes_eq other name) (map name_of fields)

kept_first : (b same has kept later : Bool) → (same ≡ true → has ≡ b) → kept ≡ (has && later)
    → cond b (same || kept) kept ≡ (has && (same || later))
kept_first true true has kept later one is = rw (one refl) refl
kept_first true false has kept later one is = is
kept_first false true has kept later one is = rw (one refl) (is ∙ ap (λ b. b && later) (one refl))
kept_first false false has kept later one is = is

named_first : (b : Bool) (f : RequestField) (fields : List RequestField) (name : List ℕ)
    → are_named (cond b (f ∷ fields) fields) name
    ≡ cond b (bytes_eq (name_of f) name || are_named fields name) (are_named fields name)
named_first true f fields name = refl
named_first false f fields name = refl

kept_named : (has : RequestField → Bool) (fields : List RequestField) (field : RequestField)
    → are_named (filter has fields) (name_of field) ≡ (has field && are_named fields (name_of field))
kept_named has [] field = sym (and_right (has field) false refl)
kept_named has (f ∷ fs) field =
    let same = bytes_eq (name_of f) (name_of field) in
    named_first (has f) f (filter has fs) (name_of field)
    ∙ kept_first (has f) same (has field) _ (are_named fs (name_of field))
    (λ e. ap has (sym (one_field f field ((bytes_eq-Decides (name_of f) (name_of field)).0 e))))
    (kept_named has fs field)

all_named : (field : RequestField) → are_named all_fields (name_of field) ≡ true
all_named BaseUrl = refl
all_named Body = refl
all_named Cookies = refl
all_named Headers = refl
all_named Host = refl
all_named Method = refl
all_named Path = refl
all_named PathSegments = refl
all_named Port = refl
all_named Query = refl
all_named Scheme = refl
all_named Url = refl

and_true : (b : Bool) → (b && true) ≡ b
and_true true = refl
and_true false = refl

-- a set has the name of a field that is in it
pub has_name_of : (set : ℕ) (field : RequestField) → has_name set (name_of field) ≡ is_in set field
unfolding names_in
has_name_of set field =
    kept_named (is_in set) all_fields field
    ∙ ap (λ b. is_in set field && b) (all_named field) ∙ and_true (is_in set field)

pub or_more : (same has more : Bool) → (has ≡ true → more ≡ true) → (same || has) ≡ true → (same || more) ≡ true
or_more true has more later is = refl
or_more false has more later is = later is

kept_more : (has more : RequestField → Bool) (fields : List RequestField) (name : List ℕ)
    → ((field : RequestField) → has field ≡ true → more field ≡ true)
    → are_named (filter has fields) name ≡ true → are_named (filter more fields) name ≡ true
kept_more has more [] name all is = is
kept_more has more (f ∷ fs) name all is =
    named_first (more f) f (filter more fs) name
    ∙ by (has f) refl (more f) refl (sym (named_first (has f) f (filter has fs) name) ∙ is)
    (kept_more has more fs name all)
  where
    by : (b : Bool) → has f ≡ b → (m : Bool) → more f ≡ m
        → cond b (bytes_eq (name_of f) name || are_named (filter has fs) name) (are_named (filter has fs) name) ≡ true
        → (are_named (filter has fs) name ≡ true → are_named (filter more fs) name ≡ true)
        → cond m (bytes_eq (name_of f) name || are_named (filter more fs) name) (are_named (filter more fs) name)
        ≡ true
    by true hb true hm is later =
        or_more (bytes_eq (name_of f) name) (are_named (filter has fs) name) (are_named (filter more fs) name) later is
    by false hb true hm is later =
        or_right (bytes_eq (name_of f) name) (are_named (filter more fs) name) (later is)
    by true hb false hm is later = absurd (false≢true (sym hm ∙ all f hb))
    by false hb false hm is later = later is

names_more : (set more : ℕ) → ((field : RequestField) → is_in set field ≡ true → is_in more field ≡ true)
    → (name : List ℕ) → has_name set name ≡ true → has_name more name ≡ true
unfolding names_in
names_more set more all name is = kept_more (is_in set) (is_in more) all_fields name all is

-- the union of two sets has the names of both
pub union_first : (set other : ℕ) → HasNamesOf (bit_or set other) set
union_first set other =
    names_more set (bit_or set other)
    (λ field is.
    let i = index_of field in
    let here : bit_at set i ≡ 1 = eqb-true (bit_at set i) 1 is in
    let there : bit_at (bit_or set other) i ≡ 1 =
    omega (arith, bit_at_or set other i, bit_at-lt other i, here) in
    ap (λ n. n == 1) there)

pub union_second : (set other : ℕ) → HasNamesOf (bit_or set other) other
union_second set other =
    names_more other (bit_or set other)
    (λ field is.
    let i = index_of field in
    let here : bit_at other i ≡ 1 = eqb-true (bit_at other i) 1 is in
    let there : bit_at (bit_or set other) i ≡ 1 =
    omega (arith, bit_at_or set other i, bit_at-lt set i, here) in
    ap (λ n. n == 1) there)

-- the set of one field has its name
pub own_name : (field : RequestField) (i : ℕ) → i ≡ index_of field → i < 12
    → has_name (1 * 2 ^ i % 65536) (name_of field) ≡ true
own_name field i is within =
    let low : i < 16 = omega (arith, within) in
    let bit : bit_at (1 * 2 ^ i % 65536) i ≡ 1 = ap (λ m. bit_at m i) (one_shl i 16 low) ∙ bit_at-pow_same i in
    has_name_of (1 * 2 ^ i % 65536) field
    ∙ ap (λ k. bit_at (1 * 2 ^ i % 65536) k == 1) (sym is) ∙ ap (λ n. n == 1) bit

-- and the empty one has none
pub no_names : names_in 0 ≡ []
unfolding names_in
no_names = refl

none_kept : (has : RequestField → Bool) (fields : List RequestField) → ((field : RequestField) → has field ≡ false)
    → filter has fields ≡ []
none_kept has [] none = refl
none_kept has (f ∷ fs) none =
    ap (λ b. cond b (f ∷ filter has fs) (filter has fs)) (none f) ∙ none_kept has fs none

within_all : (field : RequestField) → index_of field < 12
within_all BaseUrl = omega arith
within_all Body = omega arith
within_all Cookies = omega arith
within_all Headers = omega arith
within_all Host = omega arith
within_all Method = omega arith
within_all Path = omega arith
within_all PathSegments = omega arith
within_all Port = omega arith
within_all Query = omega arith
within_all Scheme = omega arith
within_all Url = omega arith

-- the bits of fields are those of the mask
masked : (set i : ℕ) → i < 12 → bit_at (bit_and set 4095) i ≡ bit_at set i
masked set i within =
    let ones : bit_at 4095 i ≡ 1 = bit_at_ones 12 i within in
    omega (arith, bit_at_and set 4095 i, ones, bit_at-lt set i)

-- a set without a bit of a field has no names
pub none_of_zero : (set : ℕ) → bit_and set 4095 ≡ 0 → names_in set ≡ []
unfolding names_in
none_of_zero set cleared =
    ap (map name_of)
    (none_kept (is_in set) all_fields
    (λ field.
    let i = index_of field in
    let bit : bit_at set i ≡ 0 =
    sym (masked set i (within_all field)) ∙ ap (λ n. bit_at n i) cleared ∙ bit_at-zero i in
    ap (λ n. n == 1) bit))

not_one : (n : ℕ) → n < 2 → (n == 1) ≡ false → n ≡ 0
not_one n low other = omega (arith, low, eqb-false n 1 other)

bit_of_none : (set : ℕ) → names_in set ≡ [] → (field : RequestField) → bit_at set (index_of field) ≡ 0
bit_of_none set none field =
    not_one (bit_at set (index_of field)) (bit_at-lt set (index_of field))
    (sym (has_name_of set field) ∙ ap (list_any (λ other. bytes_eq other (name_of field))) none)

at_fields : (P : ℕ → Type 0) → ((field : RequestField) → P (index_of field)) → (i : ℕ) → i < 12 → P i
at_fields P each zero within = each BaseUrl
at_fields P each (suc zero) within = each Body
at_fields P each (suc (suc zero)) within = each Cookies
at_fields P each (suc (suc (suc zero))) within = each Headers
at_fields P each (suc (suc (suc (suc zero)))) within = each Host
at_fields P each (suc (suc (suc (suc (suc zero))))) within = each Method
at_fields P each (suc (suc (suc (suc (suc (suc zero)))))) within = each Path
at_fields P each (suc (suc (suc (suc (suc (suc (suc zero))))))) within = each PathSegments
at_fields P each (suc (suc (suc (suc (suc (suc (suc (suc zero)))))))) within = each Port
at_fields P each (suc (suc (suc (suc (suc (suc (suc (suc (suc zero))))))))) within = each Query
at_fields P each (suc (suc (suc (suc (suc (suc (suc (suc (suc (suc zero)))))))))) within = each Scheme
at_fields P each (suc (suc (suc (suc (suc (suc (suc (suc (suc (suc (suc zero))))))))))) within = each Url
at_fields P each (suc (suc (suc (suc (suc (suc (suc (suc (suc (suc (suc (suc i)))))))))))) within =
    absurd (omega (arith, within))

-- and one without names has no bit of a field
pub zero_of_none : (set : ℕ) → names_in set ≡ [] → bit_and set 4095 ≡ 0
zero_of_none set none =
    same_from_bits_below 12 (bit_and set 4095) 0 (omega (arith, and_le_r set 4095)) (omega arith)
    (at_fields (λ i. bit_at (bit_and set 4095) i ≡ bit_at 0 i)
    (λ field.
    let i = index_of field in
    masked set i (within_all field) ∙ bit_of_none set none field ∙ sym (bit_at-zero i)))
