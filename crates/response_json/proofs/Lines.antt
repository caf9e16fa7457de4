-- Header lines read one member after the other.
use Rattle.std.proofs.Common.{◌≡◌, ℕ, List, [], ◌∷◌, ◌++◌, append_assoc, refl, sym, ap, ◌∙◌, Bool, true, false, Option}
use Rattle.std.proofs.Common.{Some, None, IsSome, IfSome, ◌↔◌, true≢false, arith, if◌then◌else◌}
use Rattle.std.proofs.lemmas.List.Sums.{AllPass-from_list_all, list_all-from_AllPass}
use Rattle.http_header.specs.Token.{IsToken, is_token_byte}
use Rattle.json_reading.specs.declared.reading.Reading.{Reading}
use Rattle.json_reading.specs.declared.reading.Reading.TheVariants.{Read, Wrong}
use Rattle.json_reading.proofs.Lists.{first_assoc}
use Rattle.response_json.specs.Reading.{Line, joined, is_name, name_of}

pub joined_assoc : (a b c : Reading (List Line)) → joined (joined a b) c ≡ joined a (joined b c)
joined_assoc (Read xs) (Read ys) (Read zs) = ap Read (append_assoc xs ys zs)
joined_assoc (Read xs) (Read ys) (Wrong k) = refl
joined_assoc (Read xs) (Wrong j) (Read zs) = refl
joined_assoc (Read xs) (Wrong j) (Wrong k) = refl
joined_assoc (Wrong i) (Read ys) (Read zs) = refl
joined_assoc (Wrong i) (Read ys) (Wrong k) = refl
joined_assoc (Wrong i) (Wrong j) (Read zs) = refl
joined_assoc (Wrong i) (Wrong j) (Wrong k) = ap Wrong (first_assoc i j k)

append_none : (xs : List Line) → xs ++ [] ≡ xs
append_none [] = refl
append_none (x ∷ xs) = ap (λ ys. x ∷ ys) (append_none xs)

pub joined_none : (a : Reading (List Line)) → joined a (Read []) ≡ a
joined_none (Read xs) = ap Read (append_none xs)
joined_none (Wrong k) = refl

pub none_joined : (a : Reading (List Line)) → joined (Read []) a ≡ a
none_joined (Read xs) = refl
none_joined (Wrong k) = refl

-- ---- names

token_from_test : (name : List ℕ) → is_name name ≡ true → IsToken name
token_from_test [] e = absurd (true≢false (sym e))
token_from_test (b ∷ bs) e = (omega arith, AllPass-from_list_all is_token_byte (b ∷ bs) e)

test_from_token : (name : List ℕ) → IsToken name → is_name name ≡ true
test_from_token [] t = absurd (omega (arith, t.0))
test_from_token (b ∷ bs) t = list_all-from_AllPass is_token_byte (b ∷ bs) t.1

named : (r : Option (List ℕ)) (name : List ℕ) (b : Bool) → is_name name ≡ b → (IsSome r ↔ IsToken name)
    → IfSome r (λ found. found ≡ name) → r ≡ (if b then Some name else None)
named None name true e some value = absurd (true≢false (sym (some.1 (token_from_test name e))))
named None name false e some value = refl
named (Some found) name true e some value = ap Some value
named (Some found) name false e some value =
    absurd (true≢false (sym (test_from_token name (some.0 refl)) ∙ e))

pub named_is : (r : Option (List ℕ)) (name : List ℕ) → (IsSome r ↔ IsToken name)
    → IfSome r (λ found. found ≡ name) → r ≡ name_of name
named_is r name some value = named r name (is_name name) refl some value
