-- Headers of which none is to go, and no value to be trimmed, are those that are sent.
use Rattle.std.proofs.Common.{◌≡◌, ℕ, suc, ◌<◌, ◌≢◌, false, List, [], ◌∷◌, ◌++◌, map, fold}
use Rattle.std.proofs.Common.{length, bytes_eq, All, refl, sym, ap, ◌∙◌, arith, inl, inr}
use Rattle.std.proofs.lemmas.Bool.{cases_Bool}
use Rattle.std.proofs.lemmas.List.{append-nil, append_assoc}
use Rattle.std.proofs.lemmas.List.Elements.{All-append, All-from_get_or, All-head, All-map, All-tail}
use Rattle.std.proofs.lemmas.List.Sums.{fold-append}
use Rattle.std.proofs.lemmas.Slice.Eq.{bytes_eq-Decides}
use Rattle.http_header.specs.FieldValue.{FieldValue}
use Rattle.http_header.specs.HeaderMap.{Entry, Entries, IsHeaderMap, IsUnique, append, entry_at, entry_pairs, pairs}
use Rattle.http_messages.specs.Wire.{sent_headers, with_sent}
use Rattle.http_messages.specs.Inner.AsSent.{IsAsSent}

abbrev Headers : Type 0
Headers = Entries FieldValue

abbrev Field : Type 0
Field = List ℕ × FieldValue

-- one more header
abbrev added : Headers → Field → Headers
added headers field = append headers field.0 field.1

-- ---- a map is what its pairs make

-- the name is another one than that of the header
abbrev IsApart : List ℕ → Field → Type 0
IsApart name field = bytes_eq name field.0 ≡ false

abbrev IsApartFrom : List ℕ → Entry FieldValue → Type 0
IsApartFrom name entry = bytes_eq name entry.0 ≡ false

differ : (a b : List ℕ) → a ≢ b → bytes_eq a b ≡ false
differ a b n = elim (cases_Bool (bytes_eq a b)) [ inl t ↦ absurd (n ((bytes_eq-Decides a b).0 t)) | inr f ↦ f ]

more_values : (name : List ℕ) (values more : List FieldValue)
    → fold added ((name, values) ∷ []) (map (λ value. (name, value)) more) ≡ (name, values ++ more) ∷ []
more_values name values [] = ap (λ vs. (name, vs) ∷ []) (sym (append-nil values))
more_values name values (value ∷ more) =
    rw ((bytes_eq-Decides name name).1 refl, fold)
    (more_values name (values ++ value ∷ []) more
    ∙ ap (λ vs. (name, vs) ∷ []) (append_assoc values (value ∷ []) more))

entry_again : (name : List ℕ) (values : List FieldValue) → 0 < length values
    → fold added [] (map (λ value. (name, value)) values) ≡ (name, values) ∷ []
entry_again name [] some = absurd (omega (arith, some))
entry_again name (value ∷ values) some = more_values name (value ∷ []) values

-- headers of other names leave the first entry as it is
beside : (e : Entry FieldValue) (headers : Headers) (fields : List Field) → All (IsApart e.0) fields
    → fold added (e ∷ headers) fields ≡ e ∷ fold added headers fields
beside e headers [] apart = refl
beside e headers (f ∷ fields) apart =
    rw (All-head (IsApart e.0) f fields apart)
    (beside e (added headers f) fields (All-tail (IsApart e.0) f fields apart))

rest_unique : (e : Entry FieldValue) (m : Headers) → IsUnique (e ∷ m) → IsUnique m
rest_unique e m unique i j a b same =
    omega (arith, unique (suc i) (suc j) (omega (arith, a)) (omega (arith, b)) same)

first_apart : (e : Entry FieldValue) (m : Headers) → IsUnique (e ∷ m) → All (IsApartFrom e.0) m
first_apart e m unique =
    All-from_get_or (IsApartFrom e.0) m ([], []) (λ j within. differ e.0 (entry_at m j).0
    (λ same. absurd (omega (arith, unique 0 (suc j) (omega arith) (omega (arith, within)) same))))

pairs_apart : (name : List ℕ) (m : Headers) → All (IsApartFrom name) m → All (IsApart name) (pairs m)
pairs_apart name [] apart = λ i d within. absurd (omega (arith, within))
pairs_apart name (e ∷ m) apart =
    All-append (IsApart name) (entry_pairs e) (pairs m)
    (All-map (IsApart name) (λ value. (e.0, value)) e.1 (λ i d within. All-head (IsApartFrom name) e m apart))
    (pairs_apart name m (All-tail (IsApartFrom name) e m apart))

abbrev HasValue : Entry FieldValue → Type 0
HasValue e = 0 < length e.1

made_again : (m : Headers) → IsUnique m → All HasValue m → fold added [] (pairs m) ≡ m
made_again [] unique filled = refl
made_again (e ∷ m) unique filled =
    fold-append added [] (entry_pairs e) (pairs m)
    ∙ ap (λ h. fold added h (pairs m)) (entry_again e.0 e.1 (All-head HasValue e m filled))
    ∙ beside e [] (pairs m) (pairs_apart e.0 m (first_apart e m unique))
    ∙ ap (λ h. e ∷ h) (made_again m (rest_unique e m unique) (All-tail HasValue e m filled))

-- ---- what is sent

as_added : (headers : Headers) (f : Field) → IsAsSent f → with_sent headers f ≡ added headers f
as_added headers f is = rw (is.other, is.trimmed) refl

all_added : (headers : Headers) (fields : List Field) → All IsAsSent fields
    → fold with_sent headers fields ≡ fold added headers fields
all_added headers [] all = refl
all_added headers (f ∷ fields) all =
    ap (λ h. fold with_sent h fields) (as_added headers f (All-head IsAsSent f fields all))
    ∙ all_added (added headers f) fields (All-tail IsAsSent f fields all)

pub as_sent : (headers : Headers) → IsHeaderMap headers → All IsAsSent (pairs headers)
    → sent_headers headers ≡ headers
as_sent headers valid all =
    all_added [] (pairs headers) all ∙ made_again headers valid.unique valid.filled
