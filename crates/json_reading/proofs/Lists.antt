-- Lists of parts: a loop that pushes them one by one reads what the definitions say.
use Rattle.std.proofs.Common.{◌≡◌, List, [], ◌∷◌, ◌++◌, append_assoc, refl, sym, ap}
use Rattle.json_reading.specs.Reading.{first, both, read_map, pushed}
use Rattle.json_reading.specs.declared.kind.Kind.{Kind}
use Rattle.json_reading.specs.declared.kind.Kind.TheVariants.{NotJson, NumberNotWhole, Unsupported, Misshapen, TwoUrls}
use Rattle.json_reading.specs.declared.reading.Reading.{Reading}
use Rattle.json_reading.specs.declared.reading.Reading.TheVariants.{Read, Wrong}

pub first_assoc : (a b c : Kind) → first (first a b) c ≡ first a (first b c)
first_assoc NotJson b c = refl
first_assoc NumberNotWhole NotJson c = refl
first_assoc NumberNotWhole NumberNotWhole NotJson = refl
first_assoc NumberNotWhole NumberNotWhole NumberNotWhole = refl
first_assoc NumberNotWhole NumberNotWhole Unsupported = refl
first_assoc NumberNotWhole NumberNotWhole Misshapen = refl
first_assoc NumberNotWhole NumberNotWhole TwoUrls = refl
first_assoc NumberNotWhole Unsupported NotJson = refl
first_assoc NumberNotWhole Unsupported NumberNotWhole = refl
first_assoc NumberNotWhole Unsupported Unsupported = refl
first_assoc NumberNotWhole Unsupported Misshapen = refl
first_assoc NumberNotWhole Unsupported TwoUrls = refl
first_assoc NumberNotWhole Misshapen NotJson = refl
first_assoc NumberNotWhole Misshapen NumberNotWhole = refl
first_assoc NumberNotWhole Misshapen Unsupported = refl
first_assoc NumberNotWhole Misshapen Misshapen = refl
first_assoc NumberNotWhole Misshapen TwoUrls = refl
first_assoc NumberNotWhole TwoUrls NotJson = refl
first_assoc NumberNotWhole TwoUrls NumberNotWhole = refl
first_assoc NumberNotWhole TwoUrls Unsupported = refl
first_assoc NumberNotWhole TwoUrls Misshapen = refl
first_assoc NumberNotWhole TwoUrls TwoUrls = refl
first_assoc Unsupported NotJson c = refl
first_assoc Unsupported NumberNotWhole NotJson = refl
first_assoc Unsupported NumberNotWhole NumberNotWhole = refl
first_assoc Unsupported NumberNotWhole Unsupported = refl
first_assoc Unsupported NumberNotWhole Misshapen = refl
first_assoc Unsupported NumberNotWhole TwoUrls = refl
first_assoc Unsupported Unsupported NotJson = refl
first_assoc Unsupported Unsupported NumberNotWhole = refl
first_assoc Unsupported Unsupported Unsupported = refl
first_assoc Unsupported Unsupported Misshapen = refl
first_assoc Unsupported Unsupported TwoUrls = refl
first_assoc Unsupported Misshapen NotJson = refl
first_assoc Unsupported Misshapen NumberNotWhole = refl
first_assoc Unsupported Misshapen Unsupported = refl
first_assoc Unsupported Misshapen Misshapen = refl
first_assoc Unsupported Misshapen TwoUrls = refl
first_assoc Unsupported TwoUrls NotJson = refl
first_assoc Unsupported TwoUrls NumberNotWhole = refl
first_assoc Unsupported TwoUrls Unsupported = refl
first_assoc Unsupported TwoUrls Misshapen = refl
first_assoc Unsupported TwoUrls TwoUrls = refl
first_assoc Misshapen NotJson c = refl
first_assoc Misshapen NumberNotWhole NotJson = refl
first_assoc Misshapen NumberNotWhole NumberNotWhole = refl
first_assoc Misshapen NumberNotWhole Unsupported = refl
first_assoc Misshapen NumberNotWhole Misshapen = refl
first_assoc Misshapen NumberNotWhole TwoUrls = refl
first_assoc Misshapen Unsupported NotJson = refl
first_assoc Misshapen Unsupported NumberNotWhole = refl
first_assoc Misshapen Unsupported Unsupported = refl
first_assoc Misshapen Unsupported Misshapen = refl
first_assoc Misshapen Unsupported TwoUrls = refl
first_assoc Misshapen Misshapen NotJson = refl
first_assoc Misshapen Misshapen NumberNotWhole = refl
first_assoc Misshapen Misshapen Unsupported = refl
first_assoc Misshapen Misshapen Misshapen = refl
first_assoc Misshapen Misshapen TwoUrls = refl
first_assoc Misshapen TwoUrls NotJson = refl
first_assoc Misshapen TwoUrls NumberNotWhole = refl
first_assoc Misshapen TwoUrls Unsupported = refl
first_assoc Misshapen TwoUrls Misshapen = refl
first_assoc Misshapen TwoUrls TwoUrls = refl
first_assoc TwoUrls NotJson c = refl
first_assoc TwoUrls NumberNotWhole NotJson = refl
first_assoc TwoUrls NumberNotWhole NumberNotWhole = refl
first_assoc TwoUrls NumberNotWhole Unsupported = refl
first_assoc TwoUrls NumberNotWhole Misshapen = refl
first_assoc TwoUrls NumberNotWhole TwoUrls = refl
first_assoc TwoUrls Unsupported NotJson = refl
first_assoc TwoUrls Unsupported NumberNotWhole = refl
first_assoc TwoUrls Unsupported Unsupported = refl
first_assoc TwoUrls Unsupported Misshapen = refl
first_assoc TwoUrls Unsupported TwoUrls = refl
first_assoc TwoUrls Misshapen NotJson = refl
first_assoc TwoUrls Misshapen NumberNotWhole = refl
first_assoc TwoUrls Misshapen Unsupported = refl
first_assoc TwoUrls Misshapen Misshapen = refl
first_assoc TwoUrls Misshapen TwoUrls = refl
first_assoc TwoUrls TwoUrls NotJson = refl
first_assoc TwoUrls TwoUrls NumberNotWhole = refl
first_assoc TwoUrls TwoUrls Unsupported = refl
first_assoc TwoUrls TwoUrls Misshapen = refl
first_assoc TwoUrls TwoUrls TwoUrls = refl

-- the parts of one list, then those of the other
abbrev pub joined : {A : Type 0} → Reading (List A) → Reading (List A) → Reading (List A)
joined list others = read_map (λ p. p.0 ++ p.1) (both list others)

append_none : {A : Type 0} (xs : List A) → xs ++ [] ≡ xs
append_none [] = refl
append_none (x ∷ xs) = ap (λ ys. x ∷ ys) (append_none xs)

pub joined-none : {A : Type 0} (list : Reading (List A)) → joined list (Read []) ≡ list
joined-none (Read xs) = ap Read (append_none xs)
joined-none (Wrong k) = refl

pub none-joined : {A : Type 0} (list : Reading (List A)) → joined (Read []) list ≡ list
none-joined (Read xs) = refl
none-joined (Wrong k) = refl

pub joined-pushed : {A : Type 0} (list : Reading (List A)) (part : Reading A) (others : Reading (List A))
    → joined list (read_map (λ p. p.0 ∷ p.1) (both part others)) ≡ joined (pushed list part) others
joined-pushed (Read xs) (Read x) (Read ys) = ap Read (sym (append_assoc xs (x ∷ []) ys))
joined-pushed (Read xs) (Read x) (Wrong k) = refl
joined-pushed (Read xs) (Wrong j) (Read ys) = refl
joined-pushed (Read xs) (Wrong j) (Wrong k) = refl
joined-pushed (Wrong i) (Read x) (Read ys) = refl
joined-pushed (Wrong i) (Read x) (Wrong k) = refl
joined-pushed (Wrong i) (Wrong j) (Read ys) = refl
joined-pushed (Wrong i) (Wrong j) (Wrong k) = ap Wrong (sym (first_assoc i j k))
