-- What is before a byte and after it, and a name and what follows it.
use Rattle.std.proofs.Common.{◌≡◌, ℕ, zero, suc, ◌+◌, ◌<◌, ◌==◌, List, [], ◌∷◌, ◌++◌}
use Rattle.std.proofs.Common.{length, take, drop, get_or, Option, Some, None, option_map, Bool, true, false, cond, not}
use Rattle.std.proofs.Common.{refl, sym, ap, subst, ◌∙◌, arith, IsUtf8, IsCharBoundary}
use Rattle.std.proofs.lemmas.Bool.{eqb-true, eq-eqb, and_parts, and_from}
use Rattle.std.proofs.lemmas.Bool.Decides.{nat_tests}
use Rattle.std.proofs.lemmas.Str.{IsCharBoundary-start, IsCharBoundary-after_ascii}
use Rattle.std.specs.List.{list_all}
use Rattle.json_bridge.specs.Inner.NextStep.{after_byte, cut_at, name_at, after_name}
use Rattle.json_bridge.specs.Path.{is_step_byte}

pub not_true : (t : Bool) → not t ≡ true → t ≡ false
not_true true e = sym e
not_true false e = refl

-- none of the bytes is that one
abbrev pub lacks : ℕ → List ℕ → Bool
lacks c = list_all (λ b. not (b == c))

pub cut_at_own : (c : ℕ) (name rest : List ℕ) → lacks c name ≡ true
    → cut_at c (name ++ c ∷ rest) ≡ Some (name, rest)
cut_at_own c [] rest h = rw (eq-eqb c c refl) refl
cut_at_own c (b ∷ name) rest h =
    let p = and_parts (not (b == c)) (lacks c name) h in
    rw (not_true (b == c) p.0) (ap (option_map (λ p. (b ∷ p.0, p.1))) (cut_at_own c name rest p.1))

pub some_same : {A : Type 0} (a b : A) → ◌≡◌ {A = Option A} (Some a) (Some b) → a ≡ b
some_same a b e = cc

some_pair : {A B : Type 0} (a x : A) (b y : B) → ◌≡◌ {A = Option (A × B)} (Some (a, b)) (Some (x, y))
    → (a ≡ x) × (b ≡ y)
some_pair a x b y e = let same = some_same (a, b) (x, y) e in (ap (λ p. p.0) same, ap (λ p. p.1) same)

pub none_some : {A : Type 0} (a : A) → ◌≡◌ {A = Option A} None (Some a) → ⊥
none_some a e = cc

abbrev IsCut : ℕ → List ℕ → List ℕ → List ℕ → Type 0
IsCut c s a rest = (s ≡ a ++ c ∷ rest) × (lacks c a ≡ true)

cut_here : (t : Bool) (b c : ℕ) (bs : List ℕ) (o : Option (List ℕ × List ℕ)) (a rest : List ℕ)
    → (b == c) ≡ t → ((x y : List ℕ) → o ≡ Some (x, y) → IsCut c bs x y)
    → cond {A = Option (List ℕ × List ℕ)} t (Some ([], bs)) (option_map (λ p. (b ∷ p.0, p.1)) o)
    ≡ Some (a, rest) → IsCut c (b ∷ bs) a rest
cut_here true b c bs o a rest is later e =
    let p = some_pair [] a bs rest e in
    (ap (λ x. x ∷ bs) (eqb-true b c is) ∙ (λ i. p.0 i ++ c ∷ p.1 i), ap (lacks c) (sym p.0))
cut_here false b c bs None a rest is later e = absurd (none_some (a, rest) e)
cut_here false b c bs (Some q) a rest is later e =
    let p = some_pair (b ∷ q.0) a q.1 rest e in
    let before = later q.0 q.1 refl in (
      ap (λ x. b ∷ x) before.0 ∙ (λ i. p.0 i ++ c ∷ p.1 i),
      ap (lacks c) (sym p.0) ∙ and_from (not (b == c))
          (lacks c q.0) (ap not is) before.1,
    )

pub cut_at_split : (c : ℕ) (s a rest : List ℕ) → cut_at c s ≡ Some (a, rest) → IsCut c s a rest
cut_at_split c [] a rest e = absurd (none_some (a, rest) e)
cut_at_split c (b ∷ bs) a rest e = cut_here (b == c) b c bs (cut_at c bs) a rest refl (cut_at_split c bs) e

byte_here : (t : Bool) (b c : ℕ) (bs rest : List ℕ) → (b == c) ≡ t → cond t (Some bs) None ≡ Some rest
    → b ∷ bs ≡ c ∷ rest
byte_here true b c bs rest is e = (λ i. eqb-true b c is i ∷ some_same bs rest e i)
byte_here false b c bs rest is e = absurd (none_some rest e)

pub after_byte_split : (c : ℕ) (s rest : List ℕ) → after_byte c s ≡ Some rest → s ≡ c ∷ rest
after_byte_split c [] rest e = absurd (none_some rest e)
after_byte_split c (b ∷ bs) rest e = byte_here (b == c) b c bs rest refl e

-- ---- names

name_first : (t : Bool) (b : ℕ) (bs name past : List ℕ) → bs ≡ name ++ past
    → b ∷ bs ≡ cond t (b ∷ name) [] ++ cond t past (b ∷ bs)
name_first true b bs name past e = ap (λ x. b ∷ x) e
name_first false b bs name past e = refl

pub name_at_split : (s : List ℕ) → s ≡ name_at s ++ after_name s
name_at_split [] = refl
name_at_split (b ∷ bs) = name_first (is_step_byte b) b bs (name_at bs) (after_name bs) (name_at_split bs)

all_first : (t : Bool) (b : ℕ) (name : List ℕ) → is_step_byte b ≡ t → list_all is_step_byte name ≡ true
    → list_all is_step_byte (cond t (b ∷ name) []) ≡ true
all_first true b name is h = and_from (is_step_byte b) (list_all is_step_byte name) is h
all_first false b name is h = refl

pub name_at_all : (s : List ℕ) → list_all is_step_byte (name_at s) ≡ true
name_at_all [] = refl
name_at_all (b ∷ bs) = all_first (is_step_byte b) b (name_at bs) refl (name_at_all bs)

pub name_at-append : (name rest : List ℕ) → list_all is_step_byte name ≡ true → name_at rest ≡ []
    → name_at (name ++ rest) ≡ name
name_at-append [] rest h stop = stop
name_at-append (b ∷ name) rest h stop =
    let p = and_parts (is_step_byte b) (list_all is_step_byte name) h in
    rw p.0 (ap (λ x. b ∷ x) (name_at-append name rest p.1 stop))

stops_here : (t : Bool) (b : ℕ) (bs : List ℕ) → cond t (b ∷ name_at bs) [] ≡ []
    → cond t (after_name bs) (b ∷ bs) ≡ b ∷ bs
stops_here true b bs e = absurd (omega (arith, ap length e))
stops_here false b bs e = refl

past_stop : (rest : List ℕ) → name_at rest ≡ [] → after_name rest ≡ rest
past_stop [] e = refl
past_stop (b ∷ bs) e = stops_here (is_step_byte b) b bs e

pub after_name-append : (name rest : List ℕ) → list_all is_step_byte name ≡ true → name_at rest ≡ []
    → after_name (name ++ rest) ≡ rest
after_name-append [] rest h stop = past_stop rest stop
after_name-append (b ∷ name) rest h stop =
    let p = and_parts (is_step_byte b) (list_all is_step_byte name) h in
    rw p.0 (after_name-append name rest p.1 stop)

pub name_byte_ascii : (b : ℕ) → is_step_byte b ≡ true → b < 128
name_byte_ascii b h = grind (arith, nat_tests)

within_name : (t : Bool) (b : ℕ) (bs : List ℕ) (k : ℕ) → is_step_byte b ≡ t
    → ((i : ℕ) → i < length (name_at bs) → (i < length bs) × (get_or bs i 0 < 128))
    → k < length (cond t (b ∷ name_at bs) []) → (k < length (b ∷ bs)) × (get_or (b ∷ bs) k 0 < 128)
within_name true b bs zero is more h = (omega arith, name_byte_ascii b is)
within_name true b bs (suc k) is more h = let later = more k (omega (arith, h)) in (omega (arith, later.0), later.1)
within_name false b bs k is more h = absurd (omega (arith, h))

name_byte_at : (s : List ℕ) (k : ℕ) → k < length (name_at s) → (k < length s) × (get_or s k 0 < 128)
name_byte_at [] k h = absurd (omega (arith, h))
name_byte_at (b ∷ bs) k h = within_name (is_step_byte b) b bs k refl (name_byte_at bs) h

boundary_at : (s : List ℕ) (n : ℕ) → IsUtf8 s → n ≡ length (name_at s) → IsCharBoundary s n
boundary_at s zero utf8 e = IsCharBoundary-start s utf8
boundary_at s (suc k) utf8 e =
    let at = name_byte_at s k (omega (arith, e)) in
    let cut = IsCharBoundary-after_ascii s k utf8 at.0 at.1 in
    let one : k + 1 ≡ suc k = omega arith in
    subst (IsCharBoundary s) one cut

pub boundary_after_name : (s : List ℕ) → IsUtf8 s → IsCharBoundary s (length (name_at s))
boundary_after_name s utf8 = boundary_at s (length (name_at s)) utf8 refl

take_front : (a b : List ℕ) → take (length a) (a ++ b) ≡ a
take_front [] b = refl
take_front (x ∷ a) b = ap (λ y. x ∷ y) (take_front a b)

drop_front : (a b : List ℕ) → drop (length a) (a ++ b) ≡ b
drop_front [] b = refl
drop_front (x ∷ a) b = drop_front a b

pub take_name : (s : List ℕ) → take (length (name_at s)) s ≡ name_at s
take_name s = ap (take (length (name_at s))) (name_at_split s) ∙ take_front (name_at s) (after_name s)

pub drop_name : (s : List ℕ) → drop (length (name_at s)) s ≡ after_name s
drop_name s = ap (drop (length (name_at s))) (name_at_split s) ∙ drop_front (name_at s) (after_name s)
