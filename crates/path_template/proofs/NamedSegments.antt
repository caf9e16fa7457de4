-- Which segments have a name.
use Rattle.std.proofs.Common.{◌≡◌, ◌≢◌, ℕ, ◌-◌, Bool, true, false, ◌&&◌, IsTrue, if◌then◌else◌, List, [], ◌∷◌, ◌++◌}
use Rattle.std.proofs.Common.{length, take, Option, None, Some, refl, sym, ap, ◌∙◌, arith, length-append}
use Rattle.std.specs.Str.{bytes_eq}
use Rattle.std.proofs.lemmas.Slice.Eq.{bytes_eq-Decides}
use Rattle.path_template.specs.Template.{opening_brace, closing_brace, braced, inner, is_name, name_in}

take_front : (xs ys : List ℕ) → take (length xs) (xs ++ ys) ≡ xs
take_front [] ys = refl
take_front (x ∷ xs) ys = ap (λ zs. x ∷ zs) (take_front xs ys)

inner_of_braced : (name : List ℕ) → inner (braced name) ≡ name
inner_of_braced name =
    let long : length (braced name) - 2 ≡ length name = simp length-append (omega arith) in
    ap (λ n. take n (name ++ closing_brace ∷ [])) long ∙ take_front name (closing_brace ∷ [])

pub with_name : (segment name : List ℕ) → IsTrue (is_name name) → segment ≡ braced name
    → name_in segment ≡ Some name
with_name segment name named is =
    let within : inner segment ≡ name = ap inner is ∙ inner_of_braced name in
    let same : bytes_eq segment (braced name) ≡ true = (bytes_eq-Decides segment (braced name)).1 is in
    rw (within, named, same) refl

pub has_name
    : (segment name : List ℕ) → name_in segment ≡ Some name → IsTrue (is_name name) × (segment ≡ braced name)
has_name segment name = by (is_name (inner segment)) (bytes_eq segment (braced (inner segment))) refl refl
  where
    by
        : (x y : Bool) → is_name (inner segment) ≡ x → bytes_eq segment (braced (inner segment)) ≡ y
        → (if x && y then Some (inner segment) else None) ≡ Some name
        → IsTrue (is_name name) × (segment ≡ braced name)
    by true true a b e =
        let within : inner segment ≡ name = cc in
        (ap is_name (sym within) ∙ a, (bytes_eq-Decides segment (braced (inner segment))).0 b ∙ ap braced within)
    by true false a b e = absurd (cc)
    by false y a b e = absurd (cc)

-- a segment that is no name in braces
pub without_name
    : (segment : List ℕ) → ((name : List ℕ) → IsTrue (is_name name) → segment ≢ braced name)
    → name_in segment ≡ None
without_name segment other = by (name_in segment) refl
  where
    by : (o : Option (List ℕ)) → name_in segment ≡ o → name_in segment ≡ None
    by None e = e
    by (Some name) e = let has = has_name segment name e in absurd (other name has.0 has.1)

pub not_opened
    : (segment : List ℕ) → ((rest : List ℕ) → segment ≢ opening_brace ∷ rest) → name_in segment ≡ None
not_opened segment none = without_name segment (λ name named is. none (name ++ closing_brace ∷ []) is)

module _ (segment rest : List ℕ) (opened : segment ≡ opening_brace ∷ rest) where
  pub not_closed : ((front : List ℕ) → rest ≢ front ++ closing_brace ∷ []) → name_in segment ≡ None
  not_closed none = without_name segment (λ name named is. none name (cc))

  module _ (text : List ℕ) (closed : rest ≡ text ++ closing_brace ∷ []) where
    between : segment ≡ braced text
    between = cc

    pub no_name : is_name text ≡ false → name_in segment ≡ None
    no_name other =
        without_name segment
        (λ name named is.
        let same : name ≡ text =
        sym (inner_of_braced name) ∙ ap inner (sym is ∙ between) ∙ inner_of_braced text in
        let no : is_name name ≡ false = ap is_name same ∙ other in
        absurd (cc))

    pub its_name : is_name text ≡ true → name_in segment ≡ Some text
    its_name named = with_name segment text named between
