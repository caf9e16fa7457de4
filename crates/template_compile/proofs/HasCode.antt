-- Code that is part of other code: each part of a template's code stands in it at the part's offsets.
use Rattle.std.proofs.Common.{◌≡◌, ℕ, suc, ◌+◌, List, [], ◌∷◌, ◌++◌, length, Some, refl, sym, ap}
use Rattle.std.proofs.Common.{◌∙◌, subst, arith, length-append, append_assoc}
use Rattle.std.specs.Prelude.{slice_get}
use Rattle.data_tree.specs.declared.step.Step.{Step}
use Rattle.template_code.specs.Code.{StackCode}
use Rattle.template_code.specs.declared.instr.Instr.{Instr}
use Rattle.template_compile.specs.Compiled.{Offsets, start_offsets, offsets_after, appended, Gen, ◌▸◌}
use Rattle.template_compile.specs.Inner.Drafts.{extended_by}

-- the list has the elements, in order, from an index on
abbrev pub HasAt : {A : Type 0} → List A → ℕ → List A → Type 0
HasAt xs index [] = Unit {0}
HasAt xs index (y ∷ ys) = (slice_get xs index ≡ Some y) × HasAt xs (suc index) ys

has_front : {A : Type 0} (xs : List A) (index : ℕ) (a b : List A) → HasAt xs index (a ++ b) → HasAt xs index a
has_front xs index [] b h = tt
has_front xs index (y ∷ a) b h = (h.0, has_front xs (suc index) a b h.1)

has_back :
    {A : Type 0} (xs : List A) (index : ℕ) (a b : List A)
    → HasAt xs index (a ++ b) → HasAt xs (index + length a) b
has_back xs index [] b h = let e : index ≡ index + 0 = omega arith in subst (λ n. HasAt xs n b) e h
has_back xs index (y ∷ a) b h =
    let e : suc index + length a ≡ index + length (y ∷ a) = omega arith in
    subst (λ n. HasAt xs n b) e (has_back xs (suc index) a b h.1)

has_after :
    {A : Type 0} (x : A) (xs : List A) (index : ℕ) (ys : List A)
    → HasAt xs index ys → HasAt (x ∷ xs) (suc index) ys
has_after x xs index [] h = tt
has_after x xs index (y ∷ ys) h = (h.0, has_after x xs (suc index) ys h.1)

has_itself : {A : Type 0} (xs : List A) → HasAt xs 0 xs
has_itself [] = tt
has_itself (x ∷ xs) = (refl, has_after x xs 0 xs (has_itself xs))

-- the whole code has the code at the offsets
pub record HasCode (whole : StackCode) (offsets : Offsets) (code : StackCode) : Type 0 where
  pub instrs : HasAt whole.instrs offsets.index code.instrs
  pub texts : HasAt whole.texts offsets.texts code.texts
  pub paths : HasAt whole.paths offsets.paths code.paths

-- the part stands in the whole code at the offsets
abbrev pub HasPart : StackCode → Offsets → Gen → Type 0
HasPart whole offsets f = HasCode whole offsets (f offsets)

-- where a part begins that comes after another
abbrev pub after_part : Offsets → Gen → Offsets
after_part offsets f = offsets_after offsets (f offsets)

pub has_part-front :
    (whole : StackCode) (offsets : Offsets) (f g : Gen) → HasPart whole offsets (f ▸ g) → HasPart whole offsets f
has_part-front whole offsets f g h =
    let a = f offsets in
    let b = g (after_part offsets f) in
    record {
      instrs = has_front whole.instrs offsets.index a.instrs b.instrs h.instrs;
      texts = has_front whole.texts offsets.texts a.texts b.texts h.texts;
      paths = has_front whole.paths offsets.paths a.paths b.paths h.paths;
    }

pub has_part-back :
    (whole : StackCode) (offsets : Offsets) (f g : Gen)
    → HasPart whole offsets (f ▸ g) → HasPart whole (after_part offsets f) g
has_part-back whole offsets f g h =
    let a = f offsets in
    let b = g (after_part offsets f) in
    record {
      instrs = has_back whole.instrs offsets.index a.instrs b.instrs h.instrs;
      texts = has_back whole.texts offsets.texts a.texts b.texts h.texts;
      paths = has_back whole.paths offsets.paths a.paths b.paths h.paths;
    }

same_offsets : (i j t u p q : ℕ) → i ≡ j → t ≡ u → p ≡ q
    → ◌≡◌ {A = Offsets} (record { index = i; texts = t; paths = p })
    (record { index = j; texts = u; paths = q })
same_offsets i j t u p q e f g = rw (e, f, g) refl

same_code : (i j : List Instr) (t u : List (List ℕ)) (p q : List (List Step)) → i ≡ j → t ≡ u → p ≡ q
    → ◌≡◌ {A = StackCode} (record { instrs = i; texts = t; paths = p })
    (record { instrs = j; texts = u; paths = q })
same_code i j t u p q e f g = rw (e, f, g) refl

-- two parts end where the second one does
pub after_part-join :
    (offsets : Offsets) (f g : Gen) → after_part offsets (f ▸ g) ≡ after_part (after_part offsets f) g
after_part-join offsets f g =
    let a = f offsets in
    let b = g (after_part offsets f) in
    same_offsets _ _ _ _ _ _ (omega (arith, length-append a.instrs b.instrs))
    (omega (arith, length-append a.texts b.texts)) (omega (arith, length-append a.paths b.paths))

-- to extend code by two parts is to extend it by the one and then by the other
pub extended_by-join :
    (code : StackCode) (f g : Gen) → extended_by code (f ▸ g) ≡ extended_by (extended_by code f) g
extended_by-join code f g =
    let start = offsets_after start_offsets code in
    let a = f start in
    let next = after_part start f in
    let next' = offsets_after start_offsets (appended code a) in
    let same : next' ≡ next =
    same_offsets _ _ _ _ _ _ (omega (arith, length-append code.instrs a.instrs))
    (omega (arith, length-append code.texts a.texts)) (omega (arith, length-append code.paths a.paths)) in
    let b = g next in
    let joined : extended_by code (f ▸ g) ≡ appended (appended code a) b =
    same_code _ _ _ _ _ _ (sym (append_assoc code.instrs a.instrs b.instrs))
    (sym (append_assoc code.texts a.texts b.texts)) (sym (append_assoc code.paths a.paths b.paths)) in
    joined ∙ ap (λ o. appended (appended code a) (g o)) (sym same)

pub has_code-itself : (code : StackCode) → HasCode code start_offsets code
has_code-itself code =
    record {
      instrs = has_itself code.instrs;
      texts = has_itself code.texts;
      paths = has_itself code.paths;
    }
