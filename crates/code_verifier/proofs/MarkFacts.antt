-- A nest is known by its innermost loop; so a mark says whether all jumps to an instruction come from its nest.
use Rattle.std.proofs.Common.{◌≡◌, ℕ, ◌<◌, Bool, true, false, true≢false, nat_eq, List, [], ◌∷◌}
use Rattle.std.proofs.Common.{length, map, Option, Some, None, refl, sym, ap, ◌∙◌, arith}
use Rattle.std.specs.Prelude.{◌&&◌, not, set, replicate, if◌then◌else◌}
use Rattle.std.specs.List.{list_all}
use Rattle.std.proofs.lemmas.Bool.Decides.{nat_tests}
use Rattle.std.proofs.lemmas.List.{length-set, get_or-set_same, get_or-set_other, get_or-replicate}
use Rattle.std.proofs.lemmas.Option.{unwrap_or-slice_get}
use Rattle.code_rules.proofs.Courses.Nests.{same-refl}
use Rattle.template_code.specs.Code.{StackCode}
use Rattle.code_rules.specs.Costs.{is_empty}
use Rattle.code_rules.specs.Rules.{is_target, jumps_among, same_nest}
use Rattle.code_rules.specs.Table.{entry_at}
use Rattle.code_rules.proofs.NestFacts.{opener-nest}
use Rattle.code_verifier.specs.Inner.Marks.{innermost, same_loop, with_jump, agrees, is_marked, mark_at, with_target}
use Rattle.code_verifier.specs.declared.targets.Mark.{Mark}
use Rattle.code_verifier.specs.declared.targets.Mark.TheVariants.{Unmarked, From, Mixed}

-- the mark of jumps from these nests
abbrev pub mark_of : List (List ℕ) → Mark
mark_of [] = Unmarked
mark_of (nest ∷ nests) = with_jump (innermost nest) (mark_of nests)

same_index : (n : ℕ) → nat_eq n n ≡ true
same_index n = grind arith

-- ---- loops

loop-refl : (l : Option ℕ) → same_loop l l ≡ true
loop-refl None = refl
loop-refl (Some m) = same_index m

loop-true : (l k : Option ℕ) → same_loop l k ≡ true → l ≡ k
loop-true None None h = refl
loop-true None (Some n) h = absurd (true≢false (sym h))
loop-true (Some m) None h = absurd (true≢false (sym h))
loop-true (Some m) (Some n) h = let e : m ≡ n = grind (arith, nat_tests, h) in ap Some e

-- the nests of two indices are the same where their innermost loops are
by-loop : (code : StackCode) (p q : ℕ) (ms ns : List ℕ) → (entry_at code p).nest ≡ ms →
    (entry_at code q).nest ≡ ns → same_nest ms ns ≡ same_loop (innermost ms) (innermost ns)
by-loop code p q [] [] a b = refl
by-loop code p q [] (n ∷ ns) a b = refl
by-loop code p q (m ∷ ms) [] a b = refl
by-loop code p q (m ∷ ms) (n ∷ ns) a b = by (nat_eq m n) refl
  where
    rest : m ≡ n → same_nest ms ns ≡ true
    rest e =
        let outer : ms ≡ ns = sym (opener-nest code p m ms a)
        ∙ (ap (λ o. (entry_at code o).nest) e ∙ opener-nest code q n ns b) in
        ap (λ x. same_nest x ns) outer ∙ same-refl ns

    by : (t : Bool) → nat_eq m n ≡ t → (nat_eq m n && same_nest ms ns) ≡ nat_eq m n
    by true e =
        let same : m ≡ n = grind (arith, nat_tests, e) in
        ap (λ x. x && same_nest ms ns) e ∙ (rest same ∙ sym e)
    by false e = ap (λ x. x && same_nest ms ns) e ∙ sym e

-- ---- marks

both : (l k m : Option ℕ) (b : Bool) → same_loop k m ≡ b →
    agrees l (if b then From m else Mixed) ≡ (same_loop l k && same_loop l m)
both l k m true e =
    let same = loop-true k m e in
    sym (ap (λ x. same_loop l x && same_loop l m) same ∙ twice (same_loop l m))
  where
    twice : (b : Bool) → (b && b) ≡ b
    twice true = refl
    twice false = refl
both l k m false e = by (same_loop l k) refl
  where
    by : (b : Bool) → same_loop l k ≡ b → false ≡ (b && same_loop l m)
    by true is = sym (ap (λ x. same_loop x m) (loop-true l k is) ∙ e)
    by false is = refl

and_false : (b : Bool) → false ≡ (b && false)
and_false true = refl
and_false false = refl

and_true : (b : Bool) → b ≡ (b && true)
and_true true = refl
and_true false = refl

agrees-next : (l k : Option ℕ) (mark : Mark) → agrees l (with_jump k mark) ≡ (same_loop l k && agrees l mark)
agrees-next l k Unmarked = and_true (same_loop l k)
agrees-next l k (From m) = both l k m (same_loop k m) refl
agrees-next l k Mixed = and_false (same_loop l k)

abbrev nests_of : StackCode → List ℕ → List (List ℕ)
nests_of code sources = map (λ source. (entry_at code source).nest) sources

pub agrees-all : (code : StackCode) (index : ℕ) (sources : List ℕ) →
    agrees (innermost (entry_at code index).nest) (mark_of (nests_of code sources))
    ≡ list_all (same_nest (entry_at code index).nest) (nests_of code sources)
agrees-all code index [] = refl
agrees-all code index (source ∷ sources) =
    let nest = (entry_at code index).nest in
    let other = (entry_at code source).nest in
    agrees-next (innermost nest) (innermost other) (mark_of (nests_of code sources))
    ∙ (ap (λ b. same_loop (innermost nest) (innermost other) && b) (agrees-all code index sources)
    ∙ ap (λ b. b && list_all (same_nest nest) (nests_of code sources))
    (sym (by-loop code index source nest other refl refl)))

marked-next : (l : Option ℕ) (mark : Mark) → is_marked (with_jump l mark) ≡ true
marked-next l Unmarked = refl
marked-next l (From k) = by (same_loop l k)
  where
    by : (b : Bool) → is_marked (if b then From k else Mixed) ≡ true
    by true = refl
    by false = refl
marked-next l Mixed = refl

pub marked-some : (nests : List (List ℕ)) → is_marked (mark_of nests) ≡ not (is_empty nests)
marked-some [] = refl
marked-some (nest ∷ nests) = marked-next (innermost nest) (mark_of nests)

pub mark_at-replicate : (n index : ℕ) → index < n → mark_at (replicate n Unmarked) index ≡ Unmarked
mark_at-replicate n index lt =
    unwrap_or-slice_get (replicate n Unmarked) index Unmarked ∙ get_or-replicate n index Unmarked Unmarked lt

mark_at-set_same : (marks : List Mark) (index : ℕ) (mark : Mark) → index < length marks →
    mark_at (set marks index mark) index ≡ mark
mark_at-set_same marks index mark lt =
    unwrap_or-slice_get (set marks index mark) index Unmarked ∙ get_or-set_same marks index mark Unmarked lt

mark_at-set_other : (marks : List Mark) (t index : ℕ) (mark : Mark) → (index ≡ t → ⊥) →
    mark_at (set marks t mark) index ≡ mark_at marks index
mark_at-set_other marks t index mark other =
    unwrap_or-slice_get (set marks t mark) index Unmarked
    ∙ (get_or-set_other marks t index mark Unmarked other ∙ sym (unwrap_or-slice_get marks index Unmarked))

-- one more instruction, and where it jumps to
pub mark-next : (code : StackCode) (index target : ℕ) (marks : List Mark) (jump : Option ℕ) →
    target < length marks → mark_at marks target ≡ mark_of (nests_of code (jumps_among code index target)) →
    mark_at (with_target jump (innermost (entry_at code index).nest) marks) target
    ≡ mark_of (nests_of code
    (if is_target jump target then index ∷ jumps_among code index target else jumps_among code index target))
mark-next code index target marks None lt h = h
mark-next code index target marks (Some t) lt h = by (nat_eq t target) refl
  where
    from : Option ℕ
    from = innermost (entry_at code index).nest

    new : ℕ → Mark
    new n = with_jump from (mark_at marks n)

    by : (b : Bool) → nat_eq t target ≡ b → mark_at (set marks t (new t)) target
        ≡ mark_of (nests_of code
        (if b then index ∷ jumps_among code index target else jumps_among code index target))
    by true at = let same : t ≡ target = grind (arith, nat_tests, at) in
        ap (λ n. mark_at (set marks n (new n)) target) same
        ∙ (mark_at-set_same marks target (new target) lt ∙ ap (with_jump from) h)
    by false at = mark_at-set_other marks t target (new t)
        (λ same. true≢false (sym (same_index t) ∙ (ap (nat_eq t) (sym same) ∙ at))) ∙ h

pub length-with_target : (jump l : Option ℕ) (marks : List Mark)
    → length (with_target jump l marks) ≡ length marks
length-with_target None l marks = refl
length-with_target (Some t) l marks = length-set marks t (with_jump l (mark_at marks t))
