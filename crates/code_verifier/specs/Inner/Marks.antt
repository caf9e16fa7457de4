-- What the pass keeps of the jumps that go to an instruction: a nest is known by its innermost loop.
use Rattle.std.specs.Prelude.{ℕ, nat_eq, Bool, true, false, if◌then◌else◌, List, [], ◌∷◌, set, Option}
use Rattle.std.specs.Prelude.{Some, None, slice_get, unwrap_or}
use Rattle.code_verifier.specs.declared.targets.Mark.{Mark}
use Rattle.code_verifier.specs.declared.targets.Mark.TheVariants.{Unmarked, From, Mixed}

-- the innermost loop of a nest, if there is one
abbrev pub innermost : List ℕ → Option ℕ
innermost [] = None
innermost (opener ∷ nest) = Some opener

abbrev pub same_loop : Option ℕ → Option ℕ → Bool
same_loop None None = true
same_loop (Some m) (Some n) = nat_eq m n
same_loop l k = false

-- the mark with one more jump, from that loop
abbrev pub with_jump : Option ℕ → Mark → Mark
with_jump l Unmarked = From l
with_jump l (From k) = if same_loop l k then From k else Mixed
with_jump l Mixed = Mixed

-- all jumps come from that loop
abbrev pub agrees : Option ℕ → Mark → Bool
agrees l Unmarked = true
agrees l (From k) = same_loop l k
agrees l Mixed = false

-- there is a jump
abbrev pub is_marked : Mark → Bool
is_marked Unmarked = false
is_marked mark = true

-- the mark of an index; there is no mark after the last one
abbrev pub mark_at : List Mark → ℕ → Mark
mark_at marks index = unwrap_or (slice_get marks index) Unmarked

-- the marks with the target of one more jump, from that loop
abbrev pub with_target : Option ℕ → Option ℕ → List Mark → List Mark
with_target None l marks = marks
with_target (Some target) l marks = set marks target (with_jump l (mark_at marks target))
