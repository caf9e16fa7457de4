-- What is due in a state: what is left of the innermost region at its item, and for each open loop what its turns to
-- come cost and what is left of the region round it at the item there. No move makes it fall by less than its place
-- costs.
use Rattle.std.proofs.Common.{◌≡◌, ℕ, zero, suc, ◌+◌, ◌-◌, ◌*◌, ◌<◌, ◌≤◌, Bool, true, false, true≢false, List, [], ◌∷◌}
use Rattle.std.proofs.Common.{length, drop, refl, sym, ap, ◌∙◌, subst, ⊎_elim, arith}
use Rattle.std.specs.Prelude.{if◌then◌else◌}
use Rattle.code_rules.specs.Inner.Course.{Cost, nothing, plus, value, Bracket, level, opens_over_part, opens_over_data}
use Rattle.code_rules.specs.Inner.Course.{ends, Course, nest_after, nest, of_turns, share, region, budget}
use Rattle.code_rules.specs.Inner.Run.{Loop, State, item_size, sum_of, Fit, GoesAhead, Enters, Repeats, Leaves, GoesBy}
use Rattle.code_rules.specs.Inner.Run.{Goes, cost_at, Runs, first}
use Rattle.code_rules.proofs.Courses.Sums.{Le, le-of, le-nothing, times-le, value-le, value-plus, total, from}
use Rattle.code_rules.proofs.Courses.Sums.{from-next, from-later, from-le, from-skip, from-split}
use Rattle.code_rules.proofs.Courses.Nests.{inside, inside-self, inside-short, inside-outer, inside-before}
use Rattle.code_rules.proofs.Courses.Nests.{opener-before, first-place}
use Rattle.code_rules.proofs.Courses.Shares.{share-self, share-split}

-- what a place costs, seen from a nest
abbrev share_at : Course → List ℕ → ℕ → Cost
share_at c outer y = share c outer (nest c y) (c.cost y)

-- the same, but for places in an inner nest
abbrev share_round : Course → List ℕ → List ℕ → ℕ → Cost
share_round c outer inner y = if inside inner (nest c y) then nothing else share_at c outer y

-- what is left of a region from a place on
abbrev left : Course → List ℕ → ℕ → Cost
left c outer x = from (share_at c outer) c.places x

-- the same round an inner nest
abbrev left_round : Course → List ℕ → List ℕ → ℕ → Cost
left_round c outer inner x = from (share_round c outer inner) c.places x

-- the cost for each of these items
abbrev of_items : Cost → List ℕ → ℕ
of_items k [] = 0
of_items k (m ∷ ms) = value k m + of_items k ms

-- what is due for the loops round the innermost region
abbrev pub due_round : Course → ℕ → List ℕ → List Loop → ℕ
due_round c x [] ls = 0
due_round c x (n ∷ ns) [] = 0
due_round c x (n ∷ ns) (l ∷ ls) =
    of_items (left c (n ∷ ns) (suc n)) l.to_come
    + (value (left_round c ns (n ∷ ns) x) (item_size ls) + due_round c x ns ls)

abbrev pub due : Course → ℕ → List Loop → ℕ
due c x ls = value (left c (nest c x) x) (item_size ls) + due_round c x (nest c x) ls

due-as : (c : Course) (x : ℕ) (ls : List Loop) (ns : List ℕ) → nest c x ≡ ns →
    due c x ls ≡ value (left c ns x) (item_size ls) + due_round c x ns ls
due-as c x ls ns e = ap (λ ms. value (left c ms x) (item_size ls) + due_round c x ms ls) e

sum-items : (k : Cost) (ms : List ℕ) → of_items k ms ≡ k.alone * length ms + k.per * sum_of ms
sum-items k [] = grind arith
sum-items k (m ∷ ms) = let h = sum-items k ms in grind (arith, h)

by-size : (a p l s size : ℕ) → l ≤ size → s ≤ size → a * l + p * s ≤ (a + p) * size
by-size a p l s size h k =
    let x = times-le l size a h in
    let y = times-le s size p k in
    let e : l * a ≡ a * l = grind arith in
    let f : s * p ≡ p * s = grind arith in
    let g : (a + p) * size ≡ size * a + size * p = grind arith in
    omega (x, y, e, f, g, arith)

-- all turns of a loop whose items fit
fit-items : (k : Cost) (size : ℕ) (l : Loop) → Fit size l
    → of_items k (l.item ∷ l.to_come) ≤ (k.alone + k.per) * size
fit-items k size l f =
    let e = sum-items k (l.item ∷ l.to_come) in
    let h = by-size k.alone k.per (length (l.item ∷ l.to_come)) (sum_of (l.item ∷ l.to_come)) size f.number f.sum in
    omega (arith, e, h)

-- the region of a place: its cost and what is left after it
left-here : (c : Course) (x : ℕ) → x < c.places →
    Le (plus (c.cost x) (left c (nest c x) (suc x))) (left c (nest c x) x)
left-here c x lt =
    subst (λ k. Le (plus (c.cost x) (left c (nest c x) (suc x))) k)
    (sym (from-next (share_at c (nest c x)) c.places x lt
    ∙ ap (λ k. plus k (left c (nest c x) (suc x))) (share-self c (nest c x) (c.cost x))))
    (record { alone = omega arith; per = omega arith })

value-here : (c : Course) (x m : ℕ) → x < c.places →
    value (c.cost x) m + value (left c (nest c x) (suc x)) m ≤ value (left c (nest c x) x) m
value-here c x m lt =
    let h = value-le (plus (c.cost x) (left c (nest c x) (suc x))) (left c (nest c x) x) m (left-here c x lt) in
    let e = value-plus (c.cost x) (left c (nest c x) (suc x)) m in
    omega (e, h, arith)

value-later : (f : ℕ → Cost) (e m x y : ℕ) → x ≤ y → value (from f e y) m ≤ value (from f e x) m
value-later f e m x y h = value-le (from f e y) (from f e x) m (from-later f e x y h)

round-later : (c : Course) (x y : ℕ) (ns : List ℕ) (ls : List Loop) → x ≤ y →
    due_round c y ns ls ≤ due_round c x ns ls
round-later c x y [] ls h = omega arith
round-later c x y (n ∷ ns) [] h = omega arith
round-later c x y (n ∷ ns) (l ∷ ls) h =
    let here = value-later (share_round c ns (n ∷ ns)) c.places (item_size ls) x y h in
    let rest = round-later c x y ns ls h in
    omega (here, rest, arith)

skipped : (b : Bool) (k : Cost) → b ≡ true → Le (if b then nothing else k) nothing
skipped true k e = le-nothing nothing
skipped false k e = absurd (true≢false (sym e))

-- within a loop what is left round it doesn't change
round-back : (c : Course) (x y : ℕ) (ns : List ℕ) (ls : List Loop) → x ≤ y →
    ((z : ℕ) → x ≤ z → z < y → inside ns (nest c z) ≡ true) → due_round c x ns ls ≤ due_round c y ns ls
round-back c x y [] ls h all = omega arith
round-back c x y (n ∷ ns) [] h all = omega arith
round-back c x y (n ∷ ns) (l ∷ ls) h all =
    let f = share_round c ns (n ∷ ns) in
    let skip =
    from-skip f c.places x y h
    (λ z le lt. skipped (inside (n ∷ ns) (nest c z)) (share_at c ns z) (all z le lt)) in
    let here = value-le (from f c.places x) (from f c.places y) (item_size ls) skip in
    let rest = round-back c x y ns ls h (λ z le lt. inside-outer n ns (nest c z) (all z le lt)) in
    omega (here, rest, arith)

paid-ahead : (c : Course) (x y : ℕ) (ls : List Loop) → x < c.places → x < y → nest c y ≡ nest c x →
    value (c.cost x) (item_size ls) + due c y ls ≤ due c x ls
paid-ahead c x y ls lt later same =
    let ns = nest c x in
    let m = item_size ls in
    let there = due-as c y ls ns same in
    let here = value-here c x m lt in
    let fewer = value-later (share_at c ns) c.places m (suc x) y (omega (arith, later)) in
    let round = round-later c x y ns ls (omega (arith, later)) in
    omega (there, here, fewer, round, arith)

paid-enter : (c : Course) (x size : ℕ) (l : Loop) (ls : List Loop) → x < c.places →
    nest c (suc x) ≡ x ∷ nest c x →
    ((k : Cost) → value (of_turns c.size (c.bracket x) k) (item_size ls) ≡ (k.alone + k.per) * size) →
    Fit size l → value (c.cost x) (item_size ls) + due c (suc x) (l ∷ ls) ≤ due c x ls
paid-enter c x size l ls lt opens turns fit =
    let ns = nest c x in
    let m = item_size ls in
    let body = left c (x ∷ ns) (suc x) in
    let outer = left_round c ns (x ∷ ns) (suc x) in
    let there = due-as c (suc x) (l ∷ ls) (x ∷ ns) opens in
    let here = value-here c x m lt in
    let split =
    from-split (share_at c ns) (share_at c (x ∷ ns)) (share_round c ns (x ∷ ns)) c.size
    (c.bracket x) c.places (suc x)
    (λ y. share-split c x ns (nest c y) (c.cost y)) in
    let whole = value-le (plus (of_turns c.size (c.bracket x) body) outer) (left c ns (suc x)) m split in
    let parts = value-plus (of_turns c.size (c.bracket x) body) outer m in
    let all = fit-items body size l fit in
    let turned = turns body in
    let round = round-later c x (suc x) ns ls (omega arith) in
    omega (there, here, whole, parts, all, turned, round, arith)

paid-repeat : (c : Course) (x opener done : ℕ) (outer : List ℕ) (l : Loop) (ls : List Loop) → x < c.places →
    nest c x ≡ opener ∷ outer →
    value (c.cost x) done + due c (suc opener) (l ∷ ls)
    ≤ due c x (record { item = done; to_come = l.item ∷ l.to_come } ∷ ls)
paid-repeat c x opener done outer l ls lt at =
    let ns = opener ∷ outer in
    let before = opener-before c x opener outer at in
    let there = due-as c (suc opener) (l ∷ ls) ns (first-place c x opener outer at) in
    let here = due-as c x (record { item = done; to_come = l.item ∷ l.to_come } ∷ ls) ns at in
    let cost = subst (λ ms. value (c.cost x) done + value (left c ms (suc x)) done ≤ value (left c ms x) done) at
    (value-here c x done lt) in
    let self = subst (λ ms. inside ns ms ≡ true) (sym at) (inside-self ns) in
    let within : (z : ℕ) → suc opener ≤ z → z < x → inside ns (nest c z) ≡ true =
    λ z le less. inside-before c opener z x outer (omega (arith, le)) (omega (arith, less)) self in
    let skip = from-skip (share_round c outer ns) c.places (suc opener) x (omega (arith, before))
    (λ z le less. skipped (inside ns (nest c z)) (share_at c outer z) (within z le less)) in
    let outside = value-le (left_round c outer ns (suc opener)) (left_round c outer ns x) (item_size ls) skip in
    let round = round-back c (suc opener) x outer ls (omega (arith, before))
    (λ z le less. inside-outer opener outer (nest c z) (within z le less)) in
    omega (there, here, cost, outside, round, arith)

kept : (b : Bool) (k : Cost) → b ≡ false → Le k (if b then nothing else k)
kept true k e = absurd (true≢false e)
kept false k e = le-of k k refl

-- after its end no place lies in the loop
outside-after : (c : Course) (x opener : ℕ) (outer : List ℕ) → nest c x ≡ opener ∷ outer →
    nest c (suc x) ≡ outer → (y : ℕ) → suc x ≤ y → inside (opener ∷ outer) (nest c y) ≡ false
outside-after c x opener outer at next y le = by (inside (opener ∷ outer) (nest c y)) refl
  where
    by : (b : Bool) → inside (opener ∷ outer) (nest c y) ≡ b → b ≡ false
    by true e =
        let before = opener-before c x opener outer at in
        let back = inside-before c opener (suc x) y outer (omega (arith, before)) le e in
        let short = inside-short (opener ∷ outer) outer (omega arith) in
        absurd (true≢false (sym (subst (λ ms. inside (opener ∷ outer) ms ≡ true) next back) ∙ short))
    by false e = refl

paid-leave : (c : Course) (x opener : ℕ) (outer : List ℕ) (l : Loop) (ls : List Loop) → x < c.places →
    nest c x ≡ opener ∷ outer → nest c (suc x) ≡ outer →
    value (c.cost x) l.item + due c (suc x) ls ≤ due c x (l ∷ ls)
paid-leave c x opener outer l ls lt at next =
    let ns = opener ∷ outer in
    let m = item_size ls in
    let there = due-as c (suc x) ls outer next in
    let here = due-as c x (l ∷ ls) ns at in
    let cost = subst (λ ms.
    value (c.cost x) l.item + value (left c ms (suc x)) l.item ≤ value (left c ms x) l.item) at
    (value-here c x l.item lt) in
    let out = from-le (share_at c outer) (share_round c outer ns) c.places (suc x)
    (λ y le. kept (inside ns (nest c y)) (share_at c outer y) (outside-after c x opener outer at next y le)) in
    let same = value-le (left c outer (suc x)) (left_round c outer ns (suc x)) m out in
    let fewer = value-later (share_round c outer ns) c.places m x (suc x) (omega arith) in
    let round = round-later c x (suc x) outer ls (omega arith) in
    omega (there, here, cost, same, fewer, round, arith)

abbrev Pays : Course → State → State → Type 0
Pays c s next = cost_at c s + due c next.place next.loops ≤ due c s.place s.loops

pays-ahead : (c : Course) (s next : State) → s.place < c.places → GoesAhead c s next → Pays c s next
pays-ahead c s next lt g =
    subst (λ ls. cost_at c s + due c next.place ls ≤ due c s.place s.loops) (sym g.loops)
    (paid-ahead c s.place next.place s.loops lt g.later g.nest)

pays-enter : (c : Course) (size : ℕ) (s next : State) → s.place < c.places →
    nest c (suc s.place) ≡ s.place ∷ nest c s.place →
    ((k : Cost) → value (of_turns c.size (c.bracket s.place) k) (item_size s.loops) ≡ (k.alone + k.per) * size) →
    Enters size s next → Pays c s next
pays-enter c size s next lt opens turns g =
    subst (λ ls. cost_at c s + due c next.place ls ≤ due c s.place s.loops) (sym g.loops)
    (subst (λ y. cost_at c s + due c y (g.loop ∷ s.loops) ≤ due c s.place s.loops) (sym g.place)
    (paid-enter c s.place size g.loop s.loops lt opens turns g.fits))

pays-repeat : (c : Course) (s next : State) → s.place < c.places → Repeats c s next → Pays c s next
pays-repeat c s next lt g =
    subst (λ ls. cost_at c s + due c next.place ls ≤ due c s.place s.loops) (sym g.loops)
    (subst (λ y. cost_at c s + due c y (g.loop ∷ g.rest) ≤ due c s.place s.loops) (sym g.place)
    (subst (λ ls. value (c.cost s.place) (item_size ls) + due c (suc g.opener) (g.loop ∷ g.rest)
    ≤ due c s.place ls)
    (sym g.before)
    (paid-repeat c s.place g.opener g.done g.outer g.loop g.rest lt g.nest)))

pays-leave : (c : Course) (s next : State) → s.place < c.places → c.bracket s.place ≡ ends → Leaves c s next →
    Pays c s next
pays-leave c s next lt b g =
    subst (λ y. cost_at c s + due c y next.loops ≤ due c s.place s.loops) (sym g.place)
    (subst (λ ls. value (c.cost s.place) (item_size ls) + due c (suc s.place) next.loops ≤ due c s.place ls)
    (sym g.before)
    (paid-leave c s.place g.opener g.outer g.loop next.loops lt g.nest
    (ap (λ x. nest_after x s.place (nest c s.place)) b ∙ ap (drop 1) g.nest)))

over-part : (c : Course) (m : ℕ) (k : Cost) → value (of_turns c.size opens_over_part k) m ≡ (k.alone + k.per) * m
over-part c m k = omega arith

over-data : (c : Course) (m : ℕ) (k : Cost) →
    value (of_turns c.size opens_over_data k) m ≡ (k.alone + k.per) * c.size
over-data c m k = grind arith

pays-by : (c : Course) (s next : State) (b : Bracket) → s.place < c.places → c.bracket s.place ≡ b →
    GoesBy c b s next → Pays c s next
pays-by c s next level lt e g = pays-ahead c s next lt g
pays-by c s next opens_over_part lt e g =
    ⊎_elim (λ h. pays-ahead c s next lt h)
    (λ h. pays-enter c (item_size s.loops) s next lt (ap (λ x. nest_after x s.place (nest c s.place)) e)
    (λ k. ap (λ x. value (of_turns c.size x k) (item_size s.loops)) e ∙ over-part c (item_size s.loops) k) h) g
pays-by c s next opens_over_data lt e g =
    ⊎_elim (λ h. pays-ahead c s next lt h)
    (λ h. pays-enter c c.size s next lt (ap (λ x. nest_after x s.place (nest c s.place)) e)
    (λ k. ap (λ x. value (of_turns c.size x k) (item_size s.loops)) e ∙ over-data c (item_size s.loops) k) h) g
pays-by c s next ends lt e g =
    ⊎_elim (λ h. pays-repeat c s next lt h) (λ h. pays-leave c s next lt e h) g

-- a move is paid from what is due
pub paid : (c : Course) (s next : State) → Goes c s next →
    cost_at c s + due c next.place next.loops ≤ due c s.place s.loops
paid c s next g = pays-by c s next (c.bracket s.place) g.inside refl g.by

-- so is the last place
pub paid-last : (c : Course) (s : State) → s.place < c.places → cost_at c s ≤ due c s.place s.loops
paid-last c s lt = let h = value-here c s.place (item_size s.loops) lt in omega (h, arith)

regions-add : (c : Course) (outer : List ℕ) (x k : ℕ) → x + k ≡ c.places →
    (region c outer x).alone + (total (share_at c outer) x k).alone ≤ (region c outer c.places).alone
regions-add c outer x zero e =
    let same : x ≡ c.places = omega (arith, e) in
    let h : (region c outer x).alone ≡ (region c outer c.places).alone = ap (λ y. (region c outer y).alone) same in
    omega (h, arith)
regions-add c outer x (suc k) e =
    let h = regions-add c outer (suc x) k (omega (arith, e)) in
    omega (h, arith)

-- at the start the budget is due
pub due-first : (c : Course) → due c 0 [] ≤ (budget c).alone
due-first c = let h = regions-add c [] 0 (c.places - 0) (omega arith) in grind (arith, h)

pub run-paid : (c : Course) (moves spent : ℕ) (s last : State) → Runs c moves s last spent →
    last.place < c.places → spent + cost_at c last ≤ due c s.place s.loops
run-paid c zero spent s last r lt =
    let same : cost_at c last ≤ due c s.place s.loops =
    subst (λ t. cost_at c last ≤ due c t.place t.loops) (sym r.0) (paid-last c last lt) in
    omega (arith, r.1, same)
run-paid c (suc moves) spent s last r lt =
    let rest = run-paid c moves r.1 r.0 last r.3 lt in
    let move = paid c s r.0 r.2 in
    omega (arith, r.4, rest, move)

pub run-within : (c : Course) (moves spent : ℕ) (last : State) → Runs c moves first last spent →
    last.place < c.places → spent + cost_at c last ≤ (budget c).alone
run-within c moves spent last r lt =
    let h = run-paid c moves spent first last r lt in
    let b = due-first c in
    omega (arith, h, b)
