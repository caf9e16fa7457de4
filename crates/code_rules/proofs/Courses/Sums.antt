-- Sums of costs over places.
use Rattle.std.proofs.Common.{◌≡◌, ℕ, zero, suc, ◌+◌, ◌-◌, ◌*◌, ◌<◌, ◌≤◌, sym, ap, subst, ⊎_elim, arith}
use Rattle.std.proofs.lemmas.Bool.{cases_lt}
use Rattle.code_rules.specs.Inner.Course.{Cost, nothing, plus, value, Bracket, level, opens_over_part, opens_over_data}
use Rattle.code_rules.specs.Inner.Course.{ends, of_turns}

-- at most, part by part
pub record Le (c d : Cost) : Type 0 where
  pub alone : c.alone ≤ d.alone
  pub per : c.per ≤ d.per

pub le-of : (c d : Cost) → c ≡ d → Le c d
le-of c d e = subst (λ x. Le c x) e (record { alone = omega arith; per = omega arith })

pub le-trans : (c d e : Cost) → Le c d → Le d e → Le c e
le-trans c d e h k = record { alone = omega (arith, h.alone, k.alone); per = omega (arith, h.per, k.per) }

pub le-nothing : (d : Cost) → Le nothing d
le-nothing d = record { alone = omega arith; per = omega arith }

pub times-le : (p q m : ℕ) → p ≤ q → p * m ≤ q * m
times-le p q zero h = grind arith
times-le p q (suc m) h = let i = times-le p q m h in grind (arith, h, i)

pub value-le : (c d : Cost) (m : ℕ) → Le c d → value c m ≤ value d m
value-le c d m h = omega (arith, h.alone, times-le c.per d.per m h.per)

pub value-plus : (c d : Cost) (m : ℕ) → value (plus c d) m ≡ value c m + value d m
value-plus c d m = grind arith

-- f x and the values after it, that many in all
abbrev pub total : (ℕ → Cost) → ℕ → ℕ → Cost
total f x zero = nothing
total f x (suc k) = plus (f x) (total f (suc x) k)

-- the values from x on, up to an end
abbrev pub from : (ℕ → Cost) → ℕ → ℕ → Cost
from f e x = total f x (e - x)

pub from-next : (f : ℕ → Cost) (e x : ℕ) → x < e → from f e x ≡ plus (f x) (from f e (suc x))
from-next f e x h = let one : e - x ≡ suc (e - suc x) = omega (arith, h) in ap (total f x) one

from-past : (f : ℕ → Cost) (e x : ℕ) → e ≤ x → from f e x ≡ nothing
from-past f e x h = let none : e - x ≡ 0 = omega (arith, h) in ap (total f x) none

from-later_one : (f : ℕ → Cost) (e x : ℕ) → Le (from f e (suc x)) (from f e x)
from-later_one f e x =
    ⊎_elim
    (λ h. subst (λ c. Le (from f e (suc x)) c) (sym (from-next f e x h))
    (record { alone = omega arith; per = omega arith }))
    (λ h. subst (λ c. Le c (from f e x)) (sym (from-past f e (suc x) (omega (arith, h)))) (le-nothing (from f e x)))
    (cases_lt x e)

from-later_by : (f : ℕ → Cost) (e x y k : ℕ) → x + k ≡ y → Le (from f e y) (from f e x)
from-later_by f e x y zero h = let same : y ≡ x = omega (arith, h) in le-of _ _ (ap (from f e) same)
from-later_by f e x y (suc k) h =
    le-trans (from f e y) (from f e (suc x)) (from f e x) (from-later_by f e (suc x) y k (omega (arith, h)))
    (from-later_one f e x)

-- fewer places cost less
pub from-later : (f : ℕ → Cost) (e x y : ℕ) → x ≤ y → Le (from f e y) (from f e x)
from-later f e x y h = from-later_by f e x y (y - x) (omega (arith, h))

total-le : (f g : ℕ → Cost) (x k : ℕ) → ((y : ℕ) → x ≤ y → Le (f y) (g y))
    → Le (total f x k) (total g x k)
total-le f g x zero h = le-nothing nothing
total-le f g x (suc k) h =
    let here = h x (omega arith) in
    let rest = total-le f g (suc x) k (λ y le. h y (omega (arith, le))) in
    record { alone = omega (arith, here.alone, rest.alone); per = omega (arith, here.per, rest.per) }

pub from-le : (f g : ℕ → Cost) (e x : ℕ) → ((y : ℕ) → x ≤ y → Le (f y) (g y))
    → Le (from f e x) (from g e x)
from-le f g e x h = total-le f g x (e - x) h

from-skip_one : (f : ℕ → Cost) (e x : ℕ) → Le (f x) nothing → Le (from f e x) (from f e (suc x))
from-skip_one f e x n =
    ⊎_elim
    (λ h. subst (λ c. Le c (from f e (suc x))) (sym (from-next f e x h))
    (record { alone = omega (arith, n.alone); per = omega (arith, n.per) }))
    (λ h. subst (λ c. Le c (from f e (suc x))) (sym (from-past f e x h)) (le-nothing (from f e (suc x))))
    (cases_lt x e)

from-skip_by : (f : ℕ → Cost) (e x y k : ℕ) → x + k ≡ y →
    ((z : ℕ) → x ≤ z → z < y → Le (f z) nothing) → Le (from f e x) (from f e y)
from-skip_by f e x y zero h n = let same : x ≡ y = omega (arith, h) in le-of _ _ (ap (from f e) same)
from-skip_by f e x y (suc k) h n =
    le-trans (from f e x) (from f e (suc x)) (from f e y) (from-skip_one f e x (n x (omega arith) (omega (arith, h))))
    (from-skip_by f e (suc x) y k (omega (arith, h)) (λ z le lt. n z (omega (arith, le)) lt))

-- places that cost nothing may be left out
pub from-skip : (f : ℕ → Cost) (e x y : ℕ) → x ≤ y →
    ((z : ℕ) → x ≤ z → z < y → Le (f z) nothing) → Le (from f e x) (from f e y)
from-skip f e x y h n = from-skip_by f e x y (y - x) (omega (arith, h)) n

pub turns-nothing : (size : ℕ) (b : Bracket) → Le (of_turns size b nothing) nothing
turns-nothing size level = record { alone = grind arith; per = omega arith }
turns-nothing size opens_over_part = record { alone = omega arith; per = omega arith }
turns-nothing size opens_over_data = record { alone = grind arith; per = omega arith }
turns-nothing size ends = record { alone = grind arith; per = omega arith }

turns-plus : (size : ℕ) (b : Bracket) (c d : Cost) →
    Le (of_turns size b (plus c d)) (plus (of_turns size b c) (of_turns size b d))
turns-plus size level c d = record { alone = grind arith; per = omega arith }
turns-plus size opens_over_part c d = record { alone = omega arith; per = omega arith }
turns-plus size opens_over_data c d = record { alone = grind arith; per = omega arith }
turns-plus size ends c d = record { alone = grind arith; per = omega arith }

total-split : (f g h : ℕ → Cost) (size : ℕ) (b : Bracket) (x k : ℕ) →
    ((y : ℕ) → Le (plus (of_turns size b (g y)) (h y)) (f y)) →
    Le (plus (of_turns size b (total g x k)) (total h x k)) (total f x k)
total-split f g h size b x zero s =
    let n = turns-nothing size b in record { alone = omega (arith, n.alone); per = omega (arith, n.per) }
total-split f g h size b x (suc k) s =
    let here = s x in
    let rest = total-split f g h size b (suc x) k s in
    let sum = turns-plus size b (g x) (total g (suc x) k) in
    record {
      alone = omega (arith, here.alone, rest.alone, sum.alone);
      per = omega (arith, here.per, rest.per, sum.per);
    }

-- what is split place by place is split as a whole
pub from-split : (f g h : ℕ → Cost) (size : ℕ) (b : Bracket) (e x : ℕ) →
    ((y : ℕ) → Le (plus (of_turns size b (g y)) (h y)) (f y)) →
    Le (plus (of_turns size b (from g e x)) (from h e x)) (from f e x)
from-split f g h size b e x s = total-split f g h size b x (e - x) s
