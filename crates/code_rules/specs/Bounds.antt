-- Bounds: alone(n) + per(n) * m, where n is the size of a request's data and m that of the item of the innermost loop.
use Rattle.std.specs.Prelude.{ℕ, ◌+◌, ◌*◌, Bool, ◌&&◌, if◌then◌else◌, List, [], ◌∷◌}
use Rattle.code_rules.specs.Polynomial.{Polynomial, constant, plus, times, times_size, value, fits}

pub record Bound : Type 0 where
  pub alone : Polynomial
  pub per : Polynomial

-- a number
abbrev pub at_most : ℕ → Bound
at_most c = record { alone = constant c; per = [] }

-- the size of all data, n
abbrev pub all_data : Bound
all_data = record { alone = 0 ∷ 1 ∷ []; per = [] }

-- the size of the item, m
abbrev pub item_data : Bound
item_data = record { alone = []; per = 1 ∷ [] }

abbrev pub plus_bound : Bound → Bound → Bound
plus_bound b c = record { alone = plus b.alone c.alone; per = plus b.per c.per }

abbrev pub times_bound : ℕ → Bound → Bound
times_bound k b = record { alone = times k b.alone; per = times k b.per }

abbrev pub sum_of : List Bound → Bound
sum_of [] = at_most 0
sum_of (b ∷ bs) = plus_bound b (sum_of bs)

abbrev pub bound_value : Bound → ℕ → ℕ → ℕ
bound_value b n m = value b.alone n + value b.per n * m

abbrev pub bound_fits : Bound → Bool
bound_fits b = fits b.alone && fits b.per

-- what all turns of a loop cost, seen from outside of it, where one turn costs that much. The items of what it goes
-- over are no more in number, and no more in the sum of their sizes, than its size: that of the item round the loop,
-- if it is a part of it, or that of all data
abbrev pub of_turns : Bool → Bound → Bound
of_turns is_part b =
    if is_part then record { alone = []; per = plus b.alone b.per }
    else record { alone = times_size (plus b.alone b.per); per = [] }
