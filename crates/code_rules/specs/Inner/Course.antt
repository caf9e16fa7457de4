-- Places with loops round them, what each place costs, and the budget of all of them. A cost is alone + per * m,
-- where m is the size of the item that the innermost loop is at.
use Rattle.std.specs.Prelude.{ℕ, zero, suc, ◌+◌, ◌*◌, nat_eq, Bool, if◌then◌else◌, List, [], ◌∷◌, drop}
use lib.Pointwise.{pointwise}

pub record Cost : Type 0 where
  pub alone : ℕ
  pub per : ℕ

abbrev pub nothing : Cost
nothing = record { alone = 0; per = 0 }

abbrev pub plus : Cost → Cost → Cost
plus c d = record { alone = c.alone + d.alone; per = c.per + d.per }

-- the cost for an item of size m
abbrev pub value : Cost → ℕ → ℕ
value c m = c.alone + c.per * m

-- what a place does: no loop opens or closes; one opens, over a part of the item of the loop round it or over other
-- data; or the innermost loop ends, or begins again with its next item
pub data Bracket : Type 0 where
  level : Bracket
  opens_over_part : Bracket
  opens_over_data : Bracket
  ends : Bracket

-- the places from 0 on, as many as there are, and the size of all data
pub record Course : Type 0 where
  pub places : ℕ
  pub size : ℕ
  pub bracket : ℕ → Bracket
  pub cost : ℕ → Cost

abbrev pub nest_after : Bracket → ℕ → List ℕ → List ℕ
nest_after level place nest = nest
nest_after opens_over_part place nest = place ∷ nest
nest_after opens_over_data place nest = place ∷ nest
nest_after ends place nest = drop 1 nest

-- the places at which the loops round a place open, the innermost first
abbrev pub nest : Course → ℕ → List ℕ
nest c zero = []
nest c (suc place) = nest_after (c.bracket place) place (nest c place)

-- what all turns of a loop cost, seen from outside, where one turn costs that much: there are no more items than the
-- size of what the loop goes over, and no more is the sum of their sizes. The size of a part is that of the item
-- round it
abbrev pub of_turns : ℕ → Bracket → Cost → Cost
of_turns size opens_over_part c = record { alone = 0; per = c.alone + c.per }
of_turns size bracket c = record { alone = size * (c.alone + c.per); per = 0 }

abbrev pub same_nest : List ℕ → List ℕ → Bool
same_nest = pointwise nat_eq

-- what a place in the second nest costs, seen from the first: the turns of each loop between them are counted; nothing,
-- where the second isn't in the first
abbrev pub share : Course → List ℕ → List ℕ → Cost → Cost
share c outer [] cost = if same_nest outer [] then cost else nothing
share c outer (opener ∷ inner) cost =
    if same_nest outer (opener ∷ inner) then cost
    else share c outer inner (of_turns c.size (c.bracket opener) cost)

-- what the places before a place cost, seen from a nest
abbrev pub region : Course → List ℕ → ℕ → Cost
region c outer zero = nothing
region c outer (suc place) = plus (region c outer place) (share c outer (nest c place) (c.cost place))

-- what all places cost, seen from outside of all loops
abbrev pub budget : Course → Cost
budget c = region c [] c.places
