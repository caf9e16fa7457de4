-- What is found in a well-formed value is well formed.
use Rattle.std.proofs.Common.{◌≡◌, ℕ, zero, suc, Bool, true, false, if◌then◌else◌, List, [], ◌∷◌}
use Rattle.std.proofs.Common.{bytes_eq, decimal, slice_get, Option, None, Some, IfSome, option_map, Bor, sym, subst}
use Rattle.std.specs.Option.{option_map_or}
use Rattle.data_tree.specs.Tree.{Tree, nothing, truth, number, text, list, fields, named, Items, no_items, item}
use Rattle.data_tree.specs.Tree.{Members, no_members, member, view}
use Rattle.data_tree.specs.Parts.{trees_of, values_of, items}
use Rattle.data_tree.specs.LookUp.{nth, under, after, at}
use Rattle.data_tree.specs.WellFormed.{IsWellFormed, AreWellFormed, HaveWellFormedValues}
use Rattle.data_tree.specs.declared.data.Data.{Data}
use Rattle.data_tree.specs.declared.step.Step.{Step}
use Rattle.data_tree.specs.declared.step.Step.TheVariants.{Name, Index}

either_formed : (first : Bool) (t u : Tree) → IsWellFormed t → IsWellFormed u
    → IsWellFormed (if first then t else u)
either_formed true t u h i = h
either_formed false t u h i = i

nth_formed : (n : ℕ) (ts : Items) → AreWellFormed ts → IsWellFormed (nth n ts)
nth_formed n no_items h = tt
nth_formed zero (item t ts) h = h.0
nth_formed (suc n) (item t ts) h = nth_formed n ts h.1

under_formed : (name : List ℕ) (ms : Members) → HaveWellFormedValues ms → IsWellFormed (under name ms)
under_formed name no_members h = tt
under_formed name (member k t ms) h =
    either_formed (bytes_eq k name) t (under name ms) h.0 (under_formed name ms h.1)

-- a step
pub formed_after : (s : Step) (t : Tree) → IsWellFormed t → IsWellFormed (after s t)
formed_after (Name name) nothing h = tt
formed_after (Name name) (truth b) h = tt
formed_after (Name name) (number n) h = tt
formed_after (Name name) (text s) h = tt
formed_after (Name name) (list ts) h = tt
formed_after (Name name) (fields ms) h = under_formed name ms h.1
formed_after (Name name) (named s ts ms) h = under_formed name ms h.2
formed_after (Index n) nothing h = tt
formed_after (Index n) (truth b) h = tt
formed_after (Index n) (number m) h = tt
formed_after (Index n) (text s) h = tt
formed_after (Index n) (list ts) h = nth_formed n ts h
formed_after (Index n) (fields ms) h = under_formed (decimal n) ms h.1
formed_after (Index n) (named s ts ms) h = nth_formed n ts h.0

-- a path
pub formed_at : (steps : List Step) (t : Tree) → IsWellFormed t → IsWellFormed (at steps t)
formed_at [] t h = h
formed_at (s ∷ steps) t h = formed_at steps (after s t) (formed_after s t h)

some_formed : (t u : Tree) → Some t ≡ Some u → IsWellFormed t → IsWellFormed u
some_formed t u e h = subst IsWellFormed (some_inj t u e) h
  where
    some_inj : (a b : Tree) → Some a ≡ Some b → a ≡ b
    some_inj a b e = cc

one_of_trees : (ts : Items) (i : ℕ) (u : Tree) → slice_get (trees_of ts) i ≡ Some u → AreWellFormed ts
    → IsWellFormed u
one_of_trees no_items i u found h = absurd cc
one_of_trees (item t ts) zero u found h = some_formed t u found h.0
one_of_trees (item t ts) (suc i) u found h = one_of_trees ts i u found h.1

one_of_values : (ms : Members) (i : ℕ) (u : Tree) → slice_get (values_of ms) i ≡ Some u
    → HaveWellFormedValues ms → IsWellFormed u
one_of_values no_members i u found h = absurd cc
one_of_values (member k t ms) zero u found h = some_formed t u found h.0
one_of_values (member k t ms) (suc i) u found h = one_of_values ms i u found h.1

-- an item
pub formed_item : (t : Tree) (i : ℕ) (u : Tree) → slice_get (items t) i ≡ Some u → IsWellFormed t
    → IsWellFormed u
formed_item nothing i u found h = absurd cc
formed_item (truth b) i u found h = absurd cc
formed_item (number n) i u found h = absurd cc
formed_item (text s) i u found h = absurd cc
formed_item (list ts) i u found h = one_of_trees ts i u found h
formed_item (fields ms) i u found h = one_of_values ms i u found h.1
formed_item (named s ts ms) i u found h = one_of_trees ts i u found h.0

-- where a step found something, that is well formed
pub formed_step
    : (r : Option (Bor Data)) (s : Step) (t : Tree)
    → option_map_or (λ (x : Bor Data). view x.now) r nothing ≡ after s t → IsWellFormed t
    → IfSome r (λ x. IsWellFormed (view x.now))
formed_step None s t e h = tt
formed_step (Some x) s t e h = subst IsWellFormed (sym e) (formed_after s t h)

-- so is the item of an index, where there is one
pub formed_element
    : (r : Option (Bor Data)) (i : ℕ) (t : Tree)
    → option_map (λ (x : Bor Data). view x.now) r ≡ slice_get (items t) i
    → IsWellFormed t → IfSome r (λ x. IsWellFormed (view x.now))
formed_element None i t e h = tt
formed_element (Some x) i t e h = formed_item t i (view x.now) (sym e) h
