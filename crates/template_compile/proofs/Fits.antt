-- The open loops of a run beside the turns that a template's text is read by.
use Rattle.std.proofs.Common.{◌≡◌, ℕ, zero, suc, ◌+◌, ◌<◌, false, List, [], ◌∷◌, length, Some}
use Rattle.std.proofs.Common.{nat_lt, refl, ap, ◌∙◌, arith, subst}
use Rattle.std.specs.Prelude.{slice_get, unwrap_or, not}
use Rattle.std.proofs.lemmas.Bool.{lt-ltb}
use Rattle.std.proofs.lemmas.Option.{none-some, same_Some}
use Rattle.data_tree.specs.Tree.{Tree, nothing, list, fields, named, Items, no_items, item, Members, no_members, member}
use Rattle.data_tree.specs.Parts.{trees_of, values_of, names_of, items, keys}
use Rattle.template_code.specs.Machine.{Loop, item_of, key_of, has_next}
use Rattle.template_code.proofs.FlowFacts.{at_turn}
use Rattle.template_tree.specs.Meaning.{Turn, turns_from, named_turns_from, turns_of, item_at}

-- an open loop is at that turn
pub record TurnFits (l : Loop) (t : Turn) : Type 0 where
  pub item : item_of l ≡ t.item
  pub index : l.turn ≡ t.index
  pub key : key_of l ≡ t.key
  pub is_last : not (has_next l) ≡ t.is_last

abbrev pub LoopsFit : List Loop → List Turn → Type 0
LoopsFit [] [] = Unit {0}
LoopsFit (l ∷ loops) (t ∷ turns) = TurnFits l t × LoopsFit loops turns
LoopsFit loops turns = ⊥

-- the item of an enclosing loop
pub fits-item : (loops : List Loop) (turns : List Turn) (up : ℕ) → LoopsFit loops turns → up < length turns →
    (l : Loop) × (slice_get loops up ≡ Some l) × (item_of l ≡ item_at up turns)
fits-item [] [] up fits lt = absurd (omega (arith, lt))
fits-item [] (t ∷ turns) up fits lt = absurd fits
fits-item (l ∷ loops) [] up fits lt = absurd fits
fits-item (l ∷ loops) (t ∷ turns) zero fits lt = (l, refl, fits.0.item)
fits-item (l ∷ loops) (t ∷ turns) (suc up) fits lt = fits-item loops turns up fits.1 (omega (arith, lt))

-- ---- the turns of a value are those of a loop over it

pub length-turns_from : (start : ℕ) (ts : Items) → length (turns_from start ts) ≡ length (trees_of ts)
length-turns_from start no_items = refl
length-turns_from start (item t ts) = ap suc (length-turns_from (suc start) ts)

length-named_turns_from : (start : ℕ) (ms : Members) → length (named_turns_from start ms) ≡ length (values_of ms)
length-named_turns_from start no_members = refl
length-named_turns_from start (member name t ms) = ap suc (length-named_turns_from (suc start) ms)

pub length-turns_of : (t : Tree) → length (turns_of t) ≡ length (items t)
length-turns_of (list ts) = length-turns_from 0 ts
length-turns_of (fields ms) = length-named_turns_from 0 ms
length-turns_of (named s ts ms) = length-turns_from 0 ts
length-turns_of t = refl

-- a turn's parts, given the items and the names of what is gone over, the number of the turn and its place
record HasParts (found : List Tree) (names : List (List ℕ)) (k place : ℕ) (t : Turn) : Type 0 where
  item : unwrap_or (slice_get found k) nothing ≡ t.item
  index : place ≡ t.index
  key : unwrap_or (slice_get names k) [] ≡ t.key
  is_last : not (nat_lt (suc k) (length found)) ≡ t.is_last

later : (k n : ℕ) → nat_lt (suc (suc k)) (suc n) ≡ nat_lt (suc k) n
later k n = grind arith

-- the first of several is not the last
more : (n : ℕ) → not (nat_lt 1 (suc (suc n))) ≡ false
more n = ap not (lt-ltb 1 (suc (suc n)) (omega arith))

from-items : (start : ℕ) (ts : Items) (k : ℕ) (t : Turn) → slice_get (turns_from start ts) k ≡ Some t →
    HasParts (trees_of ts) [] k (start + k) t
from-items start no_items k t h = absurd (none-some t h)
from-items start (item u no_items) zero t h =
    subst (λ x. HasParts (u ∷ []) [] 0 (start + 0) x) (same_Some _ t h)
    (record { item = refl; index = omega arith; key = refl; is_last = refl })
from-items start (item u (item w us)) zero t h =
    subst (λ x. HasParts (u ∷ w ∷ trees_of us) [] 0 (start + 0) x) (same_Some _ t h)
    (record { item = refl; index = omega arith; key = refl; is_last = more (length (trees_of us)) })
from-items start (item u us) (suc k) t h =
    let r = from-items (suc start) us k t h in record {
      item = r.item;
      index = omega (arith, r.index);
      key = r.key;
      is_last = ap not (later k (length (trees_of us))) ∙ r.is_last;
    }

from-members : (start : ℕ) (ms : Members) (k : ℕ) (t : Turn) →
    slice_get (named_turns_from start ms) k ≡ Some t → HasParts (values_of ms) (names_of ms) k (start + k) t
from-members start no_members k t h = absurd (none-some t h)
from-members start (member name u no_members) zero t h =
    subst (λ x. HasParts (u ∷ []) (name ∷ []) 0 (start + 0) x) (same_Some _ t h)
    (record { item = refl; index = omega arith; key = refl; is_last = refl })
from-members start (member name u (member other w ms)) zero t h =
    subst (λ x. HasParts (u ∷ w ∷ values_of ms) (name ∷ other ∷ names_of ms) 0 (start + 0) x) (same_Some _ t h)
    (record { item = refl; index = omega arith; key = refl; is_last = more (length (values_of ms)) })
from-members start (member name u ms) (suc k) t h =
    let r = from-members (suc start) ms k t h in record {
      item = r.item;
      index = omega (arith, r.index);
      key = r.key;
      is_last = ap not (later k (length (values_of ms))) ∙ r.is_last;
    }

of-parts : (over : Tree) (k : ℕ) (t : Turn) → HasParts (items over) (keys over) k (0 + k) t →
    TurnFits (at_turn over k) t
of-parts over k t h =
    record { item = h.item; index = omega (arith, h.index); key = h.key; is_last = h.is_last }

pub turn-fits : (over : Tree) (k : ℕ) (t : Turn) → slice_get (turns_of over) k ≡ Some t →
    TurnFits (at_turn over k) t
turn-fits (list ts) k t h = of-parts (list ts) k t (from-items 0 ts k t h)
turn-fits (fields ms) k t h = of-parts (fields ms) k t (from-members 0 ms k t h)
turn-fits (named s ts ms) k t h = of-parts (named s ts ms) k t (from-items 0 ts k t h)
turn-fits over k t h = absurd (none-some t h)
