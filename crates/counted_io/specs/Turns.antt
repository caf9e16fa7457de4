-- The turns of a connection, and what the bytes that pass over it cost, with the proofs of the laws.
use Rattle.std.proofs.Common.{◌≡◌, ◌≢◌, ◌≤◌, ◌<◌, ℕ, List, [], ◌∷◌, ◌++◌, min, refl}
use Rattle.std.proofs.Math.Nat.{le_refl, le_trans, lt_of_le_of_lt, lt_of_lt_of_le}
use Rattle.tokio.specs.Io.Moved.{Passes, PassesNothing, PassesInOrder}
use Rattle.counted_io.specs.declared.counted.TheConstants.{TURN_LIMIT}
use Rattle.counted_io.specs.declared.counted.Counted.{Counted}

-- it watches this very reader and writer, with so many turns, and no more than the limit
abbrev pub IsOver : {I : Type 0} → ℕ → I → Counted I → Type 0
IsOver turns io counted = (counted.io ≡ io) × (counted.turns ≡ min turns TURN_LIMIT)

-- These bytes passed in what is counted. No turn comes back, and where a byte passed there are fewer left.
pub record Costs {I : Type 0} (passes : Passes I) (old : Counted I) (bytes : List ℕ) (new : Counted I) : Type 0 where
  pub passed : passes old.io bytes new.io
  pub falls : new.turns ≤ old.turns
  pub counted : bytes ≢ [] → new.turns < old.turns

pub costs_nothing : {I : Type 0} (passes : Passes I) → PassesNothing passes → PassesNothing (Costs passes)
costs_nothing passes nothing w = record {
  passed = nothing w.io;
  falls = le_refl w.turns;
  counted = λ some. absurd (some refl);
}

fewer : (xs ys : List ℕ) (a b c : ℕ) → b ≤ a → (xs ≢ [] → b < a) → c ≤ b → (ys ≢ [] → c < b)
    → xs ++ ys ≢ [] → c < a
fewer [] ys a b c first _ _ second some = lt_of_lt_of_le (second some) first
fewer (x ∷ xs) ys a b c _ first second _ _ = lt_of_le_of_lt second (first (λ e. cc))

pub costs_in_order : {I : Type 0} (passes : Passes I) → PassesInOrder passes → PassesInOrder (Costs passes)
costs_in_order passes in_order a xs b ys c first second = record {
  passed = in_order a.io xs b.io ys c.io first.passed second.passed;
  falls = le_trans second.falls first.falls;
  counted = fewer xs ys a.turns b.turns c.turns first.falls first.counted second.falls second.counted;
}
