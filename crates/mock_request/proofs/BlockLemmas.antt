-- Blocks of byte strings: one more at the end, and the one at an index.
use Rattle.std.proofs.Common.{◌≡◌, ℕ, zero, suc, ◌+◌, ◌-◌, ◌<◌, ◌≤◌, refl, ap, arith}
use Rattle.std.proofs.Common.{List, [], ◌∷◌, ◌++◌, length, drop, get_or, length-drop}
use Rattle.std.proofs.lemmas.List.{drop-append-le, take-append-le, take_all, drop_all}
use Rattle.std.specs.Prelude.{slice_range}
use Rattle.mock_request.specs.Inner.Block.{parts_from, start_at, AreEnds}

pub start-le : (start : ℕ) (ends : List ℕ) (total : ℕ) → AreEnds start ends total → start ≤ total
start-le start [] total h = omega (arith, h)
start-le start (end ∷ ends) total h = omega (arith, h.0, start-le end ends total h.1)

-- one more end
pub AreEnds-append : (start : ℕ) (ends : List ℕ) (total more : ℕ) → AreEnds start ends total
    → AreEnds start (ends ++ (total + more) ∷ []) (total + more)
AreEnds-append start [] total more h = (omega (arith, h), refl)
AreEnds-append start (end ∷ ends) total more h = (h.0, AreEnds-append end ends total more h.1)

-- a part of what was there is a part of what is longer
range-append : (bytes more : List ℕ) (start end : ℕ) → start ≤ end → end ≤ length bytes
    → slice_range (bytes ++ more) start end ≡ slice_range bytes start end
range-append bytes more start end s e =
    rw (drop-append-le start bytes more (omega arith))
    (take-append-le (end - start) (drop start bytes) more (simp length-drop (omega arith)))

range-last : (bytes more : List ℕ)
    → slice_range (bytes ++ more) (length bytes) (length bytes + length more) ≡ more
range-last bytes more =
    rw (drop-append-le (length bytes) bytes more (omega arith), drop_all (length bytes) bytes (omega arith))
    (take_all (length bytes + length more - length bytes) more (omega arith))

-- one more part
pub parts-append : (start : ℕ) (ends bytes part : List ℕ) → AreEnds start ends (length bytes)
    → parts_from start (ends ++ (length bytes + length part) ∷ []) (bytes ++ part)
    ≡ parts_from start ends bytes ++ part ∷ []
parts-append start [] bytes part h = rw h (ap (λ p. p ∷ []) (range-last bytes part))
parts-append start (end ∷ ends) bytes part h =
    let e = range-append bytes part start end h.0 (start-le end ends (length bytes) h.1) in
    let es = parts-append end ends bytes part h.1 in
    cc

pub length_parts : (start : ℕ) (ends bytes : List ℕ) → length (parts_from start ends bytes) ≡ length ends
length_parts start [] bytes = refl
length_parts start (end ∷ ends) bytes = ap suc (length_parts end ends bytes)

-- the ends of the part at an index
pub bounds : (start : ℕ) (ends : List ℕ) (total index : ℕ) → AreEnds start ends total → index < length ends
    → (start_at start ends index ≤ get_or ends index 0) × (get_or ends index 0 ≤ total)
bounds start [] total index h i = absurd (omega arith)
bounds start (end ∷ ends) total zero h i = (h.0, start-le end ends total h.1)
bounds start (end ∷ ends) total (suc zero) h i = bounds end ends total zero h.1 (omega arith)
bounds start (end ∷ ends) total (suc (suc index)) h i = bounds end ends total (suc index) h.1 (omega arith)

-- the part at an index
pub part_at : (start : ℕ) (ends bytes : List ℕ) (index : ℕ) → index < length ends
    → get_or (parts_from start ends bytes) index []
    ≡ slice_range bytes (start_at start ends index) (get_or ends index 0)
part_at start [] bytes index i = absurd (omega arith)
part_at start (end ∷ ends) bytes zero i = refl
part_at start (end ∷ ends) bytes (suc zero) i = part_at end ends bytes zero (omega arith)
part_at start (end ∷ ends) bytes (suc (suc index)) i = part_at end ends bytes (suc index) (omega arith)
