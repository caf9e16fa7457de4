-- The `../` at the front of a word, taken off one by one.
use Rattle.std.proofs.Common.{◌≡◌, ℕ, ◌+◌, true, false, ◌&&◌, ◌==◌, List, [], ◌∷◌, drop, refl, codes}
use Rattle.std.proofs.lemmas.Bool.{and_parts, false≢true}
use Rattle.template_words.specs.Bytes.{dot}
use Rattle.template_words.specs.Marks.{begins}
use Rattle.template_words.specs.PathReads.{reference_from, reference_below}

pub climb_yes : (depth : ℕ) (s : List ℕ) → begins (codes "../") s ≡ true
    → reference_from depth s ≡ reference_from (depth + 1) (drop 3 s)
unfolding reference_from
climb_yes depth [] h = absurd (false≢true h)
climb_yes depth (a ∷ []) h = absurd (false≢true (and_parts (dot == a) false h).1)
climb_yes depth (a ∷ b ∷ []) h =
    absurd (false≢true (and_parts (dot == b) false (and_parts (dot == a) ((dot == b) && false) h).1).1)
climb_yes depth (a ∷ b ∷ c ∷ s) h = rw h refl

pub climb_no : (depth : ℕ) (s : List ℕ) → begins (codes "../") s ≡ false
    → reference_from depth s ≡ reference_below depth s
unfolding reference_from
climb_no depth [] h = refl
climb_no depth (a ∷ []) h = refl
climb_no depth (a ∷ b ∷ []) h = refl
climb_no depth (a ∷ b ∷ c ∷ s) h = rw h refl
