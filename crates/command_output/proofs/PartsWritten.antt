-- What is written piece by piece.
use Rattle.std.proofs.Common.{◌≡◌, ℕ, ◌-◌, List, [], ◌∷◌, ◌++◌, Option, refl, sym, ap, ◌∙◌}
use Rattle.std.proofs.Common.{length, take, drop, append_assoc, take-append-drop}
use Rattle.std.proofs.lemmas.List.{take_rest}
use Rattle.std.specs.Io.KnownBytes.{Appends}
use Rattle.std.proofs.KnownBytes.{Appends-nil, Appends-trans}
use Rattle.std.specs.Prelude.{Result, Ok, Err}
use Rattle.command_output.specs.Output.{AppendsPart, Continues, Followed, Writes}

-- n bytes of the rest were written, too; a slice from n on is its last `length rest - n` bytes
pub one_piece_more : (all done rest : List ℕ) (n : ℕ) → all ≡ done ++ rest
    → all ≡ (done ++ take n rest) ++ take (length rest - n) (drop n rest)
one_piece_more all done rest n e =
    e ∙ ap (λ l. done ++ l) (sym (take-append-drop n rest)) ∙ sym (append_assoc done (take n rest) (drop n rest))
    ∙ ap (λ l. (done ++ take n rest) ++ l) (sym (take_rest rest n))

-- all of the bytes were written, or a front part of them
pub continued : {T E : Type 0} (r : Result T E) (old new : Option (List ℕ)) (bytes : List ℕ)
    → Writes r old new bytes → Continues old new
continued (Ok done) old new bytes written = (bytes, written)
continued (Err error) old new bytes part = (part.front, part.written)

-- what was done, and then more; or nothing more
pub followed : {W : Type 0} (holds : W → Option (List ℕ)) (done : W → Type 0) (middle new : W) → done middle
    → Continues (holds middle) (holds new) → Followed holds done new
followed holds done middle new was more = (middle, was, more)

pub alone : {W : Type 0} (holds : W → Option (List ℕ)) (done : W → Type 0) (new : W) → done new
    → Followed holds done new
alone holds done new was = (new, was, ([], Appends-nil (holds new)))

-- what follows from what was done
pub followed_map : {W : Type 0} (holds : W → Option (List ℕ)) (done done' : W → Type 0) (new : W)
    → ((middle : W) → done middle → done' middle) → Followed holds done new → Followed holds done' new
followed_map holds done done' new f (middle, was, more) = (middle, f middle was, more)

front_is_empty : (xs ys : List ℕ) → xs ++ ys ≡ [] → xs ≡ []
front_is_empty [] ys e = refl
front_is_empty (x ∷ xs) ys e = cc

-- some was written, then a part of what comes next: that is a part of the whole
pub part_after : (a b c : Option (List ℕ)) (all done bytes more : List ℕ) → Appends a b done
    → AppendsPart b c bytes → all ≡ done ++ (bytes ++ more) → AppendsPart a c all
part_after a b c all done bytes more p q e = record {
  front = done ++ q.front;
  rest = q.rest ++ more;
  split =
      e ∙ ap (λ l. done ++ (l ++ more)) q.split ∙ ap (λ l. done ++ l) (append_assoc q.front q.rest more) ∙ sym
      (append_assoc done q.front (q.rest ++ more));
  left = λ h. q.left (front_is_empty q.rest more h);
  written = Appends-trans a b c done q.front p q.written;
}
