-- What comes before the rest of the texts was written.
use Rattle.std.proofs.Common.{◌≡◌, ℕ, List, ◌++◌, drop}
use Rattle.std.specs.Prelude.{flat_map}
use Rattle.std.specs.Io.KnownBytes.{Appends}
use Rattle.command_output.proofs.output.put_all.Given as goal

abbrev pub invariant-loop-text : goal.invariant-loop-text
invariant-loop-text g l =
    (front : List ℕ)
    × (flat_map (λ text. text.now) l.texts ≡ front ++ flat_map (λ text. text.now) (drop l.text-index l.texts))
    × Appends (g.W.Write.contents l.initial.out) (g.W.Write.contents l.out) front
