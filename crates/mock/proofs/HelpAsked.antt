-- Arguments that the code takes for a call for help are one.
use Rattle.std.proofs.Common.{◌≡◌, ℕ, List, [], ◌∷◌, true, inl, inr, ap, codes}
use Rattle.std.proofs.lemmas.Bool.{false≢true}
use Rattle.std.proofs.lemmas.Slice.Eq.{bytes_eq-Decides}
use Rattle.mock.specs.CommandLine.{AskToHelp}
use Rattle.mock.specs.Inner.Arguments.{ask_to_help}

pub help_asked : (arguments : List (List ℕ)) → ask_to_help arguments ≡ true → AskToHelp arguments
help_asked [] e = absurd (false≢true e)
help_asked (program ∷ []) e = absurd (false≢true e)
help_asked (program ∷ command ∷ []) e =
    (program, inl (ap (λ word. program ∷ word ∷ []) ((bytes_eq-Decides command (codes "help")).0 e)))
help_asked (program ∷ command ∷ name ∷ []) e = (
  program,
  inr (
    name,
    ap (λ word. program ∷ word ∷ name ∷ []) ((bytes_eq-Decides command (codes "help")).0 e),
  ),
)
help_asked (program ∷ command ∷ name ∷ next ∷ rest) e = absurd (false≢true e)
