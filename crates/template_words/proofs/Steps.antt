-- Steps that are read one after the other.
use Rattle.std.proofs.Common.{List, ◌++◌, Result, Ok, Err}
use Rattle.data_tree.specs.declared.step.Step.{Step}
use Rattle.template_words.specs.declared.error.TagError.{TagError}

-- steps that were read before
abbrev pub with_front : List Step → Result (List Step) TagError → Result (List Step) TagError
with_front front (Ok steps) = Ok (front ++ steps)
with_front front (Err f) = Err f
