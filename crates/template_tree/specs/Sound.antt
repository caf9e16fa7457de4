-- What is always so of the tree of a template, where that many loops are open.
use Rattle.std.specs.Prelude.{ℕ, suc, ◌<◌, ◌≤◌, length}
use Rattle.template_tags.specs.Expression.{Expression}
use Rattle.template_tags.specs.Sound.{IsSoundDatum, IsSoundExpression, IsSoundValue}
use Rattle.template_tags.specs.declared.expression.Datum.{Datum}
use Rattle.template_tags.specs.declared.level.TheConstants.{LOOP_LIMIT}
use Rattle.template_tree.specs.declared.parser.TheConstants.{TEXT_LIMIT}
use Rattle.template_tree.specs.Tree.{Node, piece, print, if_then, if_else, each, each_else, Nodes, no_nodes, first_node}

-- no text in a tag is longer than a template
abbrev pub SoundDatum : ℕ → Datum → Type 0
SoundDatum loops d = IsSoundDatum TEXT_LIMIT loops d

abbrev pub SoundExpression : ℕ → Expression → Type 0
SoundExpression loops e = IsSoundExpression TEXT_LIMIT loops e

abbrev pub SoundValue : ℕ → Expression → Type 0
SoundValue loops e = IsSoundValue TEXT_LIMIT loops e

abbrev mutual
  pub SoundNode : ℕ → Node → Type 0
  SoundNode loops (piece bytes) = length bytes ≤ TEXT_LIMIT
  SoundNode loops (print escape e) = SoundValue loops e
  SoundNode loops (if_then unless test body) = SoundValue loops test × SoundNodes loops body
  SoundNode loops (if_else unless test body otherwise) =
      SoundValue loops test × SoundNodes loops body × SoundNodes loops otherwise
  SoundNode loops (each over body) = SoundDatum loops over × (loops < LOOP_LIMIT) × SoundNodes (suc loops) body
  SoundNode loops (each_else over body otherwise) =
      SoundDatum loops over × (loops < LOOP_LIMIT) × SoundNodes (suc loops) body × SoundNodes loops otherwise

  pub SoundNodes : ℕ → Nodes → Type 0
  SoundNodes loops no_nodes = Unit {0}
  SoundNodes loops (first_node node nodes) = SoundNode loops node × SoundNodes loops nodes
