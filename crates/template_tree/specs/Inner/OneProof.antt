-- That a tree is sound has at most one proof, which a ghost field asks of its fact.
use Rattle.std.specs.Prelude.{ℕ, suc}
use Rattle.std.specs.Coded.{×_prop, Unit-prop}
use Rattle.std.proofs.Props.{props}
use Rattle.template_tags.specs.Inner.OneProof.{IsSoundDatum-prop, IsSoundValue-prop}
use Rattle.template_tree.specs.declared.parser.TheConstants.{TEXT_LIMIT}
use Rattle.template_tree.specs.Sound.{SoundNode, SoundNodes}
use Rattle.template_tree.specs.Tree.{Node, piece, print, if_then, if_else, each, each_else, Nodes, no_nodes, first_node}

mutual
  SoundNode-prop : (loops : ℕ) (n : Node) → IsProp (SoundNode loops n)
  SoundNode-prop loops (piece bytes) = Prim.hlevel props
  SoundNode-prop loops (print escape e) = IsSoundValue-prop TEXT_LIMIT loops e
  SoundNode-prop loops (if_then unless test body) =
      ×_prop (IsSoundValue-prop TEXT_LIMIT loops test) (SoundNodes-prop loops body)
  SoundNode-prop loops (if_else unless test body otherwise) =
      Prim.hlevel (
        IsSoundValue-prop TEXT_LIMIT loops test,
        SoundNodes-prop loops body,
        SoundNodes-prop loops otherwise,
      )
  SoundNode-prop loops (each over body) =
      Prim.hlevel (IsSoundDatum-prop TEXT_LIMIT loops over, SoundNodes-prop (suc loops) body, props)
  SoundNode-prop loops (each_else over body otherwise) =
      Prim.hlevel (
        IsSoundDatum-prop TEXT_LIMIT loops over,
        SoundNodes-prop (suc loops) body,
        SoundNodes-prop loops otherwise,
        props,
      )

  pub SoundNodes-prop : (loops : ℕ) (ns : Nodes) → IsProp (SoundNodes loops ns)
  SoundNodes-prop loops no_nodes = Unit-prop
  SoundNodes-prop loops (first_node n ns) = ×_prop (SoundNode-prop loops n) (SoundNodes-prop loops ns)
