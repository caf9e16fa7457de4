use Rattle.template_tree.specs.Source.{with_escape}
use Rattle.template_tree.specs.Tree.{nodes_view}
use Rattle.template_tree.proofs.SoundTrees.{spelled_is_sound}
use Rattle.template_tree.proofs.parser.read_template.Goals as goal

pub new-requires : goal.new-requires
new-requires c =
    spelled_is_sound (with_escape c.args.escape c.args.text.now)
    (nodes_view c.in_ok-nodes.nodes.items) c.in_ok-nodes.ensures
