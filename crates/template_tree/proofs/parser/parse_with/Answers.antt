use Rattle.std.proofs.Common.{IfOk, IfErr, rules, arith}
use Rattle.template_tree.specs.Grammar.{Spells, IsParseError}
use Rattle.template_tree.specs.Source.{with_escape}
use Rattle.template_tree.specs.Template.{tree_of}
use Rattle.template_tree.proofs.Unique.{every_tree, every_error}
use Rattle.template_tree.proofs.parser.parse_with.Goals as goal

pub returns : goal.returns
returns c =
    let source = with_escape c.args.escape c.args.text.now in
    let read = c.read_template.result in
    let found : IfOk read (λ template. Spells source (tree_of template)) = search rules in
    let wrong : IfErr read (IsParseError source.text) = search rules in
    record {
      found = found;
      wrong = wrong;
      too_long = λ long. absurd (omega (arith, long));
      every_tree = λ tree h. every_tree source read found wrong tree h;
      every_error = λ error h. every_error source read found wrong error h;
    }
