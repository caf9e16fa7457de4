use Rattle.template_tree.proofs.Pieces as pieces
use Rattle.template_tree.proofs.laws.law_piece_ends_at_next_mark.Goals as goal

pub returns : goal.returns
returns c = λ levels text p rest e. pieces.whole_piece levels text p rest e
