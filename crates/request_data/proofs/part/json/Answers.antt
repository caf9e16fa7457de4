use Rattle.std.proofs.Common.{◌≡◌, ℕ, Bool, true, false, cond, List, [], length, sym, ap, ◌∙◌}
use Rattle.std.specs.Prelude.{unwrap_or}
use Rattle.std.proofs.lemmas.Bool.{eqb-true}
use Rattle.std.proofs.lemmas.List.{nil_from_length}
use Rattle.data_tree.specs.Tree.{Tree, nothing}
use Rattle.json_bridge.specs.Part.{part}
use Rattle.json_bridge.proofs.Vectors.{are_texts}
use Rattle.needed_data.specs.Needed.{is_json_needed}
use Rattle.request_data.specs.RequestTree.{json_tree}
use Rattle.request_data.proofs.TreeLemmas.{view-Nothing}
use Rattle.request_data.proofs.part.json.Goals as goal

-- the part of nothing is nothing
nothing_part : (all : Bool) (names : List (List ℕ)) (value : Tree) → value ≡ nothing
    → cond all value (part names value) ≡ nothing
nothing_part true names value none = none
nothing_part false names value none = ap (part names) none

-- an empty text is no JSON
pub returns-then-is_empty-clause-tree : goal.returns-then-is_empty-clause-tree
returns-then-is_empty-clause-tree c =
    let text = c.args.text.now in
    let none : text ≡ [] =
    nil_from_length text (eqb-true (length text) 0 (sym c.is_empty.ensures ∙ c.if-is_empty.true)) in
    let no_tree : json_tree text ≡ nothing = ap json_tree none ∙ ap (λ found. unwrap_or found nothing)
    are_texts.no_text in
    view-Nothing ∙ sym (nothing_part (is_json_needed c.args.needed.now) c.args.needed.now.json_names
    (json_tree text) no_tree)
