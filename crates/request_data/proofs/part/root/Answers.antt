use Rattle.std.proofs.Common.{◌≡◌, false, option_copied, ap, subst, sym, ◌∙◌, codes}
use Rattle.data_tree.specs.Tree.{fields}
use Rattle.data_tree.specs.WellFormed.{IsWellFormed}
use Rattle.request_data.specs.Part.{is_json_part_needed}
use Rattle.request_data.proofs.PartLemmas.{with_json, without_json, part_well_formed}
use Rattle.request_data.proofs.TreeLemmas.{entry_more, members_from, members_of_entries}
use Rattle.request_data.proofs.part.root.Goals as goal

pub returns-then-not-has_json_part-clause-tree : goal.returns-then-not-has_json_part-clause-tree
returns-then-not-has_json_part-clause-tree c =
    let all = entry_more (codes "request") c.in_ok-push.ensures c.in_ok-root.ensures c.in_ok-request.ensures in
    c.into_data.ensures
    ∙ ap fields (members_of_entries c.push.new.self.fields.items ∙ ap members_from all)
    ∙ without_json c.args.needed.now c.args.snapshot.now (option_copied c.args.template)
    (sym c.has_json_part.ensures ∙ c.if-not-has_json_part.true)

pub returns-then-not-has_json_part-clause-well_formed : goal.returns-then-not-has_json_part-clause-well_formed
returns-then-not-has_json_part-clause-well_formed c =
    let none : is_json_part_needed c.args.needed.now ≡ false = sym c.has_json_part.ensures ∙
    c.if-not-has_json_part.true in
    subst IsWellFormed (sym (returns-then-not-has_json_part-clause-tree c))
    (part_well_formed c.args.needed.now c.args.snapshot.now (option_copied c.args.template)
    (λ asked. absurd (cc)))

pub returns-clause-tree : goal.returns-clause-tree
returns-clause-tree c =
    let json =
    entry_more (codes "json") c.in_ok-push-2.ensures c.in_ok-root-2.ensures c.in_ok-json_of_body.ensures.tree in
    let all = entry_more (codes "request") c.in_ok-push-3.ensures json c.in_ok-request-2.ensures in
    c.into_data-2.ensures
    ∙ ap fields (members_of_entries c.push-3.new.self.fields.items ∙ ap members_from all)
    ∙ with_json c.args.needed.now c.args.snapshot.now (option_copied c.args.template)
    (sym c.has_json_part.ensures ∙ c.if-not-has_json_part.false)

pub returns-clause-well_formed : goal.returns-clause-well_formed
returns-clause-well_formed c =
    subst IsWellFormed (sym (returns-clause-tree c))
    (part_well_formed c.args.needed.now c.args.snapshot.now (option_copied c.args.template)
    (λ _. subst IsWellFormed c.in_ok-json_of_body.ensures.tree c.in_ok-json_of_body.ensures.well_formed))
