use Rattle.std.proofs.Common.{◌<◌, ℕ, List, length, arith, sym, ◌∙◌, subst}
use Rattle.std.proofs.lemmas.Grind.{text_groups}
use Rattle.std.proofs.lemmas.Iterator.Adapters.{YieldsList-from_vec}
use Rattle.std.proofs.lemmas.Iterator.Consumers.{YieldsList-turn}
use Rattle.request_data.specs.Inner.RunFields.{runs_in}
use Rattle.request_data.specs.Inner.Runs.{Run}
use Rattle.request_data.proofs.RunFieldLemmas.{field_at, runs_next}
use Rattle.request_data.proofs.RunLemmas.{any_of_run, values_of_run}
use Rattle.request_data.proofs.runs.fields_by_name.Goals as goal

pub from_data-requires : goal.from_data-requires
from_data-requires c =
    let fields = c.args.fields.items in
    let same = c.into_iter-name-iterator.ensures.into_iter_gives in
    let given = YieldsList-from_vec fields same.0 (same.1 ∙ c.args.fields.ok.0) in
    let turn =
    YieldsList-turn given c.loop-name.yielded c.loop-name.name-iterator c.loop-name.yielded_by c.next.result
    c.next.new.self (c.in-Some.name, c.in-Some.value) c.in-Some.is c.next.ensures.steps in
    (field_at fields (length c.loop-name.yielded) (c.in-Some.name, c.in-Some.value) turn.0 turn.1 c.requires).holds

pub loop-name-preserved : goal.loop-name-preserved
loop-name-preserved c =
    let fields = c.args.fields.items in
    let same = c.into_iter-name-iterator.ensures.into_iter_gives in
    let given = YieldsList-from_vec fields same.0 (same.1 ∙ c.args.fields.ok.0) in
    let turn =
    YieldsList-turn given c.loop-name.yielded c.loop-name.name-iterator c.loop-name.yielded_by c.next.result
    c.next.new.self (c.in-Some.name, c.in-Some.value) c.in-Some.is c.next.ensures.steps in
    let field =
    field_at fields (length c.loop-name.yielded) (c.in-Some.name, c.in-Some.value) turn.0 turn.1 c.requires in
    let so_far = runs_in c.loop-name.yielded in
    let run : Run = (c.in-Some.name, c.from_data.result) in
    let next = runs_next c.loop-name.yielded c.in-Some.name c.in-Some.value c.from_data.result c.from_data.ensures in
    let some : 0 < length c.from_data.result =
    subst (λ (values : List (List ℕ)). 0 < length values) (sym c.from_data.ensures) field.some in (
      λ name.
          let was = c.loop-name.invariant.0 name in
          rw (next, values_of_run name so_far run) (grind (arith, text_groups, was)),
      λ name.
          let was = c.loop-name.invariant.1 name in
          rw (next, any_of_run name so_far run some) (grind (arith, text_groups, was)),
    )
