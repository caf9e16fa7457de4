use Rattle.std.proofs.Common.{◌≡◌, ◌∙◌, ◌++◌, ◌∷◌, [], List, ap, append_assoc, arith, length, map, refl, subst, sym}
use Rattle.std.proofs.lemmas.List.{append-nil}
use Rattle.std.specs.Vec.Iter.{into_iter_items}
use Rattle.match_difference.proofs.UnmetLemmas.{none_left}
use Rattle.match_difference.specs.declared.difference.Difference.{Difference}
use Rattle.match_difference.proofs.difference.each_with_found.Goals as goal

pub loop-condition-preserved : goal.loop-condition-preserved
loop-condition-preserved c =
    let l = c.loop-condition in
    let x = c.in-Some.condition in
    let rest = into_iter_items c.next.new.self in
    let old = map (λ (d : Difference). d.condition) l.list.items in
    let steps = c.in-Some.ensures.steps in
    record {
      counted = omega (arith, l.invariant.counted, steps.1, ap length steps.0);
      whole =
          ap (λ cs. cs ++ rest) c.in_ok-push_found.ensures
          ∙ (append_assoc old (x ∷ []) rest ∙ (ap (λ cs. old ++ cs) (sym steps.0) ∙ l.invariant.whole));
    }

pub returns : goal.returns
returns c =
    let l = c.loop-condition in
    let old = map (λ (d : Difference). d.condition) l.list.items in
    let left = none_left (into_iter_items l.condition-iterator)
    (sym l.invariant.counted ∙ c.in-None.ensures.steps.0) in
    sym (append-nil old) ∙ (ap (λ cs. old ++ cs) (sym left) ∙ l.invariant.whole)
