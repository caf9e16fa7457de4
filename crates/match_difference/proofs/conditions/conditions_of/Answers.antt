use Rattle.std.proofs.Common.{◌≡◌, ◌++◌, ◌∙◌, [], List, ap, append_assoc, map}
use Rattle.match_difference.specs.Conditions.{method_conditions, url_conditions, parameter_conditions}
use Rattle.match_difference.specs.Conditions.{scenario_conditions}
use Rattle.match_difference.specs.declared.condition.Condition.TheVariants as condition
use Rattle.match_difference.specs.declared.condition.Source.TheVariants.{Header, Query, Cookie}
use Rattle.match_difference.proofs.conditions.conditions_of.Goals as goal

-- what was appended, with what comes after it
back : {X : Type 0} (old new more rest : List X) → new ≡ old ++ more → new ++ rest ≡ old ++ (more ++ rest)
back old new more rest e = ap (λ l. l ++ rest) e ∙ append_assoc old more rest

-- eight lists, appended one after the other to nothing
joined : {X : Type 0} (l0 l1 l2 l3 l4 l5 l6 l7 l8 a b d e f g h i : List X) → l0 ≡ [] → l1 ≡ l0 ++ a
    → l2 ≡ l1 ++ b → l3 ≡ l2 ++ d → l4 ≡ l3 ++ e → l5 ≡ l4 ++ f → l6 ≡ l5 ++ g → l7 ≡ l6 ++ h → l8 ≡ l7 ++ i
    → l8 ≡ a ++ (b ++ (d ++ (e ++ (f ++ (g ++ (h ++ i))))))
joined l0 l1 l2 l3 l4 l5 l6 l7 l8 a b d e f g h i e0 e1 e2 e3 e4 e5 e6 e7 e8 =
    e8 ∙ (back l6 l7 h i e7 ∙ (back l5 l6 g (h ++ i) e6 ∙ (back l4 l5 f (g ++ (h ++ i)) e5
    ∙ (back l3 l4 e (f ++ (g ++ (h ++ i))) e4 ∙ (back l2 l3 d (e ++ (f ++ (g ++ (h ++ i)))) e3
    ∙ (back l1 l2 b (d ++ (e ++ (f ++ (g ++ (h ++ i))))) e2
    ∙ (back l0 l1 a (b ++ (d ++ (e ++ (f ++ (g ++ (h ++ i)))))) e1
    ∙ ap (λ l. l ++ (a ++ (b ++ (d ++ (e ++ (f ++ (g ++ (h ++ i)))))))) e0)))))))

pub returns : goal.returns
returns c =
    let mapping = c.args.mapping.now in
    let wanted = mapping.request in
    joined c.new-list.result.items c.push_method.new.list.items c.push_url.new.list.items
    c.push_values.new.list.items c.push_values-2.new.list.items c.push_values-3.new.list.items
    c.push_parameters.new.list.items c.push_body.new.list.items c.push_scenario.new.list.items
    (method_conditions wanted.method) (url_conditions wanted.url)
    (map (λ m. condition.Value Header m) wanted.headers) (map (λ m. condition.Value Query m) wanted.query)
    (map (λ m. condition.Value Cookie m) wanted.cookies) (parameter_conditions wanted.url)
    (map (λ p. condition.Body p) wanted.body) (scenario_conditions mapping.scenario)
    c.new-list.ensures.items c.in_ok-push_method.ensures c.in_ok-push_url.ensures
    (c.in_ok-push_values.ensures
    ∙ ap (λ ms. c.push_url.new.list.items ++ map (λ m. condition.Value Header m) ms) c.as_slice.ensures)
    (c.in_ok-push_values-2.ensures
    ∙ ap (λ ms. c.push_values.new.list.items ++ map (λ m. condition.Value Query m) ms) c.as_slice-2.ensures)
    (c.in_ok-push_values-3.ensures
    ∙ ap (λ ms. c.push_values-2.new.list.items ++ map (λ m. condition.Value Cookie m) ms) c.as_slice-3.ensures)
    c.in_ok-push_parameters.ensures
    (c.in_ok-push_body.ensures
    ∙ ap (λ ps. c.push_parameters.new.list.items ++ map (λ p. condition.Body p) ps) c.as_slice-4.ensures)
    c.in_ok-push_scenario.ensures
