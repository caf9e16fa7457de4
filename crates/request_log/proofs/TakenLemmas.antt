-- What templates may take together, one after another.
use Rattle.std.proofs.Common.{◌≡◌, ◌+◌, ◌⊎◌, ℕ, List, [], ◌∷◌, None, Option, Some, ap, inl, inr, refl, subst, arith}
use Rattle.std.specs.Prelude.{IfSome}
use Rattle.std.specs.List.{sum_by}
use Rattle.std.proofs.lemmas.List.Sums.{sum_by-cons}
use Rattle.code_rules.specs.Polynomial.{value}
use Rattle.code_rules.specs.Regions.{Budget}
use Rattle.mapping_model.specs.declared.response_spec.Body.{Body}
use Rattle.mapping_model.specs.declared.response_spec.Body.TheVariants as body
use Rattle.request_log.specs.Taken.{MayTake, MayTakeMore}
use Rattle.request_log.specs.declared.over_budget.Taken.{Taken}
use Rattle.stub_response.specs.Response.{body_templates}
use Rattle.template_tree.specs.Source.{Source}

pub takes_none : (n : ℕ) → MayTake [] n 0 0
takes_none n = record { costs = []; budgets = tt; steps_are = refl; bytes_are = refl }

takes_first : (template : Source) (more : List Source) (n steps bytes steps' bytes' x y : ℕ)
    → (one : MayTakeMore template n steps bytes steps' bytes') → MayTake more n x y
    → MayTake (template ∷ more) n (value one.cost.steps n + x) (value one.cost.bytes n + y)
takes_first template more n steps bytes steps' bytes' x y one rest = record {
  costs = one.cost ∷ rest.costs;
  budgets = (one.budget, rest.budgets);
  steps_are =
      let e : sum_by (λ (c : Budget). value c.steps n) (one.cost ∷ rest.costs)
      ≡ value one.cost.steps n + sum_by (λ (c : Budget). value c.steps n) rest.costs =
      sum_by-cons (λ (c : Budget). value c.steps n) one.cost rest.costs in omega (arith, e, rest.steps_are);
  bytes_are =
      let e : sum_by (λ (c : Budget). value c.bytes n) (one.cost ∷ rest.costs)
      ≡ value one.cost.bytes n + sum_by (λ (c : Budget). value c.bytes n) rest.costs =
      sum_by-cons (λ (c : Budget). value c.bytes n) one.cost rest.costs in omega (arith, e, rest.bytes_are);
}

-- Where those before a template may take so much, and all of them so much more than those from it on, it is likewise after
-- the template.
pub takes_more : (template : Source) (more all : List Source) (n steps bytes steps' bytes' : ℕ)
    → MayTakeMore template n steps bytes steps' bytes'
    → ((x y : ℕ) → MayTake (template ∷ more) n x y → MayTake all n (steps + x) (bytes + y))
    → (x y : ℕ) → MayTake more n x y → MayTake all n (steps' + x) (bytes' + y)
takes_more template more all n steps bytes steps' bytes' one so_far x y rest =
    let whole = so_far (value one.cost.steps n + x) (value one.cost.bytes n + y)
    (takes_first template more n steps bytes steps' bytes' x y one rest) in
    let same_steps : steps + (value one.cost.steps n + x) ≡ steps' + x = omega (arith, one.steps_are) in
    let same_bytes : bytes + (value one.cost.bytes n + y) ≡ bytes' + y = omega (arith, one.bytes_are) in
    subst (λ (m : ℕ). MayTake all n (steps' + x) m) same_bytes
    (subst (λ (m : ℕ). MayTake all n m (bytes + (value one.cost.bytes n + y))) same_steps whole)

-- after the last one
pub takes_all : (all : List Source) (n steps bytes : ℕ)
    → ((x y : ℕ) → MayTake [] n x y → MayTake all n (steps + x) (bytes + y)) → MayTake all n steps bytes
takes_all all n steps bytes so_far =
    let whole = so_far 0 0 (takes_none n) in
    let same_steps : steps + 0 ≡ steps = omega arith in
    let same_bytes : bytes + 0 ≡ bytes = omega arith in
    subst (λ (m : ℕ). MayTake all n steps m) same_bytes
    (subst (λ (m : ℕ). MayTake all n m (bytes + 0)) same_steps whole)

-- after the last one, where there is a template in the body
pub takes_last : (result : Option Taken) (template : Source) (all : List Source) (n steps bytes : ℕ)
    → IfSome result (λ both. MayTakeMore template n steps bytes both.steps both.bytes)
    → ((x y : ℕ) → MayTake (template ∷ []) n x y → MayTake all n (steps + x) (bytes + y))
    → IfSome result (λ taken. MayTake all n taken.steps taken.bytes)
takes_last None template all n steps bytes more so_far = more
takes_last (Some both) template all n steps bytes more so_far =
    takes_all all n both.steps both.bytes
    (takes_more template [] all n steps bytes both.steps both.bytes more so_far)

-- a body without a template
pub no_template : (content : Body Source)
    → (content ≡ body.Empty) ⊎ (((text : List ℕ) × (content ≡ body.Json text))
    ⊎ ((octets : List ℕ) × (content ≡ body.Base64 octets)))
    → body_templates content ≡ []
no_template content (inl is) = ap body_templates is
no_template content (inr (inl (text, is))) = ap body_templates is
no_template content (inr (inr (octets, is))) = ap body_templates is
