-- One template more.
use Rattle.std.proofs.Common.{◌≡◌, ◌≤◌, ◌<◌, ◌+◌, ◌⊎◌, inl, inr, ℕ, Bool, List, []}
use Rattle.std.proofs.Common.{◌∷◌, Option, None, Some, refl, sym, ap, ◌∙◌, subst, arith}
use Rattle.std.specs.Prelude.{◌↔◌, IsTrue, IfNone, IfSome}
use Rattle.std.specs.List.{AllZip, sum_by}
use Rattle.std.specs.Option.{is_some}
use Rattle.std.proofs.lemmas.Bool.{false≢true}
use Rattle.std.proofs.lemmas.List.Sums.{sum_by-cons}
use Rattle.code_rules.specs.Polynomial.{Polynomial, value, as_printed}
use Rattle.code_rules.specs.Regions.{Budget, budget}
use Rattle.template_compile.specs.Compiled.{stack_code}
use Rattle.template_machine.specs.Program.{ProgramParts, IsProgram}
use Rattle.template_tree.proofs.Unique.{one_tree}
use Rattle.template_tree.specs.Source.{Source}
use Rattle.template_tree.specs.Grammar.{Spells}
use Rattle.stub_response.specs.Limits.{HasBudget, KeepTo}
use Rattle.stub_response.specs.declared.limits.Limits.{Limits}

pub value-as_printed : (ps : Polynomial) (n : ℕ) → value (as_printed ps) n ≡ value ps n
value-as_printed [] n = omega arith
value-as_printed (p ∷ ps) n = refl

pub budget_of :
    (p : ProgramParts) (text : Source) → p.source ≡ text → IsProgram p → HasBudget text (budget p.code)
budget_of p text same program = record {
  tree = program.tree;
  spelled = subst (λ t. Spells t program.tree) same program.spelled;
  same = ap budget program.translated;
}

one_budget : (text : Source) (a b : Budget) → HasBudget text a → HasBudget text b → a ≡ b
one_budget text a b p q =
    p.same ∙ ap (λ t. budget (stack_code t)) (one_tree text p.tree q.tree p.spelled q.spelled) ∙ sym q.same

steps_at : ℕ → Budget → ℕ
steps_at n c = value c.steps n

bytes_at : ℕ → Budget → ℕ
bytes_at n c = value c.bytes n

pub keep_one_more :
    (limits rest : Limits) (text : Source) (more : List Source) (n : ℕ) (cost : Budget) → HasBudget text cost
    → limits.steps ≡ value cost.steps n + rest.steps → limits.bytes ≡ value cost.bytes n + rest.bytes
    → KeepTo rest more n → KeepTo limits (text ∷ more) n
keep_one_more limits rest text more n cost b s t k = record {
  costs = cost ∷ k.costs;
  budgets = (b, k.budgets);
  steps =
      let e : sum_by (λ (c : Budget). value c.steps n) (cost ∷ k.costs)
      ≡ value cost.steps n + sum_by (λ (c : Budget). value c.steps n) k.costs =
      sum_by-cons (λ (c : Budget). value c.steps n) cost k.costs in omega (arith, e, s, k.steps);
  bytes =
      let e : sum_by (λ (c : Budget). value c.bytes n) (cost ∷ k.costs)
      ≡ value cost.bytes n + sum_by (λ (c : Budget). value c.bytes n) k.costs =
      sum_by-cons (λ (c : Budget). value c.bytes n) cost k.costs in omega (arith, e, t, k.bytes);
}

-- the sum's first part, where the first cost is known
first_part :
    (at : Budget → ℕ) (c cost : Budget) (costs : List Budget) (limit : ℕ) → c ≡ cost
    → sum_by at (c ∷ costs) ≤ limit → at cost + sum_by at costs ≤ limit
first_part at c cost costs limit same within =
    let e : sum_by at (c ∷ costs) ≡ at c + sum_by at costs = sum_by-cons at c costs in
    let f : at c ≡ at cost = ap at same in omega (arith, e, f, within)

-- what is left of the limits, and that the first template is within them
pub record Split (limits : Limits) (more : List Source) (n : ℕ) (cost : Budget) : Type 0 where
  pub costs : List Budget
  pub budgets : AllZip HasBudget more costs
  pub steps : value cost.steps n + sum_by (λ (c : Budget). value c.steps n) costs ≤ limits.steps
  pub bytes : value cost.bytes n + sum_by (λ (c : Budget). value c.bytes n) costs ≤ limits.bytes

split_costs :
    (limits : Limits) (text : Source) (more : List Source) (n : ℕ) (cost : Budget) → HasBudget text cost
    → (costs : List Budget) → AllZip HasBudget (text ∷ more) costs
    → sum_by (λ (c : Budget). value c.steps n) costs ≤ limits.steps
    → sum_by (λ (c : Budget). value c.bytes n) costs ≤ limits.bytes → Split limits more n cost
split_costs limits text more n cost b [] h p q = absurd h
split_costs limits text more n cost b (c ∷ costs) h p q =
    let same : c ≡ cost = one_budget text c cost h.0 b in
    record {
      costs = costs;
      budgets = h.1;
      steps = first_part (λ (c : Budget). value c.steps n) c cost costs limits.steps same p;
      bytes = first_part (λ (c : Budget). value c.bytes n) c cost costs limits.bytes same q;
    }

split :
    (limits : Limits) (text : Source) (more : List Source) (n : ℕ) (cost : Budget) → HasBudget text cost
    → KeepTo limits (text ∷ more) n → Split limits more n cost
split limits text more n cost b k = split_costs limits text more n cost b k.costs k.budgets k.steps k.bytes

pub keep_rest :
    (limits rest : Limits) (text : Source) (more : List Source) (n : ℕ) (cost : Budget) → HasBudget text cost
    → limits.steps ≡ value cost.steps n + rest.steps → limits.bytes ≡ value cost.bytes n + rest.bytes
    → KeepTo limits (text ∷ more) n → KeepTo rest more n
keep_rest limits rest text more n cost b s t k =
    let h = split limits text more n cost b k in
    record {
      costs = h.costs;
      budgets = h.budgets;
      steps = omega (arith, h.steps, s);
      bytes = omega (arith, h.bytes, t);
    }

pub too_much :
    (limits : Limits) (text : Source) (more : List Source) (n : ℕ) (cost : Budget) → HasBudget text cost
    → (limits.steps < value cost.steps n) ⊎ (limits.bytes < value cost.bytes n)
    → ¬ (KeepTo limits (text ∷ more) n)
too_much limits text more n cost b over k = out over (split limits text more n cost b k)
  where
    out :
        (limits.steps < value cost.steps n) ⊎ (limits.bytes < value cost.bytes n) → Split limits more n cost → ⊥
    out (inl o) h = omega (arith, o, h.steps)
    out (inr o) h = omega (arith, o, h.bytes)

pub keep_none : (limits : Limits) (n : ℕ) → KeepTo limits [] n
keep_none limits n = record { costs = []; budgets = tt; steps = omega arith; bytes = omega arith }

-- the last template decides
pub last_decides :
    (left : Option Limits) (limits rest : Limits) (text : Source) (texts : List Source) (n : ℕ) (answer : Bool)
    → answer ≡ is_some left
    → IfNone left ((more : List Source) → ¬ (KeepTo rest (text ∷ more) n))
    → IfSome left (λ less. (more : List Source) → KeepTo less more n ↔ KeepTo rest (text ∷ more) n)
    → (KeepTo rest (text ∷ []) n ↔ KeepTo limits texts n) → IsTrue answer ↔ KeepTo limits texts n
last_decides None limits rest text texts n answer e none some kept =
    (λ h. absurd (false≢true (sym e ∙ h)), λ k. absurd (none [] (kept.1 k)))
last_decides (Some less) limits rest text texts n answer e none some kept =
    (λ h. kept.0 ((some []).0 (keep_none less n)), λ k. e)
