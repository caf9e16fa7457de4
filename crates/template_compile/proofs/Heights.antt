-- How heavy the values of expressions are, by how deep their calls are nested.
use Rattle.std.specs.Bool.{IsTrue}
use Rattle.std.proofs.Common.{true≢false, ◌≡◌, ℕ, zero, suc, ◌+◌, ◌*◌, ◌-◌, ◌≤◌, List, ◌∷◌, length, take, sym, subst}
use Rattle.std.proofs.Common.{arith}
use Rattle.std.specs.Prelude.{max}
use Rattle.helper_set.specs.Helpers.{argument_kinds}
use Rattle.helper_set.specs.declared.helper.Helper.{Helper}
use Rattle.helper_set.specs.declared.helper.Helper.TheVariants.{Upper, Lower, Trim, Size, Eq, Neq, Contains, Not}
use Rattle.helper_set.specs.declared.helper.Helper.TheVariants.{Base64, UrlEncode, DefaultIfEmpty, JsonPath}
use Rattle.code_rules.specs.Bounds.{Bound}
use Rattle.code_rules.specs.Costs.{helper_bound}
use Rattle.code_rules.proofs.LightFacts.{light-call}
use Rattle.code_rules.proofs.TotalFacts.{total, AllLight}
use Rattle.template_tags.specs.Sound.{takes_one, takes_two}

-- the total of the bound of an expression's value, at most, by the depth of its calls: each makes a text at most three
-- times as long, and a template has no text of more than 65,536 bytes
abbrev pub cap : ℕ → ℕ
cap zero = 65536
cap (suc depth) = 3 * cap depth

pub cap-some : (depth : ℕ) → 65536 ≤ cap depth
cap-some zero = omega arith
cap-some (suc depth) = omega (arith, cap-some depth)

pub cap-step : (m n : ℕ) → cap m ≤ cap (m + n)
cap-step m zero = let e : m + 0 ≡ m = omega arith in rw e (omega arith)
cap-step m (suc n) = let e : m + suc n ≡ suc (m + n) = omega arith in rw e (omega (arith, cap-step m n))

pub cap-more : (m n : ℕ) → m ≤ n → cap m ≤ cap n
cap-more m n le = let e : m + (n - m) ≡ n = omega (arith, le) in subst (λ k. cap m ≤ cap k) e (cap-step m (n - m))

pub cap-nine : (depth : ℕ) → depth ≤ 9 → cap depth ≤ 1289945088
cap-nine depth le = omega (arith, cap-more depth 9 le)

-- a call's arguments

one-light : (h : Helper) (most : ℕ) (b : Bound) (bounds : List Bound) → IsTrue (takes_one h) →
    total b ≤ most → AllLight most (take (length (argument_kinds h)) (b ∷ bounds))
one-light Upper most b bounds one le = (le, tt)
one-light Lower most b bounds one le = (le, tt)
one-light Trim most b bounds one le = (le, tt)
one-light Size most b bounds one le = (le, tt)
one-light Not most b bounds one le = (le, tt)
one-light Base64 most b bounds one le = (le, tt)
one-light UrlEncode most b bounds one le = (le, tt)
one-light h most b bounds one le = absurd (true≢false (sym one))

two-light : (h : Helper) (most : ℕ) (b c : Bound) (bounds : List Bound) → IsTrue (takes_two h) →
    total b ≤ most → total c ≤ most → AllLight most (take (length (argument_kinds h)) (b ∷ c ∷ bounds))
two-light Eq most b c bounds two le also = (le, (also, tt))
two-light Neq most b c bounds two le also = (le, (also, tt))
two-light Contains most b c bounds two le also = (le, (also, tt))
two-light DefaultIfEmpty most b c bounds two le also = (le, (also, tt))
two-light JsonPath most b c bounds two le also = (le, (also, tt))
two-light h most b c bounds two le also = absurd (true≢false (sym two))

pub cap-one : (h : Helper) (depth : ℕ) (b : Bound) (bounds : List Bound) → IsTrue (takes_one h) →
    total b ≤ cap depth → total (helper_bound h (b ∷ bounds)) ≤ cap (suc depth)
cap-one h depth b bounds one le =
    light-call h (cap depth) (b ∷ bounds) (omega (arith, cap-some depth)) (one-light h (cap depth) b bounds one le)

pub cap-two : (h : Helper) (m n : ℕ) (b c : Bound) (bounds : List Bound) → IsTrue (takes_two h) →
    total b ≤ cap n → total c ≤ cap m → total (helper_bound h (b ∷ c ∷ bounds)) ≤ cap (suc (max m n))
cap-two h m n b c bounds two le also =
    let most = cap (max m n) in
    light-call h most (b ∷ c ∷ bounds) (omega (arith, cap-some (max m n)))
    (two-light h most b c bounds two (omega (arith, le, cap-more n (max m n) (omega arith)))
    (omega (arith, also, cap-more m (max m n) (omega arith))))
