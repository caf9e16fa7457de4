-- A text literal is no longer than its word.
use Rattle.std.proofs.Common.{ℕ, ◌+◌, ◌≤◌, ◌==◌, List, length, take, drop, Option, Some, None, IfSome, codes, arith}
use Rattle.std.specs.Option.{option_or}
use Rattle.std.proofs.lemmas.Bool.{cond_both}
use Rattle.std.proofs.lemmas.List.{length-take, length-drop}
use Rattle.template_words.specs.Literals.{text_literal}
use Rattle.template_words.specs.Marks.{begins, offset_of}
use Rattle.template_words.specs.Words.{enclosed, closed_at_end}

closed_short : (close body : List ℕ) (o : Option ℕ)
    → IfSome (closed_at_end close body o) (λ inner. length inner ≤ length body)
closed_short close body None = tt
closed_short close body (Some n) =
    cond_both (n + length close == length body) (Some (take n body)) None
    (λ o. IfSome o (λ inner. length inner ≤ length body)) (λ t. omega (arith, length-take n body)) (λ f. tt)

shorter : (a b : List ℕ) (o : Option (List ℕ)) → length a ≤ length b
    → IfSome o (λ inner. length inner ≤ length a) → IfSome o (λ inner. length inner ≤ length b)
shorter a b None le h = tt
shorter a b (Some inner) le h = omega (arith, le, h)

enclosed_short : (mark close text : List ℕ)
    → IfSome (enclosed mark close text) (λ inner. length inner ≤ length text)
enclosed_short mark close text =
    let body = drop (length mark) text in
    cond_both (begins mark text) (closed_at_end close body (offset_of close body)) None
    (λ o. IfSome o (λ inner. length inner ≤ length text))
    (λ t. shorter body text (closed_at_end close body (offset_of close body))
    (omega (arith, length-drop (length mark) text)) (closed_short close body (offset_of close body)))
    (λ f. tt)

either_short : (n : ℕ) (a b : Option (List ℕ)) → IfSome a (λ inner. length inner ≤ n)
    → IfSome b (λ inner. length inner ≤ n) → IfSome (option_or a b) (λ inner. length inner ≤ n)
either_short n None b h k = k
either_short n (Some inner) b h k = h

pub literal_short : (text : List ℕ) → IfSome (text_literal text) (λ inner. length inner ≤ length text)
literal_short text =
    either_short (length text) _ _ (enclosed_short (codes "\"") (codes "\"") text)
    (enclosed_short (codes "'") (codes "'") text)
