use Rattle.std.proofs.Common.{◌≡◌, ℕ, [], List, Bor, get_or, take, Bool, cond, true, false, not, add-one, refl}
use Rattle.std.proofs.Common.{sym, ap, subst, ◌∙◌, arith}
use Rattle.std.specs.Cmp.Lexicographic.{slice_cmp}
use Rattle.std.specs.Ordering.{nat_cmp, is_eq}
use Rattle.std.proofs.lemmas.Bool.{false≢true}
use Rattle.std.proofs.lemmas.List.{take_all}
use Rattle.path_template.proofs.Distinct.{AreDistinct, has, has_more, distinct_more, twice, texts, parts_from}
use Rattle.path_template.proofs.Distinct.{more_from}
use Rattle.path_template.proofs.names.are_distinct.Goals as goal

abbrev no_name : Bor (List ℕ)
no_name = record { ref_ptr = (0, 0); now = [] }

not_false : (b : Bool) → not b ≡ false → b ≡ true
not_false true e = refl
not_false false e = absurd (false≢true (sym e))

not_true : (b : Bool) → not b ≡ true → b ≡ false
not_true true e = absurd (false≢true e)
not_true false e = refl

pub returns-then-not-branch : goal.returns-then-not-branch
returns-then-not-branch c =
    let names = c.args.names.now in
    let i = c.loop-name.name-index in
    let here : has (get_or names i no_name).now (texts (take i names)) ≡ true =
    sym (c.loop-name.invariant.seen (get_or names i no_name))
    ∙ not_false _ (sym c.in_ok-insert.ensures.added ∙ c.if-not-branch.true) in (
      λ no. absurd (false≢true no),
      λ distinct. absurd (twice (texts (take i names)) _ _ here
          (subst AreDistinct (parts_from no_name names i (omega arith)) distinct)),
    )

pub loop-name-preserved : goal.loop-name-preserved
loop-name-preserved c =
    let names = c.args.names.now in
    let i = c.loop-name.name-index in
    let name = (get_or names i no_name).now in
    let more = more_from no_name names i (omega arith) in
    let none : has name (texts (take i names)) ≡ false =
    sym (c.loop-name.invariant.seen (get_or names i no_name))
    ∙ not_true _ (sym c.in_ok-insert.ensures.added ∙ c.if-not-branch.false) in
    rw add-one (record {
      distinct = subst AreDistinct (sym more)
          (distinct_more (texts (take i names)) name c.loop-name.invariant.distinct none);
      seen = λ q.
          (c.in_ok-insert.ensures.updates).0 q
          ∙ ap (cond (is_eq (slice_cmp nat_cmp name q.now)) true) (c.loop-name.invariant.seen q)
          ∙ sym (has_more (texts (take i names)) name q.now)
          ∙ ap (has q.now) (sym more);
    })

pub returns : goal.returns
returns c =
    let names = c.args.names.now in (
      λ _. subst (λ ns. AreDistinct (texts ns)) (take_all c.loop-name.name-index names (omega arith))
          c.loop-name.invariant.distinct,
      λ _. refl,
    )
