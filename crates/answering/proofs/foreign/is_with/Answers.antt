use Rattle.std.proofs.Common.{ap, sym, ◌∙◌}
use Rattle.std.proofs.lemmas.Bool.{false≢true}
use Rattle.answering.specs.Foreign.{lower_case}
use Rattle.answering.proofs.ForeignLemmas.{from_parts, same_back, same_front}
use Rattle.answering.proofs.foreign.is_with.Goals as goal

pub returns-then-eq_ignore_ascii_case : goal.returns-then-eq_ignore_ascii_case
returns-then-eq_ignore_ascii_case c =
    let cases = c.in-Some.ensures.cases in
    let front = c.eq_ignore_ascii_case.ensures.test.0 c.if-eq_ignore_ascii_case.true
    ∙ ap lower_case c.as_bytes.ensures.value in
    let test = c.eq_ignore_ascii_case-then-eq_ignore_ascii_case.ensures.test in (
      λ passed. from_parts c.args.origin.now c.args.scheme.now c.args.authority.now c.in-Some.first.now c.in-Some.rest.now
          cases.1 cases.2 cases.3 front (test.0 passed),
      λ is. test.1 (same_back c.args.origin.now c.args.scheme.now c.args.authority.now c.in-Some.first.now
          c.in-Some.rest.now cases.1 cases.2 cases.3 is),
    )

pub returns-else-eq_ignore_ascii_case : goal.returns-else-eq_ignore_ascii_case
returns-else-eq_ignore_ascii_case c =
    let cases = c.in-Some.ensures.cases in (
      λ passed. absurd (false≢true (sym c.if-eq_ignore_ascii_case.false ∙ passed)),
      λ is. c.eq_ignore_ascii_case.ensures.test.1 (same_front c.args.origin.now c.args.scheme.now c.args.authority.now
          c.in-Some.first.now c.in-Some.rest.now cases.1 cases.2 cases.3 is ∙ ap lower_case (sym c.as_bytes.ensures.value)),
    )
