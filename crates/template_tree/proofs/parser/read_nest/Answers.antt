use Rattle.std.proofs.Common.{[], sym, subst, rules, arith}
use Rattle.template_tree.specs.Inner.Frames.{Nest, nest_view, Read}
use Rattle.template_tree.specs.Inner.Views.{token_view}
use Rattle.template_tree.specs.Source.{with_escape}
use Rattle.template_tree.proofs.Progress.{read_more}
use Rattle.template_tree.proofs.Rows.{token_shorter, leads_shorter}
use Rattle.template_tree.proofs.SoundTokens.{allowed_token}
use Rattle.template_tree.proofs.parser.read_nest.Goals as goal

pub with_token-requires-clause-allowed : goal.with_token-requires-clause-allowed
with_token-requires-clause-allowed c =
    let read = c.loop-rest.invariant.read in
    let nest = nest_view c.loop-rest.nest in
    let rest = c.loop-rest.rest.now in
    let shorter = leads_shorter read.tokens [] nest.levels c.args.text.now rest read.leads in
    allowed_token nest.levels rest c.in_ok-token.after.now (token_view c.in_ok-token.token)
    (omega (arith, shorter, c.requires)) (rw c.as_slice.ensures.value at c.in_ok-token.ensures)

pub loop-rest-smaller : goal.loop-rest-smaller
loop-rest-smaller c =
    token_shorter (nest_view c.loop-rest.nest).levels c.loop-rest.rest.now c.in_ok-token.after.now
    (token_view c.in_ok-token.token) (rw c.as_slice.ensures.value at c.in_ok-token.ensures)

pub loop-rest-preserved : goal.loop-rest-preserved
loop-rest-preserved c =
    let source = with_escape c.args.escape c.args.text.now in
    let more = c.in_ok-token.after.now in
    let P : Nest → Type 0 = λ nest. Read source nest more in
    record {
      utf8 = search rules;
      read =
          subst P (sym c.in_ok-nest.ensures)
          (read_more source (nest_view c.loop-rest.nest) c.loop-rest.rest.now more (token_view c.in_ok-token.token)
          c.requires c.loop-rest.invariant.read (rw c.as_slice.ensures.value at c.in_ok-token.ensures));
    }
