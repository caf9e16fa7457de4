use Rattle.std.proofs.Common.{◌+◌, length, codes, Result, sym, ap, subst, ◌∙◌, arith, rules, length-drop}
use Rattle.template_words.specs.declared.error.TagError.{TagError}
use Rattle.template_words.specs.declared.reference.Reference.{Reference}
use Rattle.template_words.specs.PathReads.{reference_from}
use Rattle.template_words.specs.Reading.{Gives}
use Rattle.template_words.proofs.Climbs.{climb_yes, climb_no}
use Rattle.template_words.proofs.Finding.{begins_fits}
use Rattle.template_words.proofs.paths.reference_of.Goals as goal

pub loop-after-preserved : goal.loop-after-preserved
loop-after-preserved c =
    let r = c.loop-after.rest.now in
    record {
      utf8 = search rules;
      room =
          omega (
            arith,
            c.loop-after.invariant.room,
            begins_fits
                (codes "../") r c.in-Some.ensures.0,
            length-drop 3 r,
            ap length c.in-Some.ensures.1,
          );
      same =
          c.loop-after.invariant.same ∙
          (climb_yes c.loop-after.depth r c.in-Some.ensures.0 ∙ ap (reference_from (c.loop-after.depth + 1))
          (sym c.in-Some.ensures.1));
    }

pub returns : goal.returns
returns c =
    let P : Result Reference TagError → Type 0 =
    λ read. Gives (λ reference. reference) c.reference_below.result read in
    subst P (sym (c.loop-after.invariant.same
    ∙ climb_no c.loop-after.depth c.loop-after.rest.now c.in_default.ensures)) c.reference_below.ensures
