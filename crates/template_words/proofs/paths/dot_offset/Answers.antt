use Rattle.std.proofs.Common.{Bool, sym, subst, ◌∙◌, ◌+◌, ◌-◌, length, take, drop}
use Rattle.template_words.proofs.Dots.{Seen, seen_cut, seen_step, seen_all}
use Rattle.template_words.proofs.paths.dot_offset.Goals as goal

pub returns-then-is_separator : goal.returns-then-is_separator
returns-then-is_separator c =
    let l = c.loop-rest in
    let e = sym c.is_separator.ensures ∙ c.if-is_separator.true in
    let d = seen_cut c.args.text.now l.at l.inside l.rest.now c.in-len1-up.len_at_least l.invariant e in
    record { none = tt; inside = d.inside; dot = d.is_dot; parts = d.parts }

pub loop-rest-preserved : goal.loop-rest-preserved
loop-rest-preserved c =
    let r = c.loop-rest.rest.now in
    let P : Bool → Type 0 =
    λ inside. Seen c.args.text.now (c.loop-rest.at + 1) inside (take (length r - 1) (drop 1 r)) in
    subst P (sym c.next_in_bracket-inside.ensures)
    (seen_step c.args.text.now c.loop-rest.at c.loop-rest.inside r c.in-len1-up.len_at_least c.loop-rest.invariant
    (sym c.is_separator.ensures ∙ c.if-is_separator.false))

pub returns : goal.returns
returns c =
    let l = c.loop-rest in
    record {
      none = seen_all c.args.text.now l.at l.inside l.rest.now c.in_default.len_below l.invariant;
      inside = tt;
      dot = tt;
      parts = tt;
    }
