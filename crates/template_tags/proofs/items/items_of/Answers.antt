use Rattle.std.proofs.Common.{◌≡◌, [], ◌++◌, List, map, sym, ap, subst, ◌∙◌, arith, rules, IfOk}
use Rattle.template_words.specs.Modes.{mode_of_byte}
use Rattle.template_tags.proofs.Cuts.{items_are, items_parts, pushed}
use Rattle.template_tags.specs.Inner.Scan.{item_view}
use Rattle.template_tags.specs.Items.{Item, break_before, items_after}
use Rattle.template_tags.proofs.items.items_of.Goals as goal

pub loop-text-preserved : goal.loop-text-preserved
loop-text-preserved c =
    let items = map item_view c.loop-text.items.items in
    let rest = c.loop-text.rest.now in
    let byte = c.in-Some.byte in
    let after = c.in-Some.after.now in
    let made = c.in_ok-items.ensures ∙ ap (λ xs. xs ++ break_before byte []) c.in_ok-with_word.ensures in
    record {
      utf8 = search rules;
      short = omega (arith, c.loop-text.invariant.short, c.in-Some.ensures.rest);
      same =
          c.loop-text.invariant.same
          ∙ ap (λ r. items ++ r)
          (items_are c.loop-text.mode rest ∙ ap (items_parts rest) (sym c.in-Some.ensures.value))
          ∙ pushed items c.in-Some.text.now byte (items_after (mode_of_byte byte) after)
          ∙ (λ i. sym made i ++ items_after (sym c.mode_of_byte-mode.ensures i) after);
    }

pub returns : goal.returns
returns c =
    let items = map item_view c.loop-text.items.items in
    let rest = c.loop-text.rest.now in
    let all = c.loop-text.invariant.same
    ∙ ap (λ r. items ++ r)
    (items_are c.loop-text.mode rest ∙ ap (items_parts rest) (sym c.in_default.ensures.value)) in
    let P : List Item → Type 0 = λ xs. IfOk c.with_word-2.result (λ made. map item_view made.items ≡ xs) in
    subst P (sym all) c.with_word-2.ensures
