use Rattle.std.proofs.Common.{◌≡◌, ◌+◌, ◌<◌, ◌∷◌, ◌++◌, [], map, take, drop, length, get_or}
use Rattle.std.proofs.Common.{sym, ap, ◌∙◌, arith, length-set}
use Rattle.std.proofs.lemmas.List.{take_more, take_more_set, drop-set-lt, drop-drop, map-append}
use Rattle.stub_response.specs.HeaderText.{value_byte}
use Rattle.stub_response.proofs.ListLemmas.{same_item}
use Rattle.stub_response.proofs.header_text.header_text.Goals as goal

pub loop-i-preserved : goal.loop-i-preserved
loop-i-preserved c =
    let old = c.loop-i.text.items in
    let given = c.args.text.items in
    let i = c.loop-i.i in
    let made = c.value_byte.result in
    let kept = c.loop-i.invariant in
    let within : i < length old = omega (arith, kept.long) in
    let read = c.index.result.now in
    let same : made ≡ value_byte (get_or given i read) =
    c.value_byte.ensures ∙ ap value_byte (c.index.ensures ∙ same_item old given i read kept.left) in
    record {
      long = length-set old i made ∙ kept.long;
      done = take_more_set old i made within ∙ ap (λ l. l ++ made ∷ []) kept.done
          ∙ ap (λ b. map value_byte (take i given) ++ b ∷ []) same
          ∙ sym (ap (map value_byte) (take_more given i read (omega (arith, kept.long)))
          ∙ map-append value_byte (take i given) (get_or given i read ∷ []));
      left = drop-set-lt (i + 1) old i made (omega arith) ∙ sym (drop-drop 1 i old) ∙ ap (drop 1) kept.left
          ∙ drop-drop 1 i given;
    }
