use Rattle.std.proofs.Common.{◌≡◌, ◌<◌, ◌++◌, ◌∙◌, ◌+◌, suc, sym, ap, append_assoc}
use Rattle.std.proofs.Common.{string_bytes, true, drop, arith, nat_lt, lt-ltb}
use Rattle.admin_answers.specs.Inner.Joined.{end_of, joined, texts_in}
use Rattle.admin_answers.proofs.JoinedLemmas.{next_joined}
use Rattle.serde_json.specs.Written.{comma_if}
use Rattle.admin_answers.proofs.listing.push_entry.Goals as goal

pub returns : goal.returns
returns c =
    let index = c.args.index in
    let texts = texts_in c.args.entries.now in
    let end = end_of c.args.entries.now in
    let before = string_bytes c.args.piece.now in
    let comma = comma_if (nat_lt 0 index) in
    let text = string_bytes c.in_ok-text.text in
    let rest = joined end true (drop (suc index) texts) in
    let written : string_bytes c.push_str.new.self ≡ (before ++ comma) ++ text =
    c.in_ok-push_str.ensures.bytes ∙ ap (λ s. s ++ c.as_str.result.now) c.in_ok-push_comma.ensures
    ∙ ap (λ s. (before ++ comma) ++ s) c.as_str.ensures.value in
    let next : suc index ≡ index + 1 = omega arith in
    let positive : 0 < index + 1 = omega arith in
    let later : nat_lt 0 (index + 1) ≡ true = lt-ltb 0 (index + 1) positive in
    ap (λ s. before ++ s) (next_joined end (nat_lt 0 index) texts index text c.in_ok-text.ensures)
    ∙ sym (append_assoc before comma (text ++ rest))
    ∙ sym (append_assoc (before ++ comma) text rest)
    ∙ ap (λ s. s ++ rest) (sym written)
    ∙ ap (λ b. string_bytes c.push_str.new.self ++ joined end b (drop (suc index) texts)) (sym later)
    ∙ ap (λ n. string_bytes c.push_str.new.self ++ joined end (nat_lt 0 (index + 1)) (drop n texts)) next
