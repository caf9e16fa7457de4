use Rattle.std.proofs.Common.{rules, ◌≡◌, ◌∷◌, [], false, true, arith, ◌∙◌}
use Rattle.call_refusal.specs.Reason.{begins_character}
use Rattle.call_refusal.proofs.ReasonLemmas.{all_shown, passed, full, pushed}
use Rattle.call_refusal.proofs.reason.add_visible.Goals as goal

pub returns-then-not-begins_character-clause-value : goal.returns-then-not-begins_character-clause-value
returns-then-not-begins_character-clause-value c =
    let other : begins_character c.args.byte ≡ false = search rules in
    passed c.args.bytes.now.items c.args.byte other c.requires

pub returns-then-len-ge-LENGTH_LIMIT-clause-value : goal.returns-then-len-ge-LENGTH_LIMIT-clause-value
returns-then-len-ge-LENGTH_LIMIT-clause-value c =
    full c.args.bytes.now.items (all_shown (c.args.byte ∷ [])) (omega arith) c.requires

pub returns-clause-value : goal.returns-clause-value
returns-clause-value c =
    let begins : begins_character c.args.byte ≡ true = search rules in
    search rules ∙ pushed c.args.bytes.now.items c.args.byte begins (omega arith)
