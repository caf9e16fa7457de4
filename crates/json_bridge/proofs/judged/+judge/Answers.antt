use Rattle.std.proofs.Common.{◌≡◌, ◌-◌, ◌<◌, [], ◌∷◌, length, Some, None, ap, ap₂, refl, ◌∙◌, arith}
use Rattle.std.proofs.lemmas.Result.{IfOk-weaker}
use Rattle.json.specs.Token.{Token}
use Rattle.json.specs.Json.{parse_map, after_end_array, read_key, array, object, items, members, value}
use Rattle.json.specs.Reads.{token_of}
use Rattle.json.proofs.Grammar.{value_is, value-begin_array, value-begin_object, read_key-shorter, items_fail}
use Rattle.json.proofs.Grammar.{members_no_key, members_fail}
use Rattle.serde_json.specs.Read.{converted}
use Rattle.data_tree.specs.Tree.{nothing, truth, number, text, list, fields, item, no_items, no_members}
use Rattle.json_bridge.specs.Inner.Direct.{put, tree_of_json, items_of_json}
use Rattle.json_bridge.proofs.TreeSteps.{converted-array, converted-object, item_read, items_over, member_read}
use Rattle.json_bridge.proofs.TreeSteps.{members_over, item_passed, none_before}
use Rattle.json_bridge.proofs.judged.+judge.Goals as goal

pub judge-returns-in_err-token-clause-not_json : goal.judge-returns-in_err-token-clause-not_json
judge-returns-in_err-token-clause-not_json t c refused =
    let empty : c.args.reader.now ≡ [] = grind arith in
    ap (value c.args.depth) empty ∙ value_is c.args.depth []

pub judge-returns-then-depth-eq0-clause-not_json : goal.judge-returns-then-depth-eq0-clause-not_json
unfolding value
judge-returns-then-depth-eq0-clause-not_json t c refused =
    let first : c.args.reader.now ≡ token_of c.in_ok-token.token ∷ c.next.new.self = grind arith in
    let none : c.args.depth ≡ 0 = omega arith in
    ap₂ value none (first ∙ ap (λ k. token_of k ∷ c.next.new.self) c.in-BeginArray.is)

pub judge-returns-then-depth-eq0-2-clause-not_json : goal.judge-returns-then-depth-eq0-2-clause-not_json
unfolding value
judge-returns-then-depth-eq0-2-clause-not_json t c refused =
    let first : c.args.reader.now ≡ token_of c.in_ok-token.token ∷ c.next.new.self = grind arith in
    let none : c.args.depth ≡ 0 = omega arith in
    ap₂ value none (first ∙ ap (λ k. token_of k ∷ c.next.new.self) c.in-BeginObject.is)

pub judge-returns-in-String-clause-ok : goal.judge-returns-in-String-clause-ok
judge-returns-in-String-clause-ok t c =
    let first : c.args.reader.now ≡ token_of c.in_ok-token.token ∷ c.next.new.self = grind arith in
    let is : c.args.reader.now ≡ Token.string c.in-String._text.now ∷ c.next.new.self = grind (arith, first) in
    (text c.in-String._text.now, ap (converted tree_of_json) (ap (value c.args.depth) is ∙ value_is c.args.depth _))

pub judge-returns-in-Some-clause-ok : goal.judge-returns-in-Some-clause-ok
judge-returns-in-Some-clause-ok t c =
    let first : c.args.reader.now ≡ token_of c.in_ok-token.token ∷ c.next.new.self = grind arith in
    let is : c.args.reader.now ≡ Token.number c.in-Number.text.now ∷ c.next.new.self = grind (arith, first) in (
      number c.in-Some._number,
      ap (converted tree_of_json) (ap (value c.args.depth) is ∙ value_is c.args.depth _) ∙ rw c.in-Some.ensures refl,
    )

pub judge-returns-in-Bool-clause-ok : goal.judge-returns-in-Bool-clause-ok
judge-returns-in-Bool-clause-ok t c =
    let first : c.args.reader.now ≡ token_of c.in_ok-token.token ∷ c.next.new.self = grind arith in
    let is : c.args.reader.now ≡ Token.boolean c.in-Bool._truth ∷ c.next.new.self = grind (arith, first) in
    (truth c.in-Bool._truth, ap (converted tree_of_json) (ap (value c.args.depth) is ∙ value_is c.args.depth _))

pub judge-returns-in-Null-clause-ok : goal.judge-returns-in-Null-clause-ok
judge-returns-in-Null-clause-ok t c =
    let first : c.args.reader.now ≡ token_of c.in_ok-token.token ∷ c.next.new.self = grind arith in
    let is : c.args.reader.now ≡ Token.null ∷ c.next.new.self = grind (arith, first) in
    (nothing, ap (converted tree_of_json) (ap (value c.args.depth) is ∙ value_is c.args.depth _))

pub judge-returns-in-EndObject-clause-not_json : goal.judge-returns-in-EndObject-clause-not_json
judge-returns-in-EndObject-clause-not_json t c refused =
    let first : c.args.reader.now ≡ token_of c.in_ok-token.token ∷ c.next.new.self = grind arith in
    rw (value_is c.args.depth c.args.reader.now, first) (grind arith)

pub judge-returns-else-depth-eq0-clause-ok : goal.judge-returns-else-depth-eq0-clause-ok
judge-returns-else-depth-eq0-clause-ok t c =
    let first : c.args.reader.now ≡ token_of c.in_ok-token.token ∷ c.next.new.self = grind arith in
    let opened =
    ap (converted tree_of_json)
    (ap (value c.args.depth) (first ∙ ap (λ k. token_of k ∷ c.next.new.self) c.in-BeginArray.is)
    ∙ value-begin_array c.args.depth c.next.new.self (omega arith))
    ∙ converted-array (items (value (c.args.depth - 1)) (length c.next.new.self) c.next.new.self) in
    IfOk-weaker c.judge_items.result _ _ (λ _ h. (list h.0, opened ∙ ap (parse_map list) h.1)) c.judge_items.ensures.ok

pub judge-returns-else-depth-eq0-clause-not_json : goal.judge-returns-else-depth-eq0-clause-not_json
judge-returns-else-depth-eq0-clause-not_json t c refused =
    let first : c.args.reader.now ≡ token_of c.in_ok-token.token ∷ c.next.new.self = grind arith in
    ap (value c.args.depth) (first ∙ ap (λ k. token_of k ∷ c.next.new.self) c.in-BeginArray.is)
    ∙ value-begin_array c.args.depth c.next.new.self (omega arith)
    ∙ ap (parse_map array) (c.judge_items.ensures.not_json refused)

pub judge-returns-else-depth-eq0-2-clause-ok : goal.judge-returns-else-depth-eq0-2-clause-ok
judge-returns-else-depth-eq0-2-clause-ok t c =
    let first : c.args.reader.now ≡ token_of c.in_ok-token.token ∷ c.next.new.self = grind arith in
    let opened =
    ap (converted tree_of_json)
    (ap (value c.args.depth) (first ∙ ap (λ k. token_of k ∷ c.next.new.self) c.in-BeginObject.is)
    ∙ value-begin_object c.args.depth c.next.new.self (omega arith))
    ∙ converted-object (members (value (c.args.depth - 1)) (length c.next.new.self) c.next.new.self) in
    IfOk-weaker c.judge_members.result _ _ (λ _ h. (fields h.0, opened ∙ ap (parse_map fields) h.1))
    c.judge_members.ensures.ok

pub judge-returns-else-depth-eq0-2-clause-not_json : goal.judge-returns-else-depth-eq0-2-clause-not_json
judge-returns-else-depth-eq0-2-clause-not_json t c refused =
    let first : c.args.reader.now ≡ token_of c.in_ok-token.token ∷ c.next.new.self = grind arith in
    ap (value c.args.depth) (first ∙ ap (λ k. token_of k ∷ c.next.new.self) c.in-BeginObject.is)
    ∙ value-begin_object c.args.depth c.next.new.self (omega arith)
    ∙ ap (parse_map object) (c.judge_members.ensures.not_json refused)

pub judge_items-items-init : goal.judge_items-items-init
judge_items-items-init t c =
    let all = converted items_of_json (items (value c.args.depth) (length c.args.reader.now) c.args.reader.now) in
    (length c.args.reader.now, omega arith, (λ ts. ts, none_before all), λ none. none, omega arith)

pub judge_items-returns-in_err-judge-clause-not_json : goal.judge_items-returns-in_err-judge-clause-not_json
judge_items-returns-in_err-judge-clause-not_json t c refused =
    let p = value c.args.depth in
    let l = c.items in
    let n = l.invariant.0 in
    let going : (after_end_array l.reader ≡ None) × (c.take_end_array.new.self ≡ l.reader) = grind arith in
    l.invariant.3 (items_fail p n l.reader going.0 (rw (← going.1) (c.judge.ensures.not_json (grind arith))))

pub judge_items-items-preserved : goal.judge_items-items-preserved
judge_items-items-preserved t c =
    let p = value c.args.depth in
    let l = c.items in
    let n = l.invariant.0 in
    let passed = l.invariant.2.0 in
    let going : (after_end_array l.reader ≡ None) × (c.take_end_array.new.self ≡ l.reader) = grind arith in
    let done = c.in_ok-judge.ensures in
    let tree = done.ok.0 in
    let r = c.judge.new.reader in
    let less : length r < length l.reader = rw (← going.1) done.shorter in
    let turn = item_read p n l.reader r tree (omega (arith, l.invariant.1)) going.0 (rw (← going.1) done.ok.1) in (
      n - 1,
      omega (arith, l.invariant.1),
      (λ ts. passed (item tree ts), l.invariant.2.1 ∙ ap (parse_map passed) turn.0 ∙ item_passed passed tree _),
      λ none. l.invariant.3 (turn.1 none),
      omega (arith, l.invariant.4),
    )

pub judge_items-returns-clause-ok : goal.judge_items-returns-clause-ok
judge_items-returns-clause-ok t c =
    let p = value c.args.depth in
    let l = c.items in
    let n = l.invariant.0 in
    let r = c.take_end_array.new.self in
    let passed = l.invariant.2.0 in
    (passed no_items, l.invariant.2.1 ∙ ap (parse_map passed) (items_over p n l.reader r l.invariant.1 (grind arith)))

pub judge_members-members-init : goal.judge_members-members-init
judge_members-members-init t c = (length c.args.reader.now, omega arith, (no_members, refl), λ none. none, omega arith)

pub judge_members-returns-in_err-_name-clause-not_json : goal.judge_members-returns-in_err-_name-clause-not_json
judge_members-returns-in_err-_name-clause-not_json t c refused =
    let l = c.members in
    l.invariant.3 (members_no_key (value c.args.depth) l.invariant.0 l.reader (grind arith))

pub judge_members-returns-in_err-judge-clause-not_json : goal.judge_members-returns-in_err-judge-clause-not_json
judge_members-returns-in_err-judge-clause-not_json t c refused =
    let p = value c.args.depth in
    let l = c.members in
    let n = l.invariant.0 in
    let k = c.in-Some._name.now in
    let s = c.next_name.new.reader in
    let named : read_key l.reader ≡ Some (Some k, s) = grind arith in
    l.invariant.3 (members_fail p n k l.reader s named (c.judge.ensures.not_json (grind arith)))

pub judge_members-members-preserved : goal.judge_members-members-preserved
judge_members-members-preserved t c =
    let p = value c.args.depth in
    let l = c.members in
    let n = l.invariant.0 in
    let passed = l.invariant.2.0 in
    let k = c.in-Some._name.now in
    let s = c.next_name.new.reader in
    let named : read_key l.reader ≡ Some (Some k, s) = grind arith in
    let done = c.in_ok-judge.ensures in
    let tree = done.ok.0 in
    let r = c.judge.new.reader in
    let less = read_key-shorter l.reader (Some k) s named in
    let lesser = done.shorter in
    let turn = member_read p passed n k l.reader s r tree (omega (arith, l.invariant.1)) named done.ok.1 in (
      n - 1,
      omega (arith, l.invariant.1),
      (put k tree passed, l.invariant.2.1 ∙ turn.0),
      λ none. l.invariant.3 (turn.1 none),
      omega (arith, l.invariant.4),
    )

pub judge_members-returns-clause-ok : goal.judge_members-returns-clause-ok
judge_members-returns-clause-ok t c =
    let p = value c.args.depth in
    let l = c.members in
    let n = l.invariant.0 in
    let passed = l.invariant.2.0 in
    (passed, l.invariant.2.1 ∙ members_over p passed n l.reader c.next_name.new.reader l.invariant.1 (grind arith))
