use Rattle.std.proofs.Common.{◌≡◌, ◌-◌, ◌<◌, [], ◌∷◌, length, Some, None, sym, subst, ap, ap₂, ◌∙◌, arith, rules}
use Rattle.std.proofs.Common.{to_z, of_z, to_z-of_z}
use Rattle.std.specs.Int.{w128}
use Rattle.json.specs.Token.{Token}
use Rattle.json.specs.Json.{parse_map, after_end_array, read_key, array, object, items, members, value}
use Rattle.json.specs.Reads.{token_of}
use Rattle.json.proofs.Grammar.{value_is, value-begin_array, value-begin_object, read_key-shorter, items_fail}
use Rattle.json.proofs.Grammar.{members_no_key, members_fail}
use Rattle.serde_json.specs.Read.{converted}
use Rattle.data_tree.specs.Tree.{nothing, truth, number, text, list, fields, no_members, view}
use Rattle.data_tree.specs.declared.data.Data.{Nothing, Truth, Number, Text, the_lemmas}
use Rattle.data_tree.proofs.Views.{view-List, view-Fields}
use Rattle.json_bridge.specs.Inner.Direct.{put, put_all, tree_of_json, items_of_json, members_of_json, AreFewInOrder}
use Rattle.json_bridge.proofs.Grown.{items_before, items_before-none}
use Rattle.json_bridge.proofs.TreeSteps.{converted-array, converted-object, item_read, items_over, member_read}
use Rattle.json_bridge.proofs.TreeSteps.{members_over, one_more_item, none_before}
use Rattle.json_bridge.proofs.direct.+read.Goals as goal

pub read-returns-in_err-token-clause-not_json : goal.read-returns-in_err-token-clause-not_json
read-returns-in_err-token-clause-not_json t c refused =
    let empty : c.args.reader.now ≡ [] = grind arith in
    ap (value c.args.depth) empty ∙ value_is c.args.depth []

pub read-returns-then-depth-eq0-clause-not_json : goal.read-returns-then-depth-eq0-clause-not_json
unfolding value
read-returns-then-depth-eq0-clause-not_json t c refused =
    let first : c.args.reader.now ≡ token_of c.in_ok-token.token ∷ c.next.new.self = grind arith in
    let none : c.args.depth ≡ 0 = omega arith in
    ap₂ value none (first ∙ ap (λ k. token_of k ∷ c.next.new.self) c.in-BeginArray.is)

pub read-returns-then-depth-eq0-2-clause-not_json : goal.read-returns-then-depth-eq0-2-clause-not_json
unfolding value
read-returns-then-depth-eq0-2-clause-not_json t c refused =
    let first : c.args.reader.now ≡ token_of c.in_ok-token.token ∷ c.next.new.self = grind arith in
    let none : c.args.depth ≡ 0 = omega arith in
    ap₂ value none (first ∙ ap (λ k. token_of k ∷ c.next.new.self) c.in-BeginObject.is)

pub read-returns-in_err-read_items-in-BeginArray-clause-not_json :
    goal.read-returns-in_err-read_items-in-BeginArray-clause-not_json
read-returns-in_err-read_items-in-BeginArray-clause-not_json t c refused =
    let first : c.args.reader.now ≡ token_of c.in_ok-token.token ∷ c.next.new.self = grind arith in
    ap (value c.args.depth) (first ∙ ap (λ k. token_of k ∷ c.next.new.self) c.in-BeginArray.is)
    ∙ value-begin_array c.args.depth c.next.new.self (omega arith)
    ∙ ap (parse_map array) (c.read_items.ensures.not_json (grind arith))

pub read-returns-in_err-read_members-in-BeginObject-clause-not_json :
    goal.read-returns-in_err-read_members-in-BeginObject-clause-not_json
read-returns-in_err-read_members-in-BeginObject-clause-not_json t c refused =
    let first : c.args.reader.now ≡ token_of c.in_ok-token.token ∷ c.next.new.self = grind arith in
    ap (value c.args.depth) (first ∙ ap (λ k. token_of k ∷ c.next.new.self) c.in-BeginObject.is)
    ∙ value-begin_object c.args.depth c.next.new.self (omega arith)
    ∙ ap (parse_map object) (c.read_members.ensures.not_json (grind arith))

pub read-returns-in_ok-from_str-in-String-clause-ok : goal.read-returns-in_ok-from_str-in-String-clause-ok
read-returns-in_ok-from_str-in-String-clause-ok t c =
    let first : c.args.reader.now ≡ token_of c.in_ok-token.token ∷ c.next.new.self = grind arith in
    let is : c.args.reader.now ≡ Token.string c.in-String.text.now ∷ c.next.new.self = grind (arith, first) in
    let seen : view (Text c.in_ok-from_str-in-String.field-0) ≡ text c.in-String.text.now = search
    (rules, the_lemmas) in
    ap (converted tree_of_json) (ap (value c.args.depth) is ∙ value_is c.args.depth _)
    ∙ ap (λ d. Some (d, c.next.new.self)) (sym seen)

pub read-returns-in-Bool-clause-ok : goal.read-returns-in-Bool-clause-ok
read-returns-in-Bool-clause-ok t c =
    let first : c.args.reader.now ≡ token_of c.in_ok-token.token ∷ c.next.new.self = grind arith in
    let is : c.args.reader.now ≡ Token.boolean c.in-Bool.truth ∷ c.next.new.self = grind (arith, first) in
    let seen : view (Truth c.in-Bool.truth) ≡ truth c.in-Bool.truth = search (rules, the_lemmas) in
    ap (converted tree_of_json) (ap (value c.args.depth) is ∙ value_is c.args.depth _)
    ∙ ap (λ d. Some (d, c.next.new.self)) (sym seen)

pub read-returns-in-Null-clause-ok : goal.read-returns-in-Null-clause-ok
read-returns-in-Null-clause-ok t c =
    let first : c.args.reader.now ≡ token_of c.in_ok-token.token ∷ c.next.new.self = grind arith in
    let is : c.args.reader.now ≡ Token.null ∷ c.next.new.self = grind (arith, first) in
    let seen : view (Nothing) ≡ nothing = search (rules, the_lemmas) in
    ap (converted tree_of_json) (ap (value c.args.depth) is ∙ value_is c.args.depth _)
    ∙ ap (λ d. Some (d, c.next.new.self)) (sym seen)

pub read-returns-in-Some-clause-ok : goal.read-returns-in-Some-clause-ok
read-returns-in-Some-clause-ok t c =
    let n = c.in-Some.number in
    let first : c.args.reader.now ≡ token_of c.in_ok-token.token ∷ c.next.new.self = grind arith in
    let is : c.args.reader.now ≡ Token.number c.in-Number.text.now ∷ c.next.new.self = grind (arith, first) in
    let back : to_z w128 (of_z w128 n) ≡ n = grind (arith, to_z-of_z) in
    let seen : view (Number n) ≡ number n = search (rules, the_lemmas) in
    let made : view (Number (to_z w128 (of_z w128 n))) ≡ number n = ap (λ x. view (Number x)) back ∙ seen in
    ap (converted tree_of_json) (ap (value c.args.depth) is ∙ value_is c.args.depth _)
    ∙ rw c.in-Some.ensures (ap (λ d. Some (d, c.next.new.self)) (sym made))

pub read-returns-in-EndObject-clause-not_json : goal.read-returns-in-EndObject-clause-not_json
read-returns-in-EndObject-clause-not_json t c refused =
    let first : c.args.reader.now ≡ token_of c.in_ok-token.token ∷ c.next.new.self = grind arith in
    rw (value_is c.args.depth c.args.reader.now, first) (grind arith)

pub read-returns-in_ok-read_items-in-BeginArray-clause-ok : goal.read-returns-in_ok-read_items-in-BeginArray-clause-ok
read-returns-in_ok-read_items-in-BeginArray-clause-ok t c =
    let first : c.args.reader.now ≡ token_of c.in_ok-token.token ∷ c.next.new.self = grind arith in
    let opened =
    ap (converted tree_of_json)
    (ap (value c.args.depth) (first ∙ ap (λ k. token_of k ∷ c.next.new.self) c.in-BeginArray.is)
    ∙ value-begin_array c.args.depth c.next.new.self (omega arith))
    ∙ converted-array (items (value (c.args.depth - 1)) (length c.next.new.self) c.next.new.self) in
    let found = c.in_ok-read_items-in-BeginArray in
    opened ∙ ap (parse_map list) found.ensures.ok
    ∙ ap (λ d. Some (d, c.read_items.new.reader)) (sym (view-List found.field-0))

pub read-returns-in_ok-read_members-in-BeginObject-clause-ok :
    goal.read-returns-in_ok-read_members-in-BeginObject-clause-ok
read-returns-in_ok-read_members-in-BeginObject-clause-ok t c =
    let first : c.args.reader.now ≡ token_of c.in_ok-token.token ∷ c.next.new.self = grind arith in
    let opened =
    ap (converted tree_of_json)
    (ap (value c.args.depth) (first ∙ ap (λ k. token_of k ∷ c.next.new.self) c.in-BeginObject.is)
    ∙ value-begin_object c.args.depth c.next.new.self (omega arith))
    ∙ converted-object (members (value (c.args.depth - 1)) (length c.next.new.self) c.next.new.self) in
    let found = c.in_ok-read_members-in-BeginObject in
    opened ∙ ap (parse_map fields) found.ensures.ok
    ∙ ap (λ d. Some (d, c.read_members.new.reader)) (sym (view-Fields found.field-0))

pub read_items-items-init : goal.read_items-items-init
read_items-items-init t c =
    let all = converted items_of_json (items (value c.args.depth) (length c.args.reader.now) c.args.reader.now) in (
      length c.args.reader.now,
      omega arith,
      none_before all ∙ ap (λ ds. parse_map (items_before ds) all) (sym c.new-found.ensures.items),
      λ none. none,
      omega arith,
    )

pub read_items-returns-in_err-item-clause-not_json : goal.read_items-returns-in_err-item-clause-not_json
read_items-returns-in_err-item-clause-not_json t c refused =
    let p = value c.args.depth in
    let l = c.items in
    let n = l.invariant.0 in
    let going : (after_end_array l.reader ≡ None) × (c.take_end_array.new.self ≡ l.reader) = grind arith in
    l.invariant.3 (items_fail p n l.reader going.0 (rw (← going.1) (c.read.ensures.not_json (grind arith))))

pub read_items-items-preserved : goal.read_items-items-preserved
read_items-items-preserved t c =
    let p = value c.args.depth in
    let l = c.items in
    let n = l.invariant.0 in
    let going : (after_end_array l.reader ≡ None) × (c.take_end_array.new.self ≡ l.reader) = grind arith in
    let done = c.in_ok-item.ensures in
    let d = c.in_ok-item.item in
    let r = c.read.new.reader in
    let less : length r < length l.reader = rw (← going.1) done.shorter in
    let turn = item_read p n l.reader r (view d) (omega (arith, l.invariant.1)) going.0 (rw (← going.1) done.ok) in (
      n - 1,
      omega (arith, l.invariant.1),
      l.invariant.2 ∙ ap (parse_map (items_before l.found.items)) turn.0 ∙ one_more_item l.found.items d _
          ∙ ap (λ ds. parse_map (items_before ds) (converted items_of_json (items p (n - 1) r)))
          (sym c.in-Ok.ensures.items),
      λ none. l.invariant.3 (turn.1 none),
      omega (arith, l.invariant.4),
    )

pub read_items-returns-clause-ok : goal.read_items-returns-clause-ok
read_items-returns-clause-ok t c =
    let p = value c.args.depth in
    let l = c.items in
    let n = l.invariant.0 in
    let r = c.take_end_array.new.self in
    l.invariant.2 ∙ ap (parse_map (items_before l.found.items)) (items_over p n l.reader r l.invariant.1 (grind arith))
    ∙ ap (λ ts. Some (ts, r)) (items_before-none l.found.items)

pub read_members-members-init : goal.read_members-members-init
read_members-members-init t c =
    let all = members (value c.args.depth) (length c.args.reader.now) c.args.reader.now in (
      length c.args.reader.now,
      omega arith,
      ap (λ es. converted (λ ms. members_of_json ms (put_all es no_members)) all) (sym c.new-found.ensures.items),
      λ none. none,
      omega arith,
      subst AreFewInOrder (sym c.new-found.ensures.items) (λ _. tt),
    )

pub read_members-returns-in_err-name-clause-not_json : goal.read_members-returns-in_err-name-clause-not_json
read_members-returns-in_err-name-clause-not_json t c refused =
    let l = c.members in
    l.invariant.3 (members_no_key (value c.args.depth) l.invariant.0 l.reader (grind arith))

pub read_members-returns-in_err-member-clause-not_json : goal.read_members-returns-in_err-member-clause-not_json
read_members-returns-in_err-member-clause-not_json t c refused =
    let p = value c.args.depth in
    let l = c.members in
    let n = l.invariant.0 in
    let k = c.in-Some.name.now in
    let s = c.next_name.new.reader in
    let named : read_key l.reader ≡ Some (Some k, s) = grind arith in
    l.invariant.3 (members_fail p n k l.reader s named (c.read.ensures.not_json (grind arith)))

pub read_members-members-preserved : goal.read_members-members-preserved
read_members-members-preserved t c =
    let p = value c.args.depth in
    let l = c.members in
    let n = l.invariant.0 in
    let old = put_all l.found.items no_members in
    let k = c.in-Some.name.now in
    let s = c.next_name.new.reader in
    let named : read_key l.reader ≡ Some (Some k, s) = grind arith in
    let done = c.in_ok-member.ensures in
    let d = c.in_ok-member.member in
    let r = c.read.new.reader in
    let less = read_key-shorter l.reader (Some k) s named in
    let lesser = done.shorter in
    let copied : c.in_ok-key.key ≡ k = search rules in
    let pushed : put_all c.add.new.found.items no_members ≡ put k (view d) old =
    c.in_ok-add.ensures.put ∙ ap (λ name. put name (view d) old) copied in
    let turn = member_read p old n k l.reader s r (view d) (omega (arith, l.invariant.1)) named done.ok in (
      n - 1,
      omega (arith, l.invariant.1),
      l.invariant.2 ∙ turn.0 ∙ ap (λ found. converted (λ ms. members_of_json ms found) (members p (n - 1) r))
          (sym pushed),
      λ none. l.invariant.3 (turn.1 none),
      omega (arith, l.invariant.4),
      c.in_ok-add.ensures.in_order,
    )

pub read_members-returns-clause-ok : goal.read_members-returns-clause-ok
read_members-returns-clause-ok t c =
    let p = value c.args.depth in
    let l = c.members in
    let n = l.invariant.0 in
    let r = c.next_name.new.reader in
    let old = put_all l.found.items no_members in
    l.invariant.2 ∙ members_over p old n l.reader r l.invariant.1 (grind arith)
    ∙ ap (λ ms. Some (ms, r)) (sym c.in_ok-finished.ensures)
