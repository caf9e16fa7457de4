-- The text of a value that is taken: where it is read, it is read as that value.
use Rattle.std.proofs.Common.{◌≡◌, ℕ, suc, max, ◌≤◌, List, [], ◌++◌, true, Option, Some, None, IfSome}
use Rattle.std.proofs.Common.{option_and_then, refl, sym, ap, ap₂, ◌∙◌, subst, append-nil, arith}
use Rattle.json.specs.Json as json
use Rattle.json.specs.Lex.{tokens}
use Rattle.json.specs.Token.{Token}
use Rattle.json.specs.Tree as tree
use Rattle.json.proofs.Found.{one_reading}
use Rattle.json.proofs.Nesting.{value-depth}
use Rattle.json.proofs.Printed.Trees.{value-json_tokens}
use Rattle.json_reading.specs.Numbers.{is_taken, IsWholeJson}
use Rattle.json_reading.proofs.Taken.{no_float}
use Rattle.serde_json.specs.Data.{Data, null, boolean, number, string, array, object, Items, no_items, item, Members}
use Rattle.serde_json.specs.Data.{no_members, member, depth, items_depth, members_depth}
use Rattle.serde_json.specs.Read.{read, of_json, max_depth}
use Rattle.serde_json.specs.Written.{outline, items_outline, members_outline, IsInOrder}
use Rattle.serde_json.proofs.Texts.{tokens_from_order}

mutual
  pub same_depth : (d : Data) → tree.depth (outline d) ≡ depth d
  same_depth null = refl
  same_depth (boolean b) = refl
  same_depth (number n) = refl
  same_depth (string s) = refl
  same_depth (array ds) = ap suc (items_same_depth ds)
  same_depth (object ms) = ap suc (members_same_depth ms)

  items_same_depth : (ds : Items) → tree.items_depth (items_outline ds) ≡ items_depth ds
  items_same_depth no_items = refl
  items_same_depth (item d ds) = ap₂ max (same_depth d) (items_same_depth ds)

  members_same_depth : (ms : Members) → tree.members_depth (members_outline ms) ≡ members_depth ms
  members_same_depth no_members = refl
  members_same_depth (member k d ms) = ap₂ max (same_depth d) (members_same_depth ms)

abbrev Reading : Type 0
Reading = Option (json.Json × List Token)

abbrev read_from : Reading → Option Data
read_from o = option_and_then of_json (option_and_then (λ p. json.if_last p.0 p.1) o)

where_found : (o : Reading) (P : Data → Type 0)
    → ((found : json.Json × List Token) → o ≡ Some found → IfSome (read_from o) P) → IfSome (read_from o) P
where_found None P holds = tt
where_found (Some found) P holds = holds found refl

-- A text that nests too deep isn't read; any other is read as the value that it was written for.
pub whole : (text : List ℕ) (d : Data) → is_taken d ≡ true → IsInOrder text d
    → (depth d ≤ max_depth → read text ≡ Some d) → IsWholeJson text
whole text d taken order reads_back =
    let ts = tokens text in
    let same : ts ≡ tree.json_tokens (outline d) ++ [] =
    tokens_from_order text d order (no_float d taken) ∙ sym (append-nil (tree.json_tokens (outline d))) in
    let deep_enough : tree.depth (outline d) ≤ tree.depth (outline d) = omega arith in
    let all : json.value (tree.depth (outline d)) ts ≡ Some (outline d, []) =
    ap (json.value (tree.depth (outline d))) same
    ∙ value-json_tokens (outline d) (tree.depth (outline d)) [] deep_enough in
    where_found (json.value max_depth ts) (λ e. is_taken e ≡ true)
    (λ found is.
    let one : Some found ≡ Some (outline d, []) =
    one_reading max_depth (tree.depth (outline d)) ts found (outline d, []) is all in
    let shallow : tree.depth (outline d) ≤ max_depth = value-depth max_depth ts [] (outline d) (is ∙ one) in
    let read_as : read text ≡ Some d = reads_back (subst (λ n. n ≤ max_depth) (same_depth d) shallow) in
    subst (λ o. IfSome o (λ e. is_taken e ≡ true)) (sym read_as) taken)
