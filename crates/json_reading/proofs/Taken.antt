-- A value that is taken has no float.
use Rattle.std.proofs.Common.{◌≡◌, Bool, true, false, true≢false, ◌||◌, Option, Some, None, option_map}
use Rattle.std.proofs.Common.{option_and_then, is_some, refl, sym}
use Rattle.data_tree.specs.Tree as tree
use Rattle.json_bridge.specs.Reading.{tree_of_value, items_of, members_of}
use Rattle.serde_json.specs.Data as value
use Rattle.serde_json.specs.Written.{has_float, items_have_float, members_have_float}

-- two parts are there where both are made into one
both_there : {A B C : Type 0} (f : A → B → C) (o : Option A) (p : Option B)
    → is_some (option_and_then (λ a. option_map (f a) p) o) ≡ true → (is_some o ≡ true) × (is_some p ≡ true)
both_there f None p h = absurd (true≢false (sym h))
both_there f (Some a) None h = absurd (true≢false (sym h))
both_there f (Some a) (Some b) h = (refl, refl)

one_there : {A B : Type 0} (f : A → B) (o : Option A) → is_some (option_map f o) ≡ true → is_some o ≡ true
one_there f None h = h
one_there f (Some a) h = refl

neither : (a b : Bool) → a ≡ false → b ≡ false → (a || b) ≡ false
neither false false p q = refl
neither true b p q = p
neither false true p q = q

mutual
  pub no_float : (d : value.Data) → is_some (tree_of_value d) ≡ true → has_float d ≡ false
  no_float value.null h = refl
  no_float (value.boolean b) h = refl
  no_float (value.number (value.unsigned n)) h = refl
  no_float (value.number (value.negative z)) h = refl
  no_float (value.number (value.float x)) h = sym h
  no_float (value.string s) h = refl
  no_float (value.array ds) h = no_floats ds (one_there tree.list (items_of ds) h)
  no_float (value.object ms) h = no_member_floats ms (one_there tree.fields (members_of ms) h)

  no_floats : (ds : value.Items) → is_some (items_of ds) ≡ true → items_have_float ds ≡ false
  no_floats value.no_items h = refl
  no_floats (value.item d ds) h =
      let parts = both_there tree.item (tree_of_value d) (items_of ds) h in
      neither (has_float d) (items_have_float ds) (no_float d parts.0) (no_floats ds parts.1)

  no_member_floats : (ms : value.Members) → is_some (members_of ms) ≡ true → members_have_float ms ≡ false
  no_member_floats value.no_members h = refl
  no_member_floats (value.member k d ms) h =
      let parts = both_there (tree.member k) (tree_of_value d) (members_of ms) h in
      neither (has_float d) (members_have_float ms) (no_float d parts.0) (no_member_floats ms parts.1)
