-- What the slots print as, and what an instruction writes, keeps to the bounds.
use Rattle.std.proofs.Common.{◌≡◌, ℕ, zero, suc, ◌<◌, ◌≤◌, ◌^◌, List, [], ◌∷◌, ◌++◌}
use Rattle.std.proofs.Common.{length, drop, Some, sym, subst, arith, pos, nat_eq}
use Rattle.std.specs.Prelude.{slice_get, not}
use Rattle.std.proofs.lemmas.Option.{none-some}
use Rattle.data_tree.specs.Tree.{Tree}
use Rattle.data_tree.specs.Json.{size}
use Rattle.data_tree.specs.LookUp.{at}
use Rattle.data_tree.proofs.Lookups.{length_print_at}
use Rattle.helper_set.specs.Values.{Value, a_datum, a_text, a_number, a_truth, text_of, truth_of}
use Rattle.helper_set.specs.Helpers.{argument_kinds}
use Rattle.template_code.specs.Code.{StackCode, IsTyped}
use Rattle.helper_set.specs.Escape.{html_escaped}
use Rattle.template_code.specs.Instructions.{pops}
use Rattle.template_code.specs.Machine.{Loop, item_of, key_of, has_next, Effect, with_stack, writes, of_loop, effect}
use Rattle.template_code.specs.declared.instr.Instr.{Instr}
use Rattle.template_code.specs.declared.instr.Instr.TheVariants.{Emit, Root, Item, Index, Key, First, Last, Text}
use Rattle.template_code.specs.declared.instr.Instr.TheVariants.{Number, Truth, Show, Test, Call, Escape, Print, Jump}
use Rattle.template_code.specs.declared.instr.Instr.TheVariants.{Branch, Each, Next, Halt}
use Rattle.template_code.proofs.EscapeFacts.{escaped-length}
use Rattle.code_rules.specs.Bounds.{Bound, at_most, all_data, item_data, times_bound, bound_value}
use Rattle.code_rules.specs.Costs.{written_bound, pushed_bounds, helper_bound, text_bound}
use Rattle.code_rules.proofs.CallFacts.{call-given, pops-length}
use Rattle.safe_code.proofs.Bounds.{bound-all, bound-item, bound-times, text-within, number-within, index-within}
use Rattle.safe_code.proofs.Bounds.{truth-within}
use Rattle.safe_code.proofs.Effects.{some-holds, map-holds, then-holds}
use Rattle.safe_code.proofs.Loops.{AreOpen, each-open, item-size, key-length, turn-small, innermost, innermost-at}
use Rattle.safe_code.proofs.Calls.{AllTexts, texts-below, result-within}

-- the slots print within these bounds, and what is written is within that one
pub record TextsFit (n m : ℕ) (bounds : List Bound) (w : Bound) (e : Effect) : Type 0 where
  pub stack : AllTexts n m e.stack bounds
  pub written : length e.written ≤ bound_value w n m

-- a value is pushed
fit-push : (n m : ℕ) (v : Value) (stack : List Value) (b : Bound) (bounds : List Bound) →
    length (text_of v) ≤ bound_value b n m → AllTexts n m stack bounds →
    TextsFit n m (b ∷ bounds) (at_most 0) (with_stack (v ∷ stack))
fit-push n m v stack b bounds here rest = record { stack = (here, rest); written = omega arith }

fit-popped : (n m : ℕ) (stack : List Value) (bounds : List Bound) → AllTexts n m stack bounds →
    TextsFit n m bounds (at_most 0) (with_stack stack)
fit-popped n m stack bounds rest = record { stack = rest; written = omega arith }

-- a value is pushed that is read off a loop
fit-loop : (n m : ℕ) (f : Loop → Value) (k : ℕ) (loops : List Loop) (stack : List Value) (b : Bound)
    (bounds : List Bound) (e : Effect) →
    ((l : Loop) → slice_get loops k ≡ Some l → length (text_of (f l)) ≤ bound_value b n m) →
    AllTexts n m stack bounds → of_loop f k loops stack ≡ Some e → TextsFit n m (b ∷ bounds) (at_most 0) e
fit-loop n m f k loops stack b bounds e here rest h =
    map-holds (TextsFit n m (b ∷ bounds) (at_most 0)) (λ l. with_stack (f l ∷ stack)) (slice_get loops k) e
    (λ l is. fit-push n m (f l) stack b bounds (here l is) rest) h

pub texts-fit :
    (code : StackCode) (root : Tree) (n : ℕ) (i : Instr) (loops : List Loop) (stack : List Value)
    (bounds : List Bound) (e : Effect)
    → n < 2 ^ 64 → size root ≤ n → IsTyped i → AreOpen n loops → AllTexts n (innermost loops) stack bounds
    → effect code root i loops stack ≡ Some e
    → TextsFit n (innermost loops) (pushed_bounds code i bounds ++ drop (length (pops i)) bounds)
    (written_bound code i bounds) e
texts-fit code root n (Emit t) loops stack bounds e small le typed held fit h =
    let m = innermost loops in
    map-holds (TextsFit n m bounds (text_bound code t)) (λ text. writes text stack) (slice_get code.texts t) e
    (λ text is. record { stack = fit; written = omega (arith, text-within code t text n m is) }) h
texts-fit code root n (Root p) loops stack bounds e small le typed held fit h =
    let m = innermost loops in
    map-holds (TextsFit n m (all_data ∷ bounds) (at_most 0))
    (λ path. with_stack (a_datum (at path root) ∷ stack)) (slice_get code.paths p) e
    (λ path is. fit-push n m (a_datum (at path root)) stack all_data bounds
    (omega (arith, le, length_print_at path root, bound-all n m)) fit) h
texts-fit code root n (Item zero p) loops stack bounds e small le typed held fit h =
    let m = innermost loops in
    then-holds (TextsFit n m (item_data ∷ bounds) (at_most 0))
    (λ path. of_loop (λ l. a_datum (at path (item_of l))) 0 loops stack) (slice_get code.paths p) e
    (λ path. fit-loop n m (λ l. a_datum (at path (item_of l))) 0 loops stack item_data bounds e
    (λ l is. omega (arith, innermost-at loops l is, length_print_at path (item_of l), bound-item n m)) fit) h
texts-fit code root n (Item (suc k) p) loops stack bounds e small le typed held fit h =
    let m = innermost loops in
    then-holds (TextsFit n m (all_data ∷ bounds) (at_most 0))
    (λ path. of_loop (λ l. a_datum (at path (item_of l))) (suc k) loops stack) (slice_get code.paths p) e
    (λ path. fit-loop n m (λ l. a_datum (at path (item_of l))) (suc k) loops stack all_data bounds e
    (λ l is. omega (
      arith,
      item-size n l (each-open n loops (suc k) l held is),
      length_print_at path (item_of l),
      bound-all n m,
    )) fit) h
texts-fit code root n (Index k) loops stack bounds e small le typed held fit h =
    let m = innermost loops in
    fit-loop n m (λ l. a_number (pos l.turn)) k loops stack (at_most 20) bounds e
    (λ l is. index-within l.turn n m (omega (arith, small, turn-small n l (each-open n loops k l held is)))) fit h
texts-fit code root n (Key k) loops stack bounds e small le typed held fit h =
    let m = innermost loops in
    fit-loop n m (λ l. a_text (key_of l)) k loops stack all_data bounds e
    (λ l is. omega (arith, key-length n l (each-open n loops k l held is), bound-all n m)) fit h
texts-fit code root n (First k) loops stack bounds e small le typed held fit h =
    let m = innermost loops in
    fit-loop n m (λ l. a_truth (nat_eq l.turn 0)) k loops stack (at_most 5) bounds e
    (λ l is. truth-within (nat_eq l.turn 0) n m) fit h
texts-fit code root n (Last k) loops stack bounds e small le typed held fit h =
    let m = innermost loops in
    fit-loop n m (λ l. a_truth (not (has_next l))) k loops stack (at_most 5) bounds e
    (λ l is. truth-within (not (has_next l)) n m) fit h
texts-fit code root n (Text t) loops stack bounds e small le typed held fit h =
    let m = innermost loops in
    map-holds (TextsFit n m (text_bound code t ∷ bounds) (at_most 0))
    (λ text. with_stack (a_text text ∷ stack)) (slice_get code.texts t) e
    (λ text is. fit-push n m (a_text text) stack (text_bound code t) bounds
    (omega (arith, text-within code t text n m is)) fit) h
texts-fit code root n (Number z) loops stack bounds e small le typed held fit h =
    let m = innermost loops in
    some-holds (TextsFit n m (at_most 20 ∷ bounds) (at_most 0)) _ e
    (fit-push n m (a_number z) stack (at_most 20) bounds (number-within z n m typed) fit) h
texts-fit code root n (Truth b) loops stack bounds e small le typed held fit h =
    let m = innermost loops in
    some-holds (TextsFit n m (at_most 5 ∷ bounds) (at_most 0)) _ e
    (fit-push n m (a_truth b) stack (at_most 5) bounds (truth-within b n m) fit) h
texts-fit code root n Show loops [] bounds e small le typed held fit h = absurd (none-some e h)
texts-fit code root n Show loops (v ∷ stack) [] e small le typed held fit h = absurd fit
texts-fit code root n Show loops (a_text s ∷ stack) (b ∷ bounds) e small le typed held fit h =
    absurd (none-some e h)
texts-fit code root n Show loops (a_datum t ∷ stack) (b ∷ bounds) e small le typed held fit h =
    let m = innermost loops in
    some-holds (TextsFit n m (b ∷ bounds) (at_most 0)) _ e
    (fit-push n m (a_text (text_of (a_datum t))) stack b bounds fit.0 fit.1) h
texts-fit code root n Show loops (a_number z ∷ stack) (b ∷ bounds) e small le typed held fit h =
    let m = innermost loops in
    some-holds (TextsFit n m (b ∷ bounds) (at_most 0)) _ e
    (fit-push n m (a_text (text_of (a_number z))) stack b bounds fit.0 fit.1) h
texts-fit code root n Show loops (a_truth t ∷ stack) (b ∷ bounds) e small le typed held fit h =
    let m = innermost loops in
    some-holds (TextsFit n m (b ∷ bounds) (at_most 0)) _ e
    (fit-push n m (a_text (text_of (a_truth t))) stack b bounds fit.0 fit.1) h
texts-fit code root n Test loops [] bounds e small le typed held fit h = absurd (none-some e h)
texts-fit code root n Test loops (v ∷ stack) [] e small le typed held fit h = absurd fit
texts-fit code root n Test loops (v ∷ stack) (b ∷ bounds) e small le typed held fit h =
    let m = innermost loops in
    some-holds (TextsFit n m (at_most 5 ∷ bounds) (at_most 0)) _ e
    (fit-push n m (a_truth (truth_of v)) stack (at_most 5) bounds (truth-within (truth_of v) n m) fit.1) h
texts-fit code root n (Call f) loops stack bounds e small le typed held fit h =
    let m = innermost loops in
    let g = call-given root f stack e h in
    let bound = result-within root f n m stack bounds g.result le fit g.given in
    let rest = texts-below n m (length (argument_kinds f)) stack bounds fit in
    subst (TextsFit n m (helper_bound f bounds ∷ drop (length (pops (Call f))) bounds) (at_most 0))
    (sym g.is)
    (rw (pops-length f) (fit-push n m g.result (drop (length (argument_kinds f)) stack) (helper_bound f bounds)
    (drop (length (argument_kinds f)) bounds) bound rest))
texts-fit code root n Escape loops [] bounds e small le typed held fit h = absurd (none-some e h)
texts-fit code root n Escape loops (v ∷ stack) [] e small le typed held fit h = absurd fit
texts-fit code root n Escape loops (a_text s ∷ stack) (b ∷ bounds) e small le typed held fit h =
    let m = innermost loops in
    some-holds (TextsFit n m (times_bound 6 b ∷ bounds) (at_most 0)) _ e
    (fit-push n m (a_text (html_escaped s)) stack (times_bound 6 b) bounds
    (omega (arith, fit.0, escaped-length s, bound-times 6 b n m)) fit.1) h
texts-fit code root n Escape loops (v ∷ stack) (b ∷ bounds) e small le typed held fit h = absurd (none-some e h)
texts-fit code root n Print loops [] bounds e small le typed held fit h = absurd (none-some e h)
texts-fit code root n Print loops (v ∷ stack) [] e small le typed held fit h = absurd fit
texts-fit code root n Print loops (a_text s ∷ stack) (b ∷ bounds) e small le typed held fit h =
    let m = innermost loops in
    some-holds (TextsFit n m bounds b) (writes s stack) e (record { stack = fit.1; written = fit.0 }) h
texts-fit code root n Print loops (v ∷ stack) (b ∷ bounds) e small le typed held fit h = absurd (none-some e h)
texts-fit code root n (Branch a) loops [] bounds e small le typed held fit h = absurd (none-some e h)
texts-fit code root n (Branch a) loops (v ∷ stack) [] e small le typed held fit h = absurd fit
texts-fit code root n (Branch a) loops (a_truth t ∷ stack) (b ∷ bounds) e small le typed held fit h =
    some-holds (TextsFit n (innermost loops) bounds (at_most 0)) _ e
    (fit-popped n (innermost loops) stack bounds fit.1) h
texts-fit code root n (Branch a) loops (v ∷ stack) (b ∷ bounds) e small le typed held fit h = absurd (none-some e h)
texts-fit code root n (Each a) loops [] bounds e small le typed held fit h = absurd (none-some e h)
texts-fit code root n (Each a) loops (v ∷ stack) [] e small le typed held fit h = absurd fit
texts-fit code root n (Each a) loops (a_datum t ∷ stack) (b ∷ bounds) e small le typed held fit h =
    some-holds (TextsFit n (innermost loops) bounds (at_most 0)) _ e
    (fit-popped n (innermost loops) stack bounds fit.1) h
texts-fit code root n (Each a) loops (v ∷ stack) (b ∷ bounds) e small le typed held fit h = absurd (none-some e h)
texts-fit code root n (Next a) [] stack bounds e small le typed held fit h = absurd (none-some e h)
texts-fit code root n (Next a) (l ∷ loops) stack bounds e small le typed held fit h =
    some-holds (TextsFit n (innermost (l ∷ loops)) bounds (at_most 0)) _ e
    (fit-popped n (innermost (l ∷ loops)) stack bounds fit) h
texts-fit code root n (Jump a) loops stack bounds e small le typed held fit h =
    some-holds (TextsFit n (innermost loops) bounds (at_most 0)) _ e (fit-popped n (innermost loops) stack bounds fit) h
texts-fit code root n Halt loops stack bounds e small le typed held fit h =
    some-holds (TextsFit n (innermost loops) bounds (at_most 0)) _ e (fit-popped n (innermost loops) stack bounds fit) h
