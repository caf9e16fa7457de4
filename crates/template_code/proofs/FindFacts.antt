-- Over two roots in which code finds the same, it has the same runs.
use Rattle.std.proofs.Common.{◌≡◌, ◌<◌, ◌≤◌, ℕ, zero, suc, ◌⊎◌, inl, inr, List, [], ◌∷◌, length, Option, Some, None, Bool, true}
use Rattle.std.proofs.Common.{false, refl, sym, ap, subst, arith, ◌∙◌}
use Rattle.std.specs.Prelude.{slice_get, option_map, option_and_then, if◌then◌else◌, take, drop, reverse, ◌++◌}
use Rattle.std.specs.Option.{option_map_or}
use Rattle.std.proofs.lemmas.Option.{none-some, same_Some, option_and_then_some}
use Rattle.data_tree.specs.Tree.{Tree, nothing}
use Rattle.data_tree.specs.LookUp.{at}
use Rattle.data_tree.specs.Parts.{items}
use Rattle.data_tree.specs.declared.step.Step.{Step}
use Rattle.json_bridge.specs.PathFound.{path_of}
use Rattle.helper_set.specs.Helpers.{applied, argument_kinds, is_looked_up}
use Rattle.helper_set.specs.Values.{Value, a_datum, a_text, truth_of}
use Rattle.helper_set.specs.declared.helper.Helper.{Helper}
use Rattle.helper_set.specs.declared.helper.Helper.TheVariants.{JsonPath}
use Rattle.template_code.specs.Code.{StackCode}
use Rattle.template_code.specs.Finds.{HaveSameJson, IsPushedBefore, LiteralFindsSame, JumpFindsSame}
use Rattle.template_code.specs.Finds.{FindsSameBy, IsUnread, FindSame}
use Rattle.template_code.specs.Instructions.{flow}
use Rattle.template_code.specs.Machine.{Loop, State, Effect, with_stack, found_by, looked_up, result_of, called, effect}
use Rattle.template_code.specs.Machine.{Way, has_next, opened, closed, way, state_after}
use Rattle.template_code.specs.Machine.{next_state, act, step, advance, IsAtHalt, Runs, first}
use Rattle.template_code.specs.declared.flow.Flow.{Flow}
use Rattle.template_code.specs.declared.instr.Instr.{Instr}
use Rattle.template_code.specs.declared.instr.Instr.TheVariants.{Emit, Root, Item, Index, Key, First, Last, Text}
use Rattle.template_code.specs.declared.instr.Instr.TheVariants.{Number, Truth, Show, Test, Call, Escape, Print, Jump}
use Rattle.template_code.specs.declared.instr.Instr.TheVariants.{Branch, Each, Next, Halt}

-- two functions that give the same of what is there
same_and_then : {A B : Type 0} (f g : A → Option B) (o : Option A) → ((x : A) → o ≡ Some x → f x ≡ g x)
    → option_and_then f o ≡ option_and_then g o
same_and_then f g None h = refl
same_and_then f g (Some x) h = h x refl

same_map : {A B : Type 0} (f g : A → B) (o : Option A) → ((x : A) → o ≡ Some x → f x ≡ g x)
    → option_map f o ≡ option_map g o
same_map f g None h = refl
same_map f g (Some x) h = ap Some (h x refl)

same_looked_up : (r r' : Tree) (arguments : List Value) → HaveSameJson r r'
    → looked_up r arguments ≡ looked_up r' arguments
same_looked_up r r' (a_datum t ∷ a_text s ∷ []) h =
    ap (λ body. Some (a_datum (option_map_or (λ path. at path body) (path_of s) nothing))) h
same_looked_up r r' arguments h = refl

same_choice : (b : Bool) (x y other : Option Value) → (b ≡ true → x ≡ y)
    → (if b then x else other) ≡ (if b then y else other)
same_choice true x y other h = h refl
same_choice false x y other h = refl

same_result : (r r' : Tree) (h : Helper) (arguments : List Value) → (is_looked_up h ≡ true → HaveSameJson r r')
    → result_of r h arguments ≡ result_of r' h arguments
same_result r r' h arguments same =
    same_choice (is_looked_up h) (looked_up r arguments) (looked_up r' arguments) (applied h arguments)
    (λ e. same_looked_up r r' arguments (same e))

-- the text on top of the stack finds the same in both
record TopFindsSame (r r' : Tree) (stack : List Value) : Type 0 where
  text : List ℕ
  below : List Value
  top : stack ≡ a_text text ∷ below
  same : found_by r text ≡ found_by r' text

same_by_top : (r r' : Tree) (h : Helper) (text : List ℕ) (below : List Value) → is_looked_up h ≡ true
    → found_by r text ≡ found_by r' text → called r h (a_text text ∷ below) ≡ called r' h (a_text text ∷ below)
same_by_top r r' JsonPath text [] is same = refl
same_by_top r r' JsonPath text (a_datum t ∷ below) is same =
    ap (λ found. Some (with_stack (a_datum found ∷ below))) same
same_by_top r r' JsonPath text (v ∷ below) is same = refl
same_by_top r r' h text below is same = absurd (cc is)

-- what the helper looks up is the same in both
abbrev LooksUpSame : Tree → Tree → Helper → List Value → Type 0
LooksUpSame r r' h stack = is_looked_up h ≡ true → HaveSameJson r r' ⊎ TopFindsSame r r' stack

same_called : (r r' : Tree) (h : Helper) (stack : List Value) → LooksUpSame r r' h stack
    → called r h stack ≡ called r' h stack
same_called r r' h stack same = by (is_looked_up h) refl
  where
    count : ℕ
    count = length (argument_kinds h)

    by_json : (is_looked_up h ≡ true → HaveSameJson r r') → called r h stack ≡ called r' h stack
    by_json json =
        ap (option_map (λ v. with_stack (v ∷ drop count stack)))
        (same_result r r' h (reverse (take count stack)) json)

    by_either : is_looked_up h ≡ true → HaveSameJson r r' ⊎ TopFindsSame r r' stack
        → called r h stack ≡ called r' h stack
    by_either is (inl json) = by_json (λ e. json)
    by_either is (inr top) =
        subst (λ slots. called r h slots ≡ called r' h slots) (sym top.top)
        (same_by_top r r' h top.text top.below is top.same)

    by : (b : Bool) → is_looked_up h ≡ b → called r h stack ≡ called r' h stack
    by true is = by_either is (same is)
    by false other = by_json (λ is. absurd (cc (sym other ∙ is)))

same_effect : (code : StackCode) (r r' : Tree) (index : ℕ) (i : Instr) (loops : List Loop) (stack : List Value)
    → FindsSameBy code r r' index i → ((h : Helper) → i ≡ Call h → LooksUpSame r r' h stack)
    → effect code r i loops stack ≡ effect code r' i loops stack
same_effect code r r' index (Root p) loops stack h ready =
    same_map (λ path. with_stack (a_datum (at path r) ∷ stack))
    (λ path. with_stack (a_datum (at path r') ∷ stack))
    (slice_get code.paths p) (λ path e. ap (λ t. with_stack (a_datum t ∷ stack)) (h path e))
same_effect code r r' index (Call h) loops stack same ready = same_called r r' h stack (ready h refl)
same_effect code r r' index (Emit t) loops stack h ready = refl
same_effect code r r' index (Item k p) loops stack h ready = refl
same_effect code r r' index (Index k) loops stack h ready = refl
same_effect code r r' index (Key k) loops stack h ready = refl
same_effect code r r' index (First k) loops stack h ready = refl
same_effect code r r' index (Last k) loops stack h ready = refl
same_effect code r r' index (Text t) loops stack h ready = refl
same_effect code r r' index (Number n) loops stack h ready = refl
same_effect code r r' index (Truth b) loops stack h ready = refl
same_effect code r r' index Show loops [] h ready = refl
same_effect code r r' index Show loops (a_text s ∷ stack) h ready = refl
same_effect code r r' index Show loops (v ∷ stack) h ready = refl
same_effect code r r' index Test loops [] h ready = refl
same_effect code r r' index Test loops (v ∷ stack) h ready = refl
same_effect code r r' index Escape loops [] h ready = refl
same_effect code r r' index Escape loops (v ∷ stack) h ready = refl
same_effect code r r' index Print loops [] h ready = refl
same_effect code r r' index Print loops (v ∷ stack) h ready = refl
same_effect code r r' index (Jump a) loops stack h ready = refl
same_effect code r r' index (Branch a) loops [] h ready = refl
same_effect code r r' index (Branch a) loops (v ∷ stack) h ready = refl
same_effect code r r' index (Each a) loops [] h ready = refl
same_effect code r r' index (Each a) loops (v ∷ stack) h ready = refl
same_effect code r r' index (Next a) loops stack h ready = refl
same_effect code r r' index Halt loops stack h ready = refl

-- a helper that is called in that state looks the same up in both
abbrev IsReady : StackCode → Tree → Tree → State → Type 0
IsReady code r r' s = (h : Helper) → slice_get code.instrs s.index ≡ Some (Call h) → LooksUpSame r r' h s.stack

-- the step that the instruction at the state's index makes
step_by : (code : StackCode) (root : Tree) (s : State) (i : Instr) → slice_get code.instrs s.index ≡ Some i
    → step code root s ≡ act code root i s
step_by code root s i here = ap (option_and_then (λ i. act code root i s)) here

same_step : (code : StackCode) (r r' : Tree) (s : State) (i : Instr) → slice_get code.instrs s.index ≡ Some i
    → FindsSameBy code r r' s.index i → IsReady code r r' s → step code r s ≡ step code r' s
same_step code r r' s i here same ready =
    step_by code r s i here
    ∙ (ap (option_and_then (next_state (flow i) s))
    (same_effect code r r' s.index i s.loops s.stack same (λ h is. ready h (here ∙ ap Some is)))
    ∙ sym (step_by code r' s i here))

-- each jump of the flow
abbrev JumpsFindSame : StackCode → Tree → Tree → Flow → Type 0
JumpsFindSame code r r' (Flow.Jump target) = JumpFindsSame code r r' target
JumpsFindSame code r r' (Flow.Branch target) = JumpFindsSame code r r' target
JumpsFindSame code r r' (Flow.Open target) = JumpFindsSame code r r' target
JumpsFindSame code r r' (Flow.Close start) = JumpFindsSame code r r' start
JumpsFindSame code r r' f = Unit {0}

jumps_find_same : (code : StackCode) (r r' : Tree) (index : ℕ) (i : Instr)
    → IsUnread code index i ⊎ FindsSameBy code r r' index i → JumpsFindSame code r r' (flow i)
jumps_find_same code r r' index i (inl unread) =
    subst (λ i. JumpsFindSame code r r' (flow i)) (sym unread.pushes) tt
jumps_find_same code r r' index i (inr same) = of_flow i same
  where
    of_flow : (i : Instr) → FindsSameBy code r r' index i → JumpsFindSame code r r' (flow i)
    of_flow (Jump target) same = same
    of_flow (Branch target) same = same
    of_flow (Each target) same = same
    of_flow (Next start) same = same
    of_flow i same = tt

-- a run comes to an index from the one before it, or by a jump
abbrev Leads : StackCode → Tree → Tree → ℕ → Way → Type 0
Leads code r r' index w = (w.index ≡ suc index) ⊎ JumpFindsSame code r r' w.index

branch_leads : (code : StackCode) (r r' : Tree) (index target : ℕ) (loops : List Loop) (b : Bool)
    → JumpFindsSame code r r' target
    → Leads code r r' index (record { index = if b then suc index else target; loops = loops })
branch_leads code r r' index target loops true jump = inl refl
branch_leads code r r' index target loops false jump = inr jump

opened_leads : (code : StackCode) (r r' : Tree) (index target : ℕ) (over : Tree) (found : List Tree)
    (loops : List Loop) → JumpFindsSame code r r' target
    → Leads code r r' index (opened target (suc index) over found loops)
opened_leads code r r' index target over [] loops jump = inr jump
opened_leads code r r' index target over (item ∷ later) loops jump = inl refl

closed_leads : (code : StackCode) (r r' : Tree) (index start : ℕ) (l : Loop) (loops : List Loop)
    → JumpFindsSame code r r' start → Leads code r r' index (closed start (suc index) l loops)
closed_leads code r r' index start l loops jump = by (has_next l)
  where
    by : (b : Bool) → Leads code r r' index
        (if b then record { index = start; loops = record { over = l.over; turn = suc l.turn } ∷ loops }
        else record { index = suc index; loops = loops })
    by true = inr jump
    by false = inl refl

way_leads : (code : StackCode) (r r' : Tree) (f : Flow) (index : ℕ) (loops : List Loop) (stack : List Value) (w : Way)
    → JumpsFindSame code r r' f → way f index loops stack ≡ Some w → Leads code r r' index w
way_leads code r r' Flow.Straight index loops stack w jump goes =
    subst (Leads code r r' index) (same_Some _ w goes) (inl refl)
way_leads code r r' (Flow.Jump a) index loops stack w jump goes =
    subst (Leads code r r' index) (same_Some _ w goes) (inr jump)
way_leads code r r' (Flow.Branch a) index loops [] w jump goes = absurd (none-some w goes)
way_leads code r r' (Flow.Branch a) index loops (v ∷ stack) w jump goes =
    subst (Leads code r r' index) (same_Some _ w goes) (branch_leads code r r' index a loops (truth_of v) jump)
way_leads code r r' (Flow.Open a) index loops (a_datum t ∷ stack) w jump goes =
    subst (Leads code r r' index) (same_Some _ w goes) (opened_leads code r r' index a t (items t) loops jump)
way_leads code r r' (Flow.Open a) index loops stack w jump goes = absurd (none-some w goes)
way_leads code r r' (Flow.Close a) index [] stack w jump goes = absurd (none-some w goes)
way_leads code r r' (Flow.Close a) index (l ∷ loops) stack w jump goes =
    subst (Leads code r r' index) (same_Some _ w goes) (closed_leads code r r' index a l loops jump)
way_leads code r r' Flow.End index loops stack w jump goes = absurd (none-some w goes)

-- the instruction, its effect and its way that lead from the one state to the other
record Move (code : StackCode) (root : Tree) (s t : State) : Type 0 where
  instr : Instr
  effects : Effect
  goes : Way
  here : slice_get code.instrs s.index ≡ Some instr
  does : effect code root instr s.loops s.stack ≡ Some effects
  leads : way (flow instr) s.index s.loops s.stack ≡ Some goes
  after : state_after s effects goes ≡ t

move_on : (code : StackCode) (root : Tree) (s t : State) (i : Instr) (e : Effect) (o : Option Way)
    → slice_get code.instrs s.index ≡ Some i → effect code root i s.loops s.stack ≡ Some e
    → way (flow i) s.index s.loops s.stack ≡ o → option_map (state_after s e) o ≡ Some t → Move code root s t
move_on code root s t i e None here does leads after = absurd (none-some t after)
move_on code root s t i e (Some w) here does leads after = record {
  instr = i;
  effects = e;
  goes = w;
  here = here;
  does = does;
  leads = leads;
  after = same_Some (state_after s e w) t after;
}

move_of : (code : StackCode) (root : Tree) (s t : State) → step code root s ≡ Some t → Move code root s t
move_of code root s t moved =
    option_and_then_some (λ i. act code root i s) (slice_get code.instrs s.index) t moved (λ i here acts.
    option_and_then_some (next_state (flow i) s) (effect code root i s.loops s.stack) t acts (λ e does leads.
    move_on code root s t i e (way (flow i) s.index s.loops s.stack) here does refl leads))

-- a literal is on top of the stack after the instruction that pushes it
literal_on_top : (code : StackCode) (r r' : Tree) (s t : State) (move : Move code r s t) (text : List ℕ)
    → move.goes.index ≡ suc s.index → IsPushedBefore code t.index text → found_by r text ≡ found_by r' text
    → TopFindsSame r r' t.stack
literal_on_top code r r' s t move text next pushed same =
    let is_next : t.index ≡ suc s.index = sym (ap (λ (u : State). u.index) move.after) ∙ next in
    let here : s.index ≡ pushed.before = omega (arith, pushed.next, is_next) in
    let is : move.instr ≡ Text pushed.entry =
    same_Some move.instr (Text pushed.entry) (sym move.here ∙ (ap (slice_get code.instrs) here ∙ pushed.pushes)) in
    let pushes : effect code r (Text pushed.entry) s.loops s.stack ≡ Some move.effects =
    subst (λ (i : Instr). effect code r i s.loops s.stack ≡ Some move.effects) is move.does in
    let leaves : Some (with_stack (a_text text ∷ s.stack)) ≡ Some move.effects =
    sym (ap (option_map (λ text. with_stack (a_text text ∷ s.stack))) pushed.literal) ∙ pushes in
    let top : a_text text ∷ s.stack ≡ move.effects.stack =
    ap (λ (e : Effect). e.stack) (same_Some _ move.effects leaves) in
    record {
      text = text;
      below = s.stack;
      top = sym (top ∙ ap (λ (u : State). u.stack) move.after);
      same = same;
    }

ready_next : (code : StackCode) (r r' : Tree) (s t : State) → FindSame code r r' → step code r s ≡ Some t
    → IsReady code r r' t
ready_next code r r' s t same moved h called is = by_call (same t.index (Call h) called)
  where
    move : Move code r s t
    move = move_of code r s t moved

    by_way : LiteralFindsSame code r r' t.index → Leads code r r' s.index move.goes
        → HaveSameJson r r' ⊎ TopFindsSame r r' t.stack
    by_way literal (inl next) = inr (literal_on_top code r r' s t move literal.0 next literal.1 literal.2)
    by_way literal (inr jump) =
        inl (jump h (ap (slice_get code.instrs) (ap (λ (u : State). u.index) move.after) ∙ called) is)

    by : HaveSameJson r r' ⊎ LiteralFindsSame code r r' t.index → HaveSameJson r r' ⊎ TopFindsSame r r' t.stack
    by (inl json) = inl json
    by (inr literal) =
        by_way literal (way_leads code r r' (flow move.instr) s.index s.loops s.stack move.goes
        (jumps_find_same code r r' s.index move.instr (same s.index move.instr move.here)) move.leads)

    by_call : IsUnread code t.index (Call h) ⊎ FindsSameBy code r r' t.index (Call h)
        → HaveSameJson r r' ⊎ TopFindsSame r r' t.stack
    by_call (inl unread) = absurd (cc unread.pushes)
    by_call (inr reads) = by (reads is)

-- no instruction is before the first
ready_first : (code : StackCode) (r r' : Tree) → FindSame code r r' → IsReady code r r' first
ready_first code r r' same h called is = by_call (same 0 (Call h) called)
  where
    by : HaveSameJson r r' ⊎ LiteralFindsSame code r r' 0 → HaveSameJson r r' ⊎ TopFindsSame r r' []
    by (inl json) = inl json
    by (inr literal) = absurd (omega (arith, literal.1.next))

    by_call : IsUnread code 0 (Call h) ⊎ FindsSameBy code r r' 0 (Call h) → HaveSameJson r r' ⊎ TopFindsSame r r' []
    by_call (inl unread) = absurd (cc unread.pushes)
    by_call (inr reads) = by (reads is)

-- ---- what nobody reads

-- what the literal that `jsonPath` reads finds is the same in both
same_found : (code : StackCode) (r r' : Tree) (before entry : ℕ) (text : List ℕ) → FindSame code r r'
    → slice_get code.instrs before ≡ Some (Text entry) → slice_get code.texts entry ≡ Some text
    → slice_get code.instrs (suc before) ≡ Some (Call JsonPath) → found_by r text ≡ found_by r' text
same_found code r r' before entry text same pushes literal taken = by_call (same (suc before) (Call JsonPath) taken)
  where
    by_literal : (other : List ℕ) → IsPushedBefore code (suc before) other → found_by r other ≡ found_by r' other
        → found_by r text ≡ found_by r' text
    by_literal other pushed finds =
        let here : before ≡ pushed.before = omega (arith, pushed.next) in
        let is : Text entry ≡ Text pushed.entry =
        same_Some (Text entry) (Text pushed.entry) (sym pushes ∙ (ap (slice_get code.instrs) here ∙ pushed.pushes)) in
        let entries : entry ≡ pushed.entry = cc is in
        let texts : text ≡ other =
        same_Some text other (sym literal ∙ (ap (slice_get code.texts) entries ∙ pushed.literal)) in
        subst (λ text. found_by r text ≡ found_by r' text) (sym texts) finds

    by : HaveSameJson r r' ⊎ LiteralFindsSame code r r' (suc before) → found_by r text ≡ found_by r' text
    by (inl json) = ap (λ body. option_map_or (λ path. at path body) (path_of text) nothing) json
    by (inr literal) = by_literal literal.0 literal.1 literal.2

    by_call : IsUnread code (suc before) (Call JsonPath) ⊎ FindsSameBy code r r' (suc before) (Call JsonPath)
        → found_by r text ≡ found_by r' text
    by_call (inl unread) = absurd (cc unread.pushes)
    by_call (inr reads) = by (reads refl)

-- three instructions, of which the first pushes what nobody reads, with the path that it finds, and the text
record Unread (code : StackCode) (s : State) : Type 0 where
  path_entry : ℕ
  text_entry : ℕ
  path : List Step
  text : List ℕ
  pushes : slice_get code.instrs s.index ≡ Some (Root path_entry)
  next : slice_get code.instrs (suc s.index) ≡ Some (Text text_entry)
  taken : slice_get code.instrs (suc (suc s.index)) ≡ Some (Call JsonPath)
  has_path : slice_get code.paths path_entry ≡ Some path
  has_text : slice_get code.texts text_entry ≡ Some text

-- the states after its three instructions
abbrev after_root : (code : StackCode) (root : Tree) (s : State) → Unread code s → State
after_root code root s u = record {
  index = suc s.index;
  stack = a_datum (at u.path root) ∷ s.stack;
  loops = s.loops;
  output = s.output ++ [];
}

abbrev after_text : (code : StackCode) (root : Tree) (s : State) → Unread code s → State
after_text code root s u = record {
  index = suc (suc s.index);
  stack = a_text u.text ∷ a_datum (at u.path root) ∷ s.stack;
  loops = s.loops;
  output = (s.output ++ []) ++ [];
}

abbrev after_call : (code : StackCode) (s : State) → Unread code s → Tree → State
after_call code s u found = record {
  index = suc (suc (suc s.index));
  stack = a_datum found ∷ s.stack;
  loops = s.loops;
  output = ((s.output ++ []) ++ []) ++ [];
}

step_root : (code : StackCode) (root : Tree) (s : State) (u : Unread code s)
    → step code root s ≡ Some (after_root code root s u)
step_root code root s u =
    step_by code root s (Root u.path_entry) u.pushes
    ∙ ap (λ o. option_and_then (next_state Flow.Straight s)
    (option_map (λ path. with_stack (a_datum (at path root) ∷ s.stack)) o)) u.has_path

step_text : (code : StackCode) (root : Tree) (s : State) (u : Unread code s)
    → step code root (after_root code root s u) ≡ Some (after_text code root s u)
step_text code root s u =
    step_by code root (after_root code root s u) (Text u.text_entry) u.next
    ∙ ap (λ o. option_and_then (next_state Flow.Straight (after_root code root s u))
    (option_map (λ text. with_stack (a_text text ∷ a_datum (at u.path root) ∷ s.stack)) o)) u.has_text

step_call : (code : StackCode) (root : Tree) (s : State) (u : Unread code s)
    → step code root (after_text code root s u) ≡ Some (after_call code s u (found_by root u.text))
step_call code root s u = step_by code root (after_text code root s u) (Call JsonPath) u.taken

three_steps : (code : StackCode) (root : Tree) (s : State) (u : Unread code s) (n : ℕ)
    → advance code root (suc (suc (suc n))) s ≡ advance code root n (after_call code s u (found_by root u.text))
three_steps code root s u n =
    ap (option_and_then (advance code root (suc (suc n)))) (step_root code root s u)
    ∙ (ap (option_and_then (advance code root (suc n))) (step_text code root s u)
    ∙ ap (option_and_then (advance code root n)) (step_call code root s u))

-- the moves that lead to `Halt` over the one root do so over the other
abbrev EndSame : StackCode → Tree → Tree → ℕ → State → State → Type 0
EndSame code r r' n s last =
    advance code r n s ≡ Some last → IsAtHalt code last → advance code r' n s ≡ Some last

-- a step that is no jump comes to the next index
goes_on : (code : StackCode) (root : Tree) (s t : State) (i : Instr) → slice_get code.instrs s.index ≡ Some i
    → flow i ≡ Flow.Straight → step code root s ≡ Some t → t.index ≡ suc s.index
goes_on code root s t i here is moved =
    let move : Move code root s t = move_of code root s t moved in
    let same : move.instr ≡ i = same_Some move.instr i (sym move.here ∙ here) in
    let goes : Some (record { index = suc s.index; loops = s.loops }) ≡ Some move.goes =
    subst (λ f. way f s.index s.loops s.stack ≡ Some move.goes) (ap flow same ∙ is) move.leads in
    sym (ap (λ (u : State). u.index) move.after) ∙ sym (ap (λ (w : Way). w.index) (same_Some _ move.goes goes))

-- such a step has its path, or its text
path_there : (code : StackCode) (root : Tree) (s t : State) (p : ℕ) → slice_get code.instrs s.index ≡ Some (Root p)
    → step code root s ≡ Some t → (path : List Step) × (slice_get code.paths p ≡ Some path)
path_there code root s t p here moved = by (slice_get code.paths p) refl
  where
    by : (o : Option (List Step)) → slice_get code.paths p ≡ o
        → (path : List Step) × (slice_get code.paths p ≡ Some path)
    by None is =
        absurd (none-some t (sym (step_by code root s (Root p) here
        ∙ ap (λ o. option_and_then (next_state Flow.Straight s)
        (option_map (λ path. with_stack (a_datum (at path root) ∷ s.stack)) o)) is) ∙ moved))
    by (Some path) is = (path, is)

text_there : (code : StackCode) (root : Tree) (s t : State) (e : ℕ) → slice_get code.instrs s.index ≡ Some (Text e)
    → step code root s ≡ Some t → (text : List ℕ) × (slice_get code.texts e ≡ Some text)
text_there code root s t e here moved = by (slice_get code.texts e) refl
  where
    by : (o : Option (List ℕ)) → slice_get code.texts e ≡ o → (text : List ℕ) × (slice_get code.texts e ≡ Some text)
    by None is =
        absurd (none-some t (sym (step_by code root s (Text e) here
        ∙ ap (λ o. option_and_then (next_state Flow.Straight s)
        (option_map (λ text. with_stack (a_text text ∷ s.stack)) o)) is) ∙ moved))
    by (Some text) is = (text, is)

-- a run that comes to what nobody reads ends after that, where it is as the other
unread_ends : (code : StackCode) (r r' : Tree) (n : ℕ) (s last : State) (i : Instr)
    → slice_get code.instrs s.index ≡ Some i → IsUnread code s.index i → FindSame code r r'
    → ((k : ℕ) (t : State) → k < n → IsReady code r r' t → EndSame code r r' k t last) → EndSame code r r' n s last
unread_ends code r r' n s last i is unread same later = by n later
  where
    here : slice_get code.instrs s.index ≡ Some (Root unread.path)
    here = is ∙ ap Some unread.pushes

    second : (t : State) → step code r s ≡ Some t → t.index ≡ suc s.index
    second t moved = goes_on code r s t (Root unread.path) here refl moved

    is_text : (t : State) → step code r s ≡ Some t → slice_get code.instrs t.index ≡ Some (Text unread.entry)
    is_text t moved = ap (slice_get code.instrs) (second t moved) ∙ unread.next

    is_call : (t u : State) → step code r s ≡ Some t → step code r t ≡ Some u
        → slice_get code.instrs u.index ≡ Some (Call JsonPath)
    is_call t u moved more =
        ap (slice_get code.instrs)
        (goes_on code r t u (Text unread.entry) (is_text t moved) refl more ∙ ap suc (second t moved)) ∙ unread.taken

    whole : (t u : State) → step code r s ≡ Some t → step code r t ≡ Some u → Unread code s
    whole t u moved more =
        let path = path_there code r s t unread.path here moved in
        let text = text_there code r t u unread.entry (is_text t moved) more in
        record {
          path_entry = unread.path;
          text_entry = unread.entry;
          path = path.0;
          text = text.0;
          pushes = here;
          next = unread.next;
          taken = unread.taken;
          has_path = path.1;
          has_text = text.1;
        }

    after : (k : ℕ) (u : Unread code s)
        → ((t : State) → IsReady code r r' t → EndSame code r r' k t last)
        → EndSame code r r' (suc (suc (suc k))) s last
    after k u rest goes halts =
        let found : found_by r u.text ≡ found_by r' u.text =
        same_found code r r' (suc s.index) u.text_entry u.text same u.next u.has_text u.taken in
        let third : State = after_call code s u (found_by r u.text) in
        let ready : IsReady code r r' third =
        ready_next code r r' (after_text code r s u) third same (step_call code r s u) in
        three_steps code r' s u k
        ∙ (ap (λ found. advance code r' k (after_call code s u found)) (sym found)
        ∙ rest third ready (sym (three_steps code r s u k) ∙ goes) halts)

    by : (n : ℕ) → ((k : ℕ) (t : State) → k < n → IsReady code r r' t → EndSame code r r' k t last)
        → EndSame code r r' n s last
    by zero rest goes halts = goes
    by (suc zero) rest goes halts =
        option_and_then_some (advance code r zero) (step code r s) last goes (λ t moved ended.
        absurd (cc (sym (is_text t moved)
        ∙ (ap (λ (u : State). slice_get code.instrs u.index) (same_Some t last ended) ∙ halts))))
    by (suc (suc zero)) rest goes halts =
        option_and_then_some (advance code r (suc zero)) (step code r s) last goes (λ t moved more.
        option_and_then_some (advance code r zero) (step code r t) last more (λ u moved_on ended.
        absurd (cc (sym (is_call t u moved moved_on)
        ∙ (ap (λ (u : State). slice_get code.instrs u.index) (same_Some u last ended) ∙ halts)))))
    by (suc (suc (suc k))) rest goes halts =
        option_and_then_some (advance code r (suc (suc k))) (step code r s) last goes (λ t moved more.
        option_and_then_some (advance code r (suc k)) (step code r t) last more (λ u moved_on ended.
        after k (whole t u moved moved_on) (λ t ready. rest k t (omega (arith)) ready) goes halts))

same_ends : (code : StackCode) (r r' : Tree) (fuel n : ℕ) (s last : State) → n ≤ fuel → FindSame code r r'
    → IsReady code r r' s → EndSame code r r' n s last
same_ends code r r' zero zero s last fits same ready goes halts = goes
same_ends code r r' zero (suc n) s last fits same ready goes halts = absurd (omega (arith, fits))
same_ends code r r' (suc fuel) zero s last fits same ready goes halts = goes
same_ends code r r' (suc fuel) (suc n) s last fits same ready goes halts =
    option_and_then_some (advance code r n) (step code r s) last goes (λ t moved ended.
    let move : Move code r s t = move_of code r s t moved in
    by (λ k t below ready. same_ends code r r' fuel k t last (omega (arith, fits, below)) same ready)
    t moved ended move.instr move.here (same s.index move.instr move.here))
  where
    by : ((k : ℕ) (t : State) → k < suc n → IsReady code r r' t → EndSame code r r' k t last) → (t : State)
        → step code r s ≡ Some t → advance code r n t ≡ Some last → (i : Instr)
        → slice_get code.instrs s.index ≡ Some i → IsUnread code s.index i ⊎ FindsSameBy code r r' s.index i
        → advance code r' (suc n) s ≡ Some last
    by later t moved ended i here (inl unread) =
        unread_ends code r r' (suc n) s last i here unread same later goes halts
    by later t moved ended i here (inr reads) =
        ap (option_and_then (advance code r' n)) (sym (same_step code r r' s i here reads ready) ∙ moved)
        ∙ later n t (omega (arith)) (ready_next code r r' s t same moved) ended halts

pub same_runs : (code : StackCode) (r r' : Tree) (steps : ℕ) (text : List ℕ) → FindSame code r r'
    → Runs code r steps text → Runs code r' steps text
same_runs code r r' steps text same run =
    let ends = run.1 in
    let moves = same_ends code r r' ends.0 ends.0 first run.0 (omega (arith)) same (ready_first code r r' same)
    ends.2 ends.3 in
    (run.0, (ends.0, ends.1, moves, ends.3), run.2)
