-- What one more event does to the live mappings and to the states of scenarios, and that a checkpoint changes
-- neither.
use Rattle.std.proofs.Common.{◌≡◌, ℕ, ◌+◌, Bool, true, false, not, ◌||◌, cond, List, [], ◌∷◌, ◌++◌, length, map, Option}
use Rattle.std.proofs.Common.{Some, None, refl, sym, ap, ◌∙◌, arith, append-nil, append_assoc}
use Rattle.std.specs.List.{list_any, filter}
use Rattle.std.specs.Option.{option_or, unwrap_or}
use Rattle.scenario_core.specs.Scenarios.{state_of}
use Rattle.request_journal.specs.Events.{last_of}
use Rattle.request_journal.specs.Legal.{IsCheckpoint}
use Rattle.request_journal.specs.Live.{live, adds, added_by, edit_of, edited, is_removed, left_by, removes}
use Rattle.request_journal.specs.Past.{Past, Placed, with_event, last_number}
use Rattle.request_journal.specs.State.{state, touch}
use Rattle.request_journal.specs.declared.event.Event.{Event}
use Rattle.request_journal.specs.declared.mapping.Mapping.{Mapping}

-- ---- one more item

or_false : (p : Bool) → (p || false) ≡ p
or_false true = refl
or_false false = refl

or_more : (p q r s : Bool) → q ≡ (r || s) → (p || q) ≡ ((p || r) || s)
or_more true q r s e = refl
or_more false q r s e = e

pub any_one : {X : Type 0} (test : X → Bool) (xs : List X) (x : X)
    → list_any test (xs ++ x ∷ []) ≡ (list_any test xs || test x)
any_one test [] x = or_false (test x)
any_one test (y ∷ ys) x = or_more (test y) _ (list_any test ys) (test x) (any_one test ys x)

or_none : {X : Type 0} (o : Option X) → o ≡ option_or o None
or_none None = refl
or_none (Some x) = refl

or_assoc : {X : Type 0} (o p q : Option X) → option_or (option_or o p) q ≡ option_or o (option_or p q)
or_assoc None p q = refl
or_assoc (Some x) p q = refl

pub last_one : {X Y : Type 0} (says : X → Option Y) (xs : List X) (x : X)
    → last_of says (xs ++ x ∷ []) ≡ option_or (says x) (last_of says xs)
last_one says [] x = or_none (says x)
last_one says (y ∷ ys) x =
    ap (λ o. option_or o (says y)) (last_one says ys x) ∙ or_assoc (says x) (last_of says ys) (says y)

pub unwrap_or_more : {X : Type 0} (o p : Option X) (d : X)
    → unwrap_or (option_or o p) d ≡ unwrap_or o (unwrap_or p d)
unwrap_or_more None p d = refl
unwrap_or_more (Some x) p d = refl

-- ---- what is left

pub gone : (es : List Event) (p : Placed) (ps : List Placed) → is_removed es p.mapping.id ≡ true
    → left_by es (p ∷ ps) ≡ left_by es ps
gone es p ps h =
    let rest : List Placed = filter (λ q. not (is_removed es q.mapping.id)) ps in
    ap (λ b. map (edited es) (cond (not b) (p ∷ rest) rest)) h

pub kept : (es : List Event) (p : Placed) (ps : List Placed) → is_removed es p.mapping.id ≡ false
    → left_by es (p ∷ ps) ≡ edited es p ∷ left_by es ps
kept es p ps h =
    let rest : List Placed = filter (λ q. not (is_removed es q.mapping.id)) ps in
    ap (λ b. map (edited es) (cond (not b) (p ∷ rest) rest)) h

pub left_by_none : (ps : List Placed) → left_by [] ps ≡ ps
left_by_none [] = refl
left_by_none (p ∷ ps) = λ i. p ∷ left_by_none ps i

left_by_append : (es : List Event) (ps qs : List Placed) → left_by es (ps ++ qs) ≡ left_by es ps ++ left_by es qs
left_by_append es [] qs = refl
left_by_append es (p ∷ ps) qs =
    elim (is_removed es p.mapping.id)
    as (λ r. is_removed es p.mapping.id ≡ r
    → left_by es (p ∷ (ps ++ qs)) ≡ left_by es (p ∷ ps) ++ left_by es qs) [
      | true ↦ λ h. gone es p (ps ++ qs) h ∙ left_by_append es ps qs
          ∙ sym (ap (λ l. l ++ left_by es qs) (gone es p ps h))
      | false ↦ λ h. kept es p (ps ++ qs) h ∙ ap (λ l. edited es p ∷ l) (left_by_append es ps qs)
          ∙ sym (ap (λ l. l ++ left_by es qs) (kept es p ps h))
    ] refl

edited_one : (es : List Event) (e : Event) (p : Placed)
    → edited (es ++ e ∷ []) p ≡ edited (e ∷ []) (edited es p)
edited_one es e p =
    ap (λ spec. record { place = p.place; mapping = record { id = p.mapping.id; spec = spec } })
    (ap (λ o. unwrap_or o p.mapping.spec) (last_one (edit_of p.mapping.id) es e)
    ∙ unwrap_or_more (edit_of p.mapping.id e) (last_of (edit_of p.mapping.id) es) p.mapping.spec)

removed_one : (es : List Event) (e : Event) (id : List ℕ) (r : Bool) → is_removed es id ≡ r
    → is_removed (es ++ e ∷ []) id ≡ (r || removes e id)
removed_one es e id r h = any_one (λ x. removes x id) es e ∙ ap (λ b. b || removes e id) h

left_by_one
    : (es : List Event) (e : Event) (ps : List Placed)
    → left_by (es ++ e ∷ []) ps ≡ left_by (e ∷ []) (left_by es ps)
left_by_one es e [] = refl
left_by_one es e (p ∷ ps) =
    let id : List ℕ = p.mapping.id in
    let Goal : Type 0 = left_by (es ++ e ∷ []) (p ∷ ps) ≡ left_by (e ∷ []) (left_by es (p ∷ ps)) in
    elim (is_removed es p.mapping.id) as (λ r. is_removed es id ≡ r → Goal) [
      | true ↦ λ h. gone (es ++ e ∷ []) p ps (removed_one es e id true h) ∙ left_by_one es e ps
          ∙ sym (ap (left_by (e ∷ [])) (gone es p ps h))
      | false ↦ λ h. elim (removes e p.mapping.id) as (λ q. removes e id ≡ q → Goal) [
        | true ↦ λ g. gone (es ++ e ∷ []) p ps (removed_one es e id false h ∙ g) ∙ left_by_one es e ps
            ∙ sym (ap (left_by (e ∷ [])) (kept es p ps h)
            ∙ gone (e ∷ []) (edited es p) (left_by es ps) (or_false (removes e id) ∙ g))
        | false ↦ λ g. kept (es ++ e ∷ []) p ps (removed_one es e id false h ∙ g)
            ∙ (λ i. edited_one es e p i ∷ left_by_one es e ps i)
            ∙ sym (ap (left_by (e ∷ [])) (kept es p ps h)
            ∙ kept (e ∷ []) (edited es p) (left_by es ps) (or_false (removes e id) ∙ g))
      ] refl
    ] refl

-- what is left of two lists after one more event, and what it adds
join_one : (e : Event) (ps qs new_ps new_qs more : List Placed)
    → new_ps ≡ left_by (e ∷ []) ps → new_qs ≡ left_by (e ∷ []) qs ++ more
    → new_ps ++ new_qs ≡ left_by (e ∷ []) (ps ++ qs) ++ more
join_one e ps qs new_ps new_qs more f g =
    (λ i. f i ++ g i) ∙ sym (append_assoc (left_by (e ∷ []) ps) (left_by (e ∷ []) qs) more)
    ∙ ap (λ l. l ++ more) (sym (left_by_append (e ∷ []) ps qs))

added_by_one : (defaults : List Mapping) (number : ℕ) (es : List Event) (e : Event)
    → added_by defaults number (es ++ e ∷ [])
    ≡ left_by (e ∷ []) (added_by defaults number es) ++ adds defaults (number + length es) e
added_by_one defaults number [] e =
    append-nil (left_by [] (adds defaults number e)) ∙ left_by_none (adds defaults number e)
    ∙ ap (λ n. adds defaults n e) (omega arith)
added_by_one defaults number (y ∷ ys) e =
    join_one e (left_by ys (adds defaults number y)) (added_by defaults (number + 1) ys) _ _
    (adds defaults (number + length (y ∷ ys)) e)
    (left_by_one ys e (adds defaults number y))
    (added_by_one defaults (number + 1) ys e
    ∙ ap (λ n. left_by (e ∷ []) (added_by defaults (number + 1) ys) ++ adds defaults n e) (omega arith))

-- ---- the laws

-- one more event removes, edits and adds what it says
pub live_after : (past : Past) (e : Event)
    → live (with_event past e) ≡ left_by (e ∷ []) (live past) ++ adds past.defaults (last_number past + 1) e
live_after past e =
    join_one e (left_by past.events past.base.live) (added_by past.defaults (past.base.number + 1) past.events) _ _
    (adds past.defaults (last_number past + 1) e)
    (left_by_one past.events e past.base.live)
    (added_by_one past.defaults (past.base.number + 1) past.events e
    ∙ ap (λ n. left_by (e ∷ []) (added_by past.defaults (past.base.number + 1) past.events)
    ++ adds past.defaults n e) (omega arith))

-- one more event leaves each scenario in the state that it says, if it touches it, else where it was
pub state_after : (past : Past) (e : Event) (name : List ℕ)
    → state (with_event past e) name ≡ unwrap_or (touch name e) (state past name)
state_after past e name =
    ap (λ o. unwrap_or o (state_of past.base.states name)) (last_one (touch name) past.events e)
    ∙ unwrap_or_more (touch name e) (last_of (touch name) past.events) (state_of past.base.states name)

-- a checkpoint changes no live mapping and no place
pub live_at_checkpoint : (old new : Past) → IsCheckpoint old new → live new ≡ live old
live_at_checkpoint old new c =
    (λ i. left_by (c.no_events i) (c.same_live i) ++ added_by new.defaults (new.base.number + 1) (c.no_events i))
    ∙ append-nil (left_by [] (live old)) ∙ left_by_none (live old)

pub state_at_checkpoint : (old new : Past) → IsCheckpoint old new → (name : List ℕ)
    → state new name ≡ state old name
state_at_checkpoint old new c name =
    (λ i. unwrap_or (last_of (touch name) (c.no_events i)) (state_of new.base.states name)) ∙ c.same_states name
