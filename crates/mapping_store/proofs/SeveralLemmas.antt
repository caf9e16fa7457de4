-- Mappings that one event adds one after the other, as the entries are changed.
use Rattle.std.proofs.Common.{◌≡◌, ℕ, zero, suc, ◌+◌, ◌<◌, Bool, true, false, not, ◌||◌, cond, List, [], ◌∷◌, ◌++◌}
use Rattle.std.proofs.Common.{length, map, refl, sym, ap, subst, ◌∙◌, arith, append-nil, append_assoc, get_or, drop}
use Rattle.std.specs.List.{All, filter}
use Rattle.std.specs.List.Sorted.{IsPermutation}
use Rattle.std.specs.Str.{bytes_eq}
use Rattle.std.proofs.lemmas.List.{at_drop_more, map-append}
use Rattle.std.proofs.lemmas.List.Elements.{All-cons, All-filter, filter-append}
use Rattle.std.proofs.lemmas.List.Sorted.{IsPermutation-refl, IsPermutation-cons, IsPermutation-sym}
use Rattle.std.proofs.lemmas.List.Sorted.{IsPermutation-trans, IsPermutation-to_front, IsPermutation-map}
use Rattle.std.proofs.lemmas.List.Sorted.{All-permutation}
use Rattle.request_journal.specs.Past.{Placed, has_id, placed_from}
use Rattle.request_journal.specs.declared.mapping.Mapping.{Mapping}
use Rattle.mapping_store.specs.Kept.{Adds, Fits, lasts_of, placed_of, without}
use Rattle.mapping_store.specs.declared.entry.Entry.{Entry}
use Rattle.mapping_store.proofs.IdLemmas.{filter_all, filter-map}
use Rattle.mapping_store.proofs.ListLemmas.{IsPermutation-filter}

-- the mappings with another id
abbrev pub others : List ℕ → List Placed → List Placed
others id ps = filter (λ p. not (bytes_eq id p.mapping.id)) ps

-- ---- mappings that are added one after the other

abbrev pub at : ℕ → ℕ → Mapping → Placed
at number index m = record { place = record { event = number; index = index }; mapping = m }

not_or : (a b c : Bool) → (a || b || c) ≡ (a || (b || c))
not_or true b c = refl
not_or false b c = refl

or_false : (b : Bool) → (b || false) ≡ b
or_false true = refl
or_false false = refl

has_id_push : (ms : List Mapping) (m : Mapping) (id : List ℕ)
    → has_id (ms ++ m ∷ []) id ≡ (has_id ms id || bytes_eq m.id id)
has_id_push [] m id = or_false (bytes_eq m.id id)
has_id_push (n ∷ ms) m id =
    ap (λ b. bytes_eq n.id id || b) (has_id_push ms m id)
    ∙ sym (not_or (bytes_eq n.id id) (has_id ms id) (bytes_eq m.id id))

placed_push : (number index : ℕ) (ms : List Mapping) (m : Mapping)
    → placed_from number index (ms ++ m ∷ [])
    ≡ others m.id (placed_from number index ms) ++ at number (index + length ms) m ∷ []
placed_push number index [] m = ap (λ n. at number n m ∷ []) (omega arith)
placed_push number index (n ∷ ms) m =
    let rest : List Placed = placed_from number (index + 1) ms in
    let last : Placed = at number (index + length (n ∷ ms)) m in
    let more : placed_from number (index + 1) (ms ++ m ∷ []) ≡ others m.id rest ++ last ∷ [] =
    placed_push number (index + 1) ms m ∙ ap (λ k. others m.id rest ++ at number k m ∷ []) (omega arith) in
    let tested : has_id (ms ++ m ∷ []) n.id ≡ (has_id ms n.id || bytes_eq m.id n.id) = has_id_push ms m n.id in
    (λ i. cond (tested i) (more i) (at number index n ∷ more i))
    ∙ elim (has_id ms n.id) as (λ b. cond (b || bytes_eq m.id n.id) (others m.id rest ++ last ∷ [])
    (at number index n ∷ (others m.id rest ++ last ∷ []))
    ≡ others m.id (cond b rest (at number index n ∷ rest)) ++ last ∷ []) [
      | true ↦ refl
      | false ↦ elim (bytes_eq m.id n.id) as (λ b. cond b (others m.id rest ++ last ∷ [])
          (at number index n ∷ (others m.id rest ++ last ∷ []))
          ≡ cond (not b) (at number index n ∷ others m.id rest) (others m.id rest) ++ last ∷ []) [
            | true ↦ refl
            | false ↦ refl
          ]
    ]

-- the old ones without the ids so far, and without one more
others_push : (ms : List Mapping) (m : Mapping) (ps : List Placed)
    → filter (λ p. not (has_id (ms ++ m ∷ []) p.mapping.id)) ps
    ≡ others m.id (filter (λ p. not (has_id ms p.mapping.id)) ps)
others_push ms m [] = refl
others_push ms m (p ∷ ps) =
    let kept : List Placed = filter (λ q. not (has_id ms q.mapping.id)) ps in
    let more : filter (λ q. not (has_id (ms ++ m ∷ []) q.mapping.id)) ps ≡ others m.id kept =
    others_push ms m ps in
    (λ i. cond (not (has_id_push ms m p.mapping.id i)) (p ∷ more i) (more i))
    ∙ elim (has_id ms p.mapping.id) as
    (λ b. cond (not (b || bytes_eq m.id p.mapping.id)) (p ∷ others m.id kept) (others m.id kept)
    ≡ others m.id (cond (not b) (p ∷ kept) kept)) [
      | true ↦ refl
      | false ↦ refl
    ]

pub adds_none : (number : ℕ) (old : List Placed) → Adds number old [] old
adds_none number old =
    subst (λ l. IsPermutation l old)
    (sym (append-nil (filter (λ (p : Placed). true) old) ∙ filter_all (λ (p : Placed). true) old (λ k d lt. refl)))
    (IsPermutation-refl old)

-- a mapping to the front of what is left without its id
pub adds_more : (number : ℕ) (old : List Placed) (ms : List Mapping) (m : Mapping) (live new : List Placed)
    → Adds number old ms live
    → IsPermutation (at number (length ms) m ∷ others m.id live) new
    → Adds number old (ms ++ m ∷ []) new
adds_more number old ms m live new added put =
    let last : Placed = at number (length ms) m in
    let kept : List Placed = filter (λ p. not (has_id ms p.mapping.id)) old in
    let placed : List Placed = placed_from number 0 ms in
    let whole : filter (λ p. not (has_id (ms ++ m ∷ []) p.mapping.id)) old ++ placed_from number 0 (ms ++ m ∷ [])
    ≡ others m.id (kept ++ placed) ++ last ∷ [] =
    (λ i. others_push ms m old i ++ placed_push number 0 ms m i)
    ∙ ap (λ k. others m.id kept ++ (others m.id placed ++ at number k m ∷ [])) (omega arith)
    ∙ sym (append_assoc (others m.id kept) (others m.id placed) (last ∷ []))
    ∙ ap (λ l. l ++ last ∷ [])
    (sym (filter-append (λ (p : Placed). not (bytes_eq m.id p.mapping.id)) kept placed)) in
    subst (λ l. IsPermutation l new) (sym whole)
    (IsPermutation-trans _ _ _ (IsPermutation-to_front (others m.id (kept ++ placed)) last)
    (IsPermutation-trans _ _ _
    (IsPermutation-cons last
    _ _ (IsPermutation-filter (λ (p : Placed). not (bytes_eq m.id p.mapping.id)) (kept ++ placed) live added))
    put))

-- ---- the entries

pub fit_put : (defaults : List Mapping) (e : Entry) (old new : List Entry) → IsPermutation (e ∷ old) new
    → Fits defaults e → All (Fits defaults) old → All (Fits defaults) new
fit_put defaults e old new put fits all =
    All-permutation (Fits defaults) (e ∷ old) new put (All-cons (Fits defaults) e old fits all)

pub fit_replaced : (defaults : List Mapping) (e : Entry) (old new : List Entry)
    → IsPermutation (e ∷ without e.id old) new → Fits defaults e → All (Fits defaults) old
    → All (Fits defaults) new
fit_replaced defaults e old new put fits all =
    fit_put defaults e (without e.id old) new put fits
    (All-filter (λ (x : Entry). not (bytes_eq e.id x.id)) (Fits defaults) old all)

-- an entry in place of the one with its id
pub replaced : (e : Entry) (old new : List Entry) → IsPermutation (e ∷ without e.id old) new
    → IsPermutation (placed_of e ∷ others e.id (map placed_of old)) (map placed_of new)
replaced e old new put =
    subst (λ l. IsPermutation (placed_of e ∷ l) (map placed_of new))
    (sym (filter-map (λ (p : Placed). not (bytes_eq e.id p.mapping.id)) placed_of old))
    (IsPermutation-map placed_of (e ∷ without e.id old) new put)

pub adds_entry : (number : ℕ) (olds : List Placed) (ms : List Mapping) (m : Mapping)
    (e : Entry) (old new : List Entry)
    → placed_of e ≡ at number (length ms) m → Adds number olds ms (map placed_of old)
    → IsPermutation (e ∷ without e.id old) new → Adds number olds (ms ++ m ∷ []) (map placed_of new)
adds_entry number olds ms m e old new is added put =
    adds_more number olds ms m (map placed_of old) (map placed_of new) added
    (subst (λ (p : Placed). IsPermutation (p ∷ others p.mapping.id (map placed_of old)) (map placed_of new)) is
    (replaced e old new put))

-- ---- those of the opening

one_more : (i : ℕ) → suc i + 1 ≡ suc (i + 1)
one_more i = omega arith

pub lasts_at : (ms : List Mapping) (i : ℕ) (b : Bool) (m : Mapping) → i < length ms
    → get_or (lasts_of ms) i b ≡ not (has_id (drop (i + 1) ms) (get_or ms i m).id)
lasts_at [] i b m l = absurd (omega arith)
lasts_at (n ∷ ns) zero b m l = refl
lasts_at (n ∷ ns) (suc i) b m l =
    lasts_at ns i b m (omega arith)
    ∙ sym (ap (λ k. not (has_id (drop k (n ∷ ns)) (get_or ns i m).id)) (one_more i))

pub length-lasts : (ms : List Mapping) → length (lasts_of ms) ≡ length ms
length-lasts [] = refl
length-lasts (m ∷ ms) = ap (λ n. suc n) (length-lasts ms)

-- one of them is the last with its id
pub last_here : (number index : ℕ) (ms : List Mapping) (m : Mapping) → index < length ms
    → has_id (drop (index + 1) ms) (get_or ms index m).id ≡ false
    → placed_from number index (drop index ms)
    ≡ at number index (get_or ms index m) ∷ placed_from number (index + 1) (drop (index + 1) ms)
last_here number index ms m l h =
    let rest : List Placed = placed_from number (index + 1) (drop (index + 1) ms) in
    at_drop_more (placed_from number index) ms index m l
    ∙ ap (λ b. cond b rest (at number index (get_or ms index m) ∷ rest)) h

-- one of them is not
pub not_last_here : (number index : ℕ) (ms : List Mapping) (m : Mapping) → index < length ms
    → has_id (drop (index + 1) ms) (get_or ms index m).id ≡ true
    → placed_from number index (drop index ms) ≡ placed_from number (index + 1) (drop (index + 1) ms)
not_last_here number index ms m l h =
    let rest : List Placed = placed_from number (index + 1) (drop (index + 1) ms) in
    at_drop_more (placed_from number index) ms index m l
    ∙ ap (λ b. cond b rest (at number index (get_or ms index m) ∷ rest)) h

-- one more entry, at the end
pub placed_pushed : (es : List Entry) (e : Entry) (p : Placed) (rest whole : List Placed) → placed_of e ≡ p
    → map placed_of es ++ p ∷ rest ≡ whole → map placed_of (es ++ e ∷ []) ++ rest ≡ whole
placed_pushed es e p rest whole is h =
    ap (λ l. l ++ rest) (map-append placed_of es (e ∷ []))
    ∙ append_assoc (map placed_of es) (placed_of e ∷ []) rest
    ∙ ap (λ q. map placed_of es ++ q ∷ rest) is ∙ h

-- a default that is pushed where it is the last with its id
pub fit_pushed : (defaults : List Mapping) (es : List Entry) (e : Entry) (b : Bool) → Fits defaults e
    → All (Fits defaults) es → All (Fits defaults) (es ++ cond b (e ∷ []) [])
fit_pushed defaults es e true fits all =
    fit_put defaults e es (es ++ e ∷ [])
    (IsPermutation-sym (es ++ e ∷ []) (e ∷ es) (IsPermutation-to_front es e)) fits all
fit_pushed defaults es e false fits all = subst (All (Fits defaults)) (sym (append-nil es)) all

pub default_pushed : (number index : ℕ) (ms : List Mapping) (m : Mapping) (es : List Entry) (e : Entry) (b : Bool)
    (whole : List Placed) → index < length ms → placed_of e ≡ at number index (get_or ms index m)
    → b ≡ not (has_id (drop (index + 1) ms) (get_or ms index m).id)
    → map placed_of es ++ placed_from number index (drop index ms) ≡ whole
    → map placed_of (es ++ cond b (e ∷ []) []) ++ placed_from number (index + 1) (drop (index + 1) ms) ≡ whole
default_pushed number index ms m es e b whole l is wanted so_far =
    let rest : List Placed = placed_from number (index + 1) (drop (index + 1) ms) in
    let Goal : Bool → Type 0 = λ b. map placed_of (es ++ cond b (e ∷ []) []) ++ rest ≡ whole in
    elim (has_id (drop (index + 1) ms) (get_or ms index m).id)
    as (λ h. has_id (drop (index + 1) ms) (get_or ms index m).id ≡ h → b ≡ not h → Goal b) [
      | true ↦ λ held unwanted. subst Goal (sym unwanted)
          (ap (λ l. map placed_of l ++ rest) (append-nil es)
          ∙ ap (λ l. map placed_of es ++ l) (sym (not_last_here number index ms m l held)) ∙ so_far)
      | false ↦ λ free wanted. subst Goal (sym wanted)
          (placed_pushed es e (at number index (get_or ms index m)) rest whole is
          (ap (λ l. map placed_of es ++ l) (sym (last_here number index ms m l free)) ∙ so_far))
    ] refl wanted
