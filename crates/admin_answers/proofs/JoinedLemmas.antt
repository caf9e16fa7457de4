-- Texts of entries that are joined are the compact text of the list.
use Rattle.std.proofs.Common.{◌≡◌, ◌≢◌, ℕ, zero, suc, List, [], ◌∷◌, ◌++◌, Bool, true, false, Some, length, map, drop}
use Rattle.std.proofs.Common.{refl, sym, ap, ◌∙◌, slice_get, codes, decimal, append_assoc}
use Rattle.std.specs.Prelude.{unwrap_or}
use Rattle.admin_json.specs.Mappings.{json_of_held, json_of_mappings}
use Rattle.admin_json.specs.Recordings.{json_of_recorded}
use Rattle.admin_json.specs.Requests.{json_of_entry, json_of_found, json_of_number, json_of_requests}
use Rattle.admin_answers.specs.Inner.Joined.{end_of, end_of_mappings, end_of_recorded, joined, text_of}
use Rattle.admin_answers.specs.declared.entries.Entries.{Entries}
use Rattle.admin_answers.specs.declared.entries.Entries.TheVariants.{Requests, Found, Count, Mappings, Exchanges}
use Rattle.admin_answers.specs.Inner.Mapped.{text_of_mapping}
use Rattle.har_export.specs.Document.{json_of_har, texts_of}
use Rattle.request_journal.specs.declared.entry.Entry.{Entry}
use Rattle.request_journal.specs.declared.mapping.Mapping.{Mapping}
use Rattle.serde_json.specs.Data.{Items, no_items, item}
use Rattle.serde_json.specs.View.{items_of}
use Rattle.serde_json.specs.Written.{comma_if, compact_text, items_text}
use Rattle.serde_json.proofs.OnLiterals.{serde_json_on_literals}

regrouped
    : (comma text more rest : List ℕ) → (comma ++ (text ++ more)) ++ rest ≡ comma ++ (text ++ (more ++ rest))
regrouped comma text more rest =
    append_assoc comma (text ++ more) rest ∙ ap (λ s. comma ++ s) (append_assoc text more rest)

one_more
    : (later : Bool) (text more rest joined : List ℕ) → more ++ rest ≡ joined
    → (comma_if later ++ (text ++ more)) ++ rest ≡ comma_if later ++ (text ++ joined)
one_more later text more rest joined is =
    regrouped (comma_if later) text more rest ∙ ap (λ s. comma_if later ++ (text ++ s)) is

entries_joined
    : (later : Bool) (entries : List Entry) (rest : List ℕ)
    → items_text later (items_of (map json_of_entry entries)) ++ rest
    ≡ joined (93 ∷ rest) later (map text_of entries)
entries_joined later [] rest = refl
entries_joined later (entry ∷ entries) rest =
    one_more later (text_of entry) (items_text true (items_of (map json_of_entry entries))) rest _
    (entries_joined true entries rest)

mappings_joined
    : (later : Bool) (mappings : List Mapping) (rest : List ℕ)
    → items_text later (items_of (map json_of_held mappings)) ++ rest
    ≡ joined (93 ∷ rest) later (map text_of_mapping mappings)
mappings_joined later [] rest = refl
mappings_joined later (mapping ∷ mappings) rest =
    one_more later (text_of_mapping mapping) (items_text true (items_of (map json_of_held mappings))) rest _
    (mappings_joined true mappings rest)

values_joined
    : (later : Bool) (values : Items) (rest : List ℕ)
    → items_text later values ++ rest ≡ joined (93 ∷ rest) later (texts_of values)
values_joined later no_items rest = refl
values_joined later (item value values) rest =
    one_more later (compact_text value) (items_text true values) rest _ (values_joined true values rest)

pub found_text
    : (entries : List Entry)
    → compact_text (json_of_found entries)
    ≡ codes "{\"requests\":[" ++ joined (codes "]}") false (map text_of entries)
unfolding serde_json_on_literals
found_text entries = ap (λ s. codes "{\"requests\":[" ++ s) (entries_joined false entries (codes "}"))

pub count_text
    : (count : ℕ)
    → compact_text (json_of_number count)
    ≡ codes "{\"count\":" ++ joined (codes "}") false (decimal count ∷ [])
unfolding serde_json_on_literals
count_text count = refl

pub requests_text
    : (entries : List Entry)
    → compact_text (json_of_requests entries)
    ≡ codes "{\"meta\":{\"total\":"
    ++ (decimal (length entries) ++ (codes "},\"requests\":[" ++ joined (codes "]}") false (map text_of entries)))
unfolding serde_json_on_literals
requests_text entries =
    ap (λ s. codes "{\"meta\":{\"total\":" ++ s)
    (append_assoc (decimal (length entries)) (codes "}") _
    ∙ ap (λ s. decimal (length entries) ++ (codes "},\"requests\":[" ++ s))
    (entries_joined false entries (codes "}")))

pub mappings_text
    : (mappings : List Mapping)
    → compact_text (json_of_mappings mappings)
    ≡ codes "{\"mappings\":["
    ++ joined (codes "]" ++ end_of_mappings (length mappings)) false (map text_of_mapping mappings)
unfolding serde_json_on_literals
mappings_text mappings =
    let items = items_text false (items_of (map json_of_held mappings)) in
    ap (λ s. codes "{\"mappings\":[" ++ s)
    (ap (λ s. items ++ (codes ",\"meta\":{\"total\":" ++ s))
    (append_assoc (decimal (length mappings)) (codes "}") (codes "}"))
    ∙ mappings_joined false mappings (end_of_mappings (length mappings)))

pub recorded_text
    : (mappings : List Mapping) (skipped : ℕ)
    → compact_text (json_of_recorded mappings skipped)
    ≡ codes "{\"mappings\":[" ++ joined (codes "]" ++ end_of_recorded skipped) false (map text_of_mapping mappings)
unfolding serde_json_on_literals
recorded_text mappings skipped =
    ap (λ s. codes "{\"mappings\":[" ++ s)
    (mappings_joined false mappings (end_of_recorded skipped))

pub har_text
    : (values : Items)
    → compact_text (json_of_har values)
    ≡ codes "{\"log\":{\"creator\":{\"name\":\"mock\",\"version\":\"1\"},\"entries\":["
    ++ joined (codes "],\"version\":\"1.2\"}}") false (texts_of values)
unfolding serde_json_on_literals
har_text values =
    ap (λ s. codes "{\"log\":{\"creator\":{\"name\":\"mock\",\"version\":\"1\"},\"entries\":[" ++ s)
    (append_assoc (items_text false values) (codes ",\"version\":\"1.2\"}") (codes "}")
    ∙ values_joined false values (codes ",\"version\":\"1.2\"}}"))

some_same : {X : Type 0} (x y : X) → Some x ≡ Some y → x ≡ y
some_same x y is = ap (λ o. unwrap_or o x) is

at_drop
    : {X : Type 0} (xs : List X) (i : ℕ) (x : X) → slice_get xs i ≡ Some x → drop i xs ≡ x ∷ drop (suc i) xs
at_drop [] i x is = absurd cc
at_drop (y ∷ xs) zero x is = ap (λ z. z ∷ xs) (some_same y x is)
at_drop (y ∷ xs) (suc i) x is = at_drop xs i x is

pub next_joined
    : (end : List ℕ) (later : Bool) (texts : List (List ℕ)) (i : ℕ) (text : List ℕ)
    → slice_get texts i ≡ Some text
    → joined end later (drop i texts) ≡ comma_if later ++ (text ++ joined end true (drop (suc i) texts))
next_joined end later texts i text is = ap (joined end later) (at_drop texts i text is)

end_some : (entries : Entries) → end_of entries ≡ [] → ⊥
end_some (Requests entries) is = cc
end_some (Found search) is = cc
end_some (Count search) is = cc
end_some (Mappings texts end) is = cc
end_some (Exchanges texts) is = cc

rest_of_none : (front rest : List ℕ) → front ++ rest ≡ [] → rest ≡ []
rest_of_none [] rest is = is
rest_of_none (b ∷ front) rest is = absurd cc

-- a text with the end of a list is not empty
pub ended_some
    : (entries : Entries) (front whole : List ℕ) → whole ≡ front ++ end_of entries → whole ≢ []
ended_some entries front whole is none =
    end_some entries (rest_of_none front (end_of entries) (sym is ∙ none))
