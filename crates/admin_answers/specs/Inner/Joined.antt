-- The text of a list from an entry on: the texts of the entries, with commas between them, and what stands after them.
use Rattle.std.specs.Prelude.{ℕ, List, [], ◌∷◌, ◌++◌, Bool, true, nat_lt, drop, length, map, Option, Some, None}
use Rattle.std.specs.Prelude.{codes, decimal, string_bytes}
use Rattle.admin_json.specs.Requests.{json_of_entry}
use Rattle.admin_answers.specs.Inner.Searched.{found_in, IsSearched}
use Rattle.admin_answers.specs.declared.entries.Entries.{Entries}
use Rattle.admin_answers.specs.declared.entries.Entries.TheVariants.{Requests, Found, Count, Mappings, Exchanges}
use Rattle.request_journal.specs.declared.entry.Entry.{Entry}
use Rattle.serde_json.specs.Written.{comma_if, compact_text}

abbrev pub text_of : Entry → List ℕ
text_of entry = compact_text (json_of_entry entry)

abbrev pub texts_in : Entries → List (List ℕ)
texts_in (Requests entries) = map text_of entries.items
texts_in (Found search) = map text_of (found_in search)
texts_in (Count search) = decimal (length (found_in search)) ∷ []
texts_in (Mappings texts end) = texts
texts_in (Exchanges texts) = texts

abbrev pub end_of : Entries → List ℕ
end_of (Requests entries) = codes "]}"
end_of (Found search) = codes "]}"
end_of (Count search) = codes "}"
end_of (Mappings texts end) = codes "]" ++ string_bytes end
end_of (Exchanges texts) = codes "],\"version\":\"1.2\"}}"

-- nothing is left to be searched
abbrev pub IsAllSearched : Entries → Type 0
IsAllSearched (Requests entries) = Unit {0}
IsAllSearched (Found search) = IsSearched search
IsAllSearched (Count search) = IsSearched search
IsAllSearched (Mappings texts end) = Unit {0}
IsAllSearched (Exchanges texts) = Unit {0}

-- what stands before a list of so many requests
abbrev pub head_of_requests : ℕ → List ℕ
head_of_requests total = codes "{\"meta\":{\"total\":" ++ (decimal total ++ codes "},\"requests\":[")

-- what stands after a list of so many mappings, and after that of a recording where so many exchanges were skipped
abbrev pub end_of_mappings : ℕ → List ℕ
end_of_mappings total = codes ",\"meta\":{\"total\":" ++ (decimal total ++ codes "}}")

abbrev pub end_of_recorded : ℕ → List ℕ
end_of_recorded skipped = codes ",\"skipped\":" ++ (decimal skipped ++ codes "}")

abbrev pub joined : List ℕ → Bool → List (List ℕ) → List ℕ
joined end later [] = end
joined end later (text ∷ texts) = comma_if later ++ (text ++ joined end true texts)

-- what is left where that entry is the next
abbrev pub left_of : List ℕ → Entries → Option ℕ → List ℕ
left_of head entries None = []
left_of head entries (Some index) =
    head ++ joined (end_of entries) (nat_lt 0 index) (drop index (texts_in entries))
