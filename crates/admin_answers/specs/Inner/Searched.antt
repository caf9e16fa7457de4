-- The requests of a search: those that were found, and those that are left to be found.
use Rattle.std.specs.Prelude.{◌≤◌, Bool, List, ◌++◌, drop, length}
use Rattle.std.specs.List.{filter}
use Rattle.admin_answers.specs.Inner.Meets.{meets_request}
use Rattle.admin_answers.specs.declared.search.Search.{Search}
use Rattle.mapping_model.specs.declared.request_spec.RequestSpec.{RequestSpec}
use Rattle.request_journal.specs.declared.entry.Entry.{Entry}

abbrev pub met_by : RequestSpec → Entry → Bool
met_by matcher entry = meets_request matcher entry.request

abbrev pub found_in : Search → List Entry
found_in search = search.found.items ++ filter (met_by search.matcher) (drop search.next search.entries.items)

-- none is left to be searched
abbrev pub IsSearched : Search → Type 0
IsSearched search = length search.entries.items ≤ search.next
