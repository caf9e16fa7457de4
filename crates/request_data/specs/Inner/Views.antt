-- How the contracts of private functions see the fields of an object that is being made.
use Rattle.std.specs.Prelude.{ℕ, List, ◌++◌, map, Option, pos, codes}
use Rattle.std.specs.List.{filter}
use Rattle.std.specs.Str.Lossy.{utf8_lossy}
use Rattle.data_tree.specs.declared.data.Data.{Data}
use Rattle.data_tree.specs.Tree.{Tree, number, text, no_members, view}
use Rattle.mock_request.specs.Authority.{host_of, port_of}
use Rattle.mock_request.specs.Cookies.{cookie_pairs}
use Rattle.mock_request.specs.HeaderFields.{header_pairs}
use Rattle.mock_request.specs.Query.{query_pairs}
use Rattle.mock_request.specs.Request.{Request}
use Rattle.mock_request.specs.Url.{path_of}
use Rattle.needed_data.specs.Needed.{NeededData, is_needed}
use Rattle.needed_data.specs.declared.request_field.RequestField.{RequestField}
use Rattle.needed_data.specs.declared.request_field.RequestField.TheVariants.{BaseUrl, Body, Cookies, Headers, Host}
use Rattle.needed_data.specs.declared.request_field.RequestField.TheVariants.{Method, Path, PathSegments, Port}
use Rattle.needed_data.specs.declared.request_field.RequestField.TheVariants.{Query, Scheme, Url}
use Rattle.request_data.specs.Authority.{authority_of}
use Rattle.request_data.specs.Grouped.{grouped}
use Rattle.request_data.specs.RequestTree.{bound_in, path_tree}

-- a field's name and the tree of its value
abbrev pub entry_of : List ℕ × Data → List ℕ × Tree
entry_of field = (field.0, view field.1)

abbrev pub entries_of : List (List ℕ × Data) → List (List ℕ × Tree)
entries_of fields = map entry_of fields

-- the entries whose names are needed
abbrev pub kept_of : NeededData → List (List ℕ × Tree) → List (List ℕ × Tree)
kept_of needed entries = filter (λ entry. is_needed needed entry.0) entries

-- the value of a field of the request
abbrev pub value_of : Request → Option (List ℕ) → RequestField → Tree
value_of request template BaseUrl = text (codes "http://" ++ authority_of request.headers)
value_of request template Body = text (utf8_lossy request.body)
value_of request template Cookies = grouped (cookie_pairs request.headers)
value_of request template Headers = grouped (header_pairs request.headers)
value_of request template Host = text (host_of (authority_of request.headers))
value_of request template Method = text request.method
value_of request template Path = path_tree (path_of request.url) (bound_in (path_of request.url) template)
value_of request template PathSegments = path_tree (path_of request.url) no_members
value_of request template Port = number (pos (port_of (authority_of request.headers)))
value_of request template Query = grouped (query_pairs request.url)
value_of request template Scheme = text (codes "http")
value_of request template Url = text request.url
