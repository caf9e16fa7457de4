-- The data that a template sees of a request, and why there is none.
use Rattle.std.specs.Prelude.{◌≡◌, ℕ, ◌<◌, List, ◌++◌, Option, None, Some, unwrap_or, pos, codes}
use Rattle.std.specs.Option.{option_map_or}
use Rattle.std.specs.Str.Lossy.{utf8_lossy}
use Rattle.data_tree.specs.Tree.{Tree, nothing, number, text, fields, named, Members, no_members, member, view}
use Rattle.data_tree.specs.Json.{size}
use Rattle.data_tree.specs.declared.request_data.TheConstants.{SIZE_LIMIT}
use Rattle.data_tree.specs.declared.request_data.DataError.{DataError}
use Rattle.data_tree.specs.declared.request_data.DataError.TheVariants.{TooLarge, OutOfMemory}
use Rattle.json_bridge.specs.Reading.{tree_of_text}
use Rattle.mock_request.specs.Request.{Request}
use Rattle.path_template.specs.Matching.{bindings_of}
use Rattle.mock_request.specs.Url.{path_of, segments_of}
use Rattle.request_data.specs.Grouped.{texts, grouped, firsts}
use Rattle.mock_request.specs.Query.{query_pairs}
use Rattle.mock_request.specs.HeaderFields.{header_pairs}
use Rattle.mock_request.specs.Cookies.{cookie_pairs}
use Rattle.mock_request.specs.Authority.{host_of, port_of}
use Rattle.request_data.specs.Authority.{authority_of}

-- the tree of the body's text where that is JSON and each of its numbers is taken, else nothing
abbrev pub json_tree : List ℕ → Tree
json_tree bytes = unwrap_or (tree_of_text bytes) nothing

-- a path, its segments, and what a path template binds in it
abbrev pub path_tree : List ℕ → Members → Tree
path_tree path bindings = named path (texts (segments_of path)) bindings

-- what a path template binds in a path: its names in byte order, and none where the path doesn't match
abbrev pub bound_in : List ℕ → Option (List ℕ) → Members
bound_in path None = no_members
bound_in path (Some template) = option_map_or firsts (bindings_of template path) no_members

-- of a request, and of the text of a path template, if there is one
abbrev pub request_fields : Request → Option (List ℕ) → Members
request_fields request template =
    member (codes "baseUrl") (text (codes "http://" ++ authority_of request.headers))
    (member (codes "body") (text (utf8_lossy request.body))
    (member (codes "cookies") (grouped (cookie_pairs request.headers))
    (member (codes "headers") (grouped (header_pairs request.headers))
    (member (codes "host") (text (host_of (authority_of request.headers)))
    (member (codes "method") (text request.method)
    (member (codes "path") (path_tree (path_of request.url) (bound_in (path_of request.url) template))
    (member (codes "pathSegments") (path_tree (path_of request.url) no_members)
    (member (codes "port") (number (pos (port_of (authority_of request.headers))))
    (member (codes "query") (grouped (query_pairs request.url))
    (member (codes "scheme") (text (codes "http"))
    (member (codes "url") (text request.url)
    no_members)))))))))))

abbrev pub request_tree : Request → Option (List ℕ) → Tree
request_tree request template =
    fields (member (codes "json") (json_tree (utf8_lossy request.body))
    (member (codes "request") (fields (request_fields request template))
    no_members))

-- the tree is over the limit, and is given back; or memory ran out
abbrev pub IsDataRefusal : Tree → DataError → Type 0
IsDataRefusal tree (TooLarge root) = (view root ≡ tree) × (SIZE_LIMIT < size tree)
IsDataRefusal tree OutOfMemory = Unit {0}
