-- What a request's tree keeps.
use Rattle.std.proofs.Common.{◌≡◌, ℕ, List, [], ◌∷◌, ◌++◌, Option, None, Some}
use Rattle.std.proofs.Common.{refl, ap, ◌∙◌, rules}
use Rattle.std.specs.Option.{option_map_or}
use Rattle.data_tree.specs.declared.data.Data.{Data, Nothing, the_lemmas}
use Rattle.mock_request.specs.Request.{Request}
use Rattle.request_data.specs.RequestTree.{bound_in, path_tree, request_fields}
use Rattle.request_data.specs.Grouped.{firsts}
use Rattle.path_template.specs.Matching.{bindings_of}
use Rattle.data_tree.specs.Tree.{Tree, nothing, fields, Members, no_members, member, view, members_view}
use Rattle.mock_request.specs.Url.{path_of, segments_of}
use Rattle.mock_request.specs.Query.{query_pairs}
use Rattle.mock_request.specs.HeaderFields.{header_pairs}
use Rattle.mock_request.specs.Cookies.{cookie_pairs}
use Rattle.request_data.specs.Authority.{authority_of}
use Rattle.request_data.specs.Inner.Views.{entries_of}
use Rattle.data_tree.specs.WellFormed.{IsWellFormed, IsAscending, HaveWellFormedValues}
use Rattle.data_tree.specs.Parts.{names_of}
use Rattle.request_data.proofs.AuthorityLemmas.{port_well_formed}
use Rattle.request_data.proofs.GroupLemmas.{texts_well_formed, grouped_well_formed, firsts_well_formed}

bound_well_formed
    : (path : List ℕ) (template : Option (List ℕ))
    → IsAscending (names_of (bound_in path template)) × HaveWellFormedValues (bound_in path template)
bound_well_formed path None = (tt, tt)
bound_well_formed path (Some template) = by (bindings_of template path)
  where
    by
        : (found : Option (List (List ℕ × List ℕ)))
        → IsAscending (names_of (option_map_or firsts found no_members))
        × HaveWellFormedValues (option_map_or firsts found no_members)
    by None = (tt, tt)
    by (Some pairs) = firsts_well_formed pairs

pub request_fields_well_formed
    : (request : Request) (template : Option (List ℕ)) → IsWellFormed (fields (request_fields request template))
request_fields_well_formed request template =
    let bound = bound_well_formed (path_of request.url) template in
    let parts = texts_well_formed (segments_of (path_of request.url)) in
    let path : IsWellFormed (path_tree (path_of request.url) (bound_in (path_of request.url) template)) =
    (parts, bound.0, bound.1) in
    let segments : IsWellFormed (path_tree (path_of request.url) no_members) = (parts, tt, tt) in
    let port = port_well_formed (authority_of request.headers) in
    let cookies = grouped_well_formed (cookie_pairs request.headers) in
    let headers = grouped_well_formed (header_pairs request.headers) in
    let query = grouped_well_formed (query_pairs request.url) in (
      (refl, (refl, (refl, (refl, (refl, (refl, (refl, (refl, (refl, (refl, (refl, tt))))))))))),
      (tt, (tt, (cookies, (headers, (tt, (tt, (path, (segments, (port, (query, (tt, (tt, tt)))))))))))),
    )

pub view-Nothing : view Nothing ≡ nothing
view-Nothing = search (rules, the_lemmas)

-- the members that entries make
abbrev pub members_from : List (List ℕ × Tree) → Members
members_from [] = no_members
members_from (entry ∷ entries) = member entry.0 entry.1 (members_from entries)

pub members_of_entries : (made : List (List ℕ × Data)) → members_view made ≡ members_from (entries_of made)
members_of_entries [] = refl
members_of_entries (field ∷ others) = ap (member field.0 (view field.1)) (members_of_entries others)

-- one more field, whose value has that tree
pub entry_more
    : (name : List ℕ) {value tree : Tree} {old new before : List (List ℕ × Tree)}
    → new ≡ old ++ (name, value) ∷ [] → old ≡ before → value ≡ tree
    → new ≡ before ++ (name, tree) ∷ []
entry_more name {value} {tree} {old} {new} {before} pushed so_far same =
    pushed ∙ ap (λ es. es ++ (name, value) ∷ []) so_far ∙ ap (λ t. before ++ (name, t) ∷ []) same
