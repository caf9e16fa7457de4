use Rattle.std.proofs.Common.{ℕ, List, [], ap, ◌∙◌, option_copied}
use Rattle.data_tree.specs.Tree.{Tree, fields}
use Rattle.needed_data.specs.Fields.{name_of}
use Rattle.needed_data.specs.declared.request_field.RequestField.{RequestField}
use Rattle.needed_data.specs.declared.request_field.RequestField.TheVariants.{BaseUrl, Body, Cookies, Headers, Host}
use Rattle.needed_data.specs.declared.request_field.RequestField.TheVariants.{Method, Path, PathSegments, Port}
use Rattle.needed_data.specs.declared.request_field.RequestField.TheVariants.{Query, Scheme, Url}
use Rattle.request_data.specs.Inner.Views.{entries_of, value_of}
use Rattle.request_data.proofs.PartLemmas.{IsPart, kept_more, members_of_part}
use Rattle.request_data.proofs.TreeLemmas.{members_of_entries}
use Rattle.request_data.proofs.part.request.Goals as goal

pub returns : goal.returns
returns c =
    let needed = c.args.needed.now in
    let entry : RequestField → List ℕ × Tree =
    λ field. (name_of field, value_of c.args.snapshot.now (option_copied c.args.template) field) in
    let none : IsPart needed (entries_of c.in_ok-made.made.fields.items) [] = record { same = c.in_ok-made.ensures } in
    let base = kept_more (entry BaseUrl) none c.in_ok-push_field.ensures in
    let body = kept_more (entry Body) base c.in_ok-push_field-2.ensures in
    let cookies = kept_more (entry Cookies) body c.in_ok-push_field-3.ensures in
    let headers = kept_more (entry Headers) cookies c.in_ok-push_field-4.ensures in
    let host = kept_more (entry Host) headers c.in_ok-push_field-5.ensures in
    let method = kept_more (entry Method) host c.in_ok-push_field-6.ensures in
    let path = kept_more (entry Path) method c.in_ok-push_field-7.ensures in
    let segments = kept_more (entry PathSegments) path c.in_ok-push_field-8.ensures in
    let port = kept_more (entry Port) segments c.in_ok-push_field-9.ensures in
    let query = kept_more (entry Query) port c.in_ok-push_field-10.ensures in
    let scheme = kept_more (entry Scheme) query c.in_ok-push_field-11.ensures in
    let all = kept_more (entry Url) scheme c.in_ok-push_field-12.ensures in
    c.into_data.ensures
    ∙ ap fields (members_of_entries c.push_field-12.new.self.fields.items ∙ members_of_part all)
