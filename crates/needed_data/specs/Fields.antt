-- What the fields of a request's data are called.
use Rattle.std.specs.Prelude.{ℕ, List, codes}
use Rattle.needed_data.specs.declared.request_field.RequestField.{RequestField}
use Rattle.needed_data.specs.declared.request_field.RequestField.TheVariants.{BaseUrl, Body, Cookies, Headers, Host}
use Rattle.needed_data.specs.declared.request_field.RequestField.TheVariants.{Method, Path, PathSegments, Port}
use Rattle.needed_data.specs.declared.request_field.RequestField.TheVariants.{Query, Scheme, Url}

abbrev pub name_of : RequestField → List ℕ
name_of BaseUrl = codes "baseUrl"
name_of Body = codes "body"
name_of Cookies = codes "cookies"
name_of Headers = codes "headers"
name_of Host = codes "host"
name_of Method = codes "method"
name_of Path = codes "path"
name_of PathSegments = codes "pathSegments"
name_of Port = codes "port"
name_of Query = codes "query"
name_of Scheme = codes "scheme"
name_of Url = codes "url"
