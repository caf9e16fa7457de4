-- The JSON of a response, with names in byte order: `status` always; no headers, no body, an empty text and no
-- transformers are left out.
use Rattle.std.specs.Prelude.{ℕ, List, [], ◌∷◌, map, Option, Some, None, unwrap_or, codes, if◌then◌else◌}
use Rattle.std.specs.Str.{bytes_eq}
use Rattle.base64.specs.Engines.{standard}
use Rattle.base64.specs.GeneralPurpose.{encode_of}
use Rattle.json_reading.specs.Written.{with_field}
use Rattle.mapping_model.specs.declared.header_lines.HeaderLine.{HeaderLine}
use Rattle.mapping_model.specs.declared.response_spec.Body.{Body}
use Rattle.mapping_model.specs.declared.response_spec.Body.TheVariants as body
use Rattle.mapping_model.specs.declared.response_spec.Content.{Content}
use Rattle.mapping_model.specs.declared.response_spec.Content.TheVariants.{Plain, Templated}
use Rattle.mapping_model.specs.declared.response_spec.ResponseSpec.{ResponseSpec}
use Rattle.response_json.specs.Reading.{Line}
use Rattle.serde_json.specs.Data.{Data, number, string, array, object, no_items, item, Members, no_members, put}
use Rattle.serde_json.specs.Data.{unsigned}
use Rattle.serde_json.specs.Read.{read}
use Rattle.serde_json.specs.View.{items_of}
use Rattle.template_tree.specs.Source.{Source}

-- the texts of the lines with that name, in their order
abbrev pub texts_of : List ℕ → List Line → List Data
texts_of name [] = []
texts_of name (line ∷ lines) =
    if bytes_eq line.name name then string line.value ∷ texts_of name lines else texts_of name lines

-- one text is that text, several are the list of them
abbrev pub json_of_texts : List Data → Data
json_of_texts (text ∷ []) = text
json_of_texts texts = array (items_of texts)

-- the lines, each at its name with all texts of that name
abbrev pub with_lines : List Line → List Line → Members → Members
with_lines all [] ms = ms
with_lines all (line ∷ lines) ms = with_lines all lines (put line.name (json_of_texts (texts_of line.name all)) ms)

abbrev pub json_of_headers : List Line → Option Data
json_of_headers [] = None
json_of_headers (line ∷ lines) = Some (object (with_lines (line ∷ lines) (line ∷ lines) no_members))

-- the value that a JSON text is; any other text is a text
abbrev pub json_of_text : List ℕ → Data
json_of_text text = unwrap_or (read text) (string text)

-- an empty text is no body
abbrev pub with_text : List ℕ → Members → Members
with_text [] ms = ms
with_text (byte ∷ bytes) ms = put (codes "body") (string (byte ∷ bytes)) ms

abbrev pub with_body : Body (List ℕ) → Members → Members
with_body body.Empty ms = ms
with_body (body.Text text) ms = with_text text ms
with_body (body.Json text) ms = put (codes "jsonBody") (json_of_text text) ms
with_body (body.Base64 bytes) ms = put (codes "base64Body") (string (encode_of standard bytes)) ms

abbrev pub with_parts : List Line → Body (List ℕ) → Members → Members
with_parts headers found ms = with_body found (with_field (codes "headers") (json_of_headers headers) ms)

abbrev pub template_transformers : Data
template_transformers = array (item (string (codes "response-template")) no_items)

-- the texts of templates; whether their prints are escaped isn't written
abbrev pub text_line : HeaderLine Source → Line
text_line line = record { name = line.name; value = line.value.text }

abbrev pub text_body : Body Source → Body (List ℕ)
text_body body.Empty = body.Empty
text_body (body.Text source) = body.Text source.text
text_body (body.Json text) = body.Json text
text_body (body.Base64 bytes) = body.Base64 bytes

abbrev pub with_content : Content → Members → Members
with_content (Plain headers found) ms = with_parts headers found ms
with_content (Templated headers found) ms =
    put (codes "transformers") template_transformers (with_parts (map text_line headers) (text_body found) ms)

abbrev pub with_status : ℕ → Members
with_status code = put (codes "status") (number (unsigned code)) no_members

unfoldable pub json_of_response : ResponseSpec → Data
json_of_response r = object (with_content r.content (with_status r.status))
