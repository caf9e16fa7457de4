-- What templates give over the part of a request's data that they look at is what they give over the whole.
use Rattle.std.proofs.Common.{◌≡◌, ℕ, List, [], ◌∷◌, ◌++◌, All, map, ap, refl, sym, subst, Option}
use Rattle.std.specs.List.{AllZip}
use Rattle.std.proofs.lemmas.List.{append-nil}
use Rattle.std.proofs.lemmas.List.Elements.{All-head, All-tail, All-push}
use Rattle.data_tree.specs.LookUp.{EmptyNameFindsNothing, at}
use Rattle.data_tree.specs.Tree.{Tree}
use Rattle.mapping_model.specs.declared.header_lines.HeaderLine.{HeaderLine}
use Rattle.mapping_model.specs.declared.reply.Reply.{Reply}
use Rattle.mapping_model.specs.declared.reply.ReplyHeader.{ReplyHeader}
use Rattle.mapping_model.specs.declared.response_spec.Body.{Body}
use Rattle.mapping_model.specs.declared.response_spec.Body.TheVariants.{Empty, Text, Json, Base64}
use Rattle.mock_request.specs.Request.{Request}
use Rattle.needed_data.specs.Needed.{NeededData, AreAlike, Includes, json_field_path, nothing}
use Rattle.data_tree.specs.RootPaths.{json_path, field_path}
use Rattle.request_data.specs.RequestTree.{request_tree}
use Rattle.template_machine.proofs.Programs.{renders_alike}
use Rattle.template_machine.specs.Program.{FindsSame, IsMeant}
use Rattle.template_tree.specs.Source.{Source}
use Rattle.stub_response.specs.Inner.Alike.{IsNeededBy}
use Rattle.stub_response.specs.Response.{IsBody, IsLine, IsMade, Rendered, body_templates, templates_of}

pub no_empty_name : (request : Request) (template : Option (List ℕ)) →
    EmptyNameFindsNothing (request_tree request template)
no_empty_name request template = refl

module _ (r r' : Tree) (clean : EmptyNameFindsNothing r') where
  alike_rendered : (template : Source) (text : List ℕ) → FindsSame template r r' → Rendered r template text →
      Rendered r' template text
  alike_rendered template text finds h =
      let same = subst (λ source. FindsSame source r r') (sym h.source) finds in
      let both = renders_alike h.program r r' h.steps text h.whole clean same h.ran in
      record {
        meant = subst (λ source. IsMeant source r' text) h.source both.1;
        program = h.program;
        source = h.source;
        whole = h.whole;
        safe = h.safe;
        steps = h.steps;
        ran = both.0;
      }

  alike_line : (line : HeaderLine Source) (header : ReplyHeader) → FindsSame line.value r r' →
      IsLine (Rendered r) line header → IsLine (Rendered r') line header
  alike_line line header finds h = record {
    text = h.text;
    given = alike_rendered line.value h.text finds h.given;
    name = h.name;
    value = h.value;
  }

  pub alike_body : (content : Body Source) (bytes : List ℕ) →
      All (λ t. FindsSame t r r') (body_templates content) →
      IsBody (Rendered r) content bytes → IsBody (Rendered r') content bytes
  alike_body Empty bytes finds h = h
  alike_body (Text text) bytes finds h = alike_rendered text bytes (All-head (λ t. FindsSame t r r') text [] finds) h
  alike_body (Json text) bytes finds h = h
  alike_body (Base64 octets) bytes finds h = h

  -- the lines, and what is left to say of the templates of the body
  alike_lines : (lines : List (HeaderLine Source)) (headers : List ReplyHeader) (more : List Source) →
      All (λ t. FindsSame t r r') (map (λ line. line.value) lines ++ more) →
      AllZip (IsLine (Rendered r)) lines headers →
      AllZip (IsLine (Rendered r')) lines headers × All (λ t. FindsSame t r r') more
  alike_lines [] [] more finds h = (tt, finds)
  alike_lines [] (header ∷ headers) more finds h = absurd h
  alike_lines (line ∷ lines) [] more finds h = absurd h
  alike_lines (line ∷ lines) (header ∷ headers) more finds h =
      let rest = map (λ (l : HeaderLine Source). l.value) lines ++ more in
      let later = alike_lines lines headers more (All-tail (λ t. FindsSame t r r') line.value rest finds) h.1 in
      ((alike_line line header (All-head (λ t. FindsSame t r r') line.value rest finds) h.0, later.0), later.1)

  pub alike_made : (status : ℕ) (lines : List (HeaderLine Source)) (content : Body Source) (reply : Reply) →
      All (λ t. FindsSame t r r') (templates_of lines content) → IsMade (Rendered r) status lines content reply →
      IsMade (Rendered r') status lines content reply
  alike_made status lines content reply finds h =
      let parts = alike_lines lines reply.headers (body_templates content) finds h.headers in
      record {
        same_status = h.same_status;
        headers = parts.0;
        body = alike_body content reply.body parts.1 h.body;
      }

-- what one template more looks at is needed too
pub needed_more : (more less : NeededData) (templates : List Source) (template : Source) → Includes more less →
    IsNeededBy less templates → ((r r' : Tree) → AreAlike more r r' → FindsSame template r r') →
    IsNeededBy more (templates ++ template ∷ [])
needed_more more less templates template includes before finds r r' alike =
    All-push (λ t. FindsSame t r r') templates template (before r r' (includes r r' alike)) (finds r r' alike)

pub same_alike : (needed : NeededData) (r r' : Tree) → r ≡ r' → AreAlike needed r r'
same_alike needed r r' same = record {
  everything = λ h. same;
  json = λ h. ap (at json_path) same;
  json_fields = λ name h. ap (at (json_field_path name)) same;
  fields = λ name h. ap (at (field_path name)) same;
}

nothing_alike : (r r' : Tree) → AreAlike nothing r r'
nothing_alike r r' = record {
  everything = λ h. absurd (cc h);
  json = λ h. absurd (cc h);
  json_fields = λ name h. absurd (cc h);
  fields = λ name h. absurd (cc h);
}

-- lines whose templates look at nothing give over each request what they give over any data
pub lines_everywhere : (needed : NeededData) (r : Tree) (lines : List (HeaderLine Source))
    (headers : List ReplyHeader) →
    needed ≡ nothing → IsNeededBy needed (map (λ line. line.value) lines) →
    AllZip (IsLine (Rendered r)) lines headers → (request : Request) (template : Option (List ℕ)) →
    AllZip (IsLine (Rendered (request_tree request template))) lines headers
lines_everywhere needed r lines headers none looks h request template =
    let whole = request_tree request template in
    let values = map (λ (line : HeaderLine Source). line.value) lines in
    let finds = subst (λ n. IsNeededBy n values) none looks r whole (nothing_alike r whole) in
    (alike_lines r whole (no_empty_name request template) lines headers []
    (subst (All (λ t. FindsSame t r whole)) (sym (append-nil values)) finds) h).0
