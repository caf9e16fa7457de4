-- The mappings that a list of exchanges gives: those that aren't skipped, grouped by key.
use Rattle.std.specs.Prelude.{ℕ, suc, ◌+◌, Bool, not, ◌&&◌, List, [], ◌∷◌, ◌++◌, Option, None, Some}
use Rattle.std.specs.Prelude.{map, length, ◌==◌, nat_lt, nat_le, if◌then◌else◌, codes, decimal}
use Rattle.std.specs.List.{filter, list_all}
use Rattle.std.specs.Option.{option_map}
use Rattle.std.specs.Str.{is_utf8}
use Rattle.key_groups.specs.Groups.{places_of}
use Rattle.key_groups.specs.declared.place.Place.{Place}
use Rattle.mock_request.specs.Request.{Header}
use Rattle.mapping_model.specs.Body.{text_body}
use Rattle.mapping_model.specs.MappingId.{recording_id}
use Rattle.mapping_model.specs.declared.body_pattern.BodyPattern.{BodyPattern}
use Rattle.mapping_model.specs.declared.body_pattern.BodyPattern.TheVariants as pattern
use Rattle.mapping_model.specs.declared.header_lines.HeaderLine.{HeaderLine}
use Rattle.mapping_model.specs.declared.header_lines.TheConstants.{HEADER_LIMIT}
use Rattle.mapping_model.specs.declared.mapping_spec.MappingSpec.{MappingSpec}
use Rattle.mapping_model.specs.declared.named_matcher.NamedMatcher.{NamedMatcher}
use Rattle.mapping_model.specs.declared.reply.Reply.{Reply}
use Rattle.mapping_model.specs.declared.reply.ReplyHeader.{ReplyHeader}
use Rattle.mapping_model.specs.declared.request_spec.RequestSpec.{RequestSpec}
use Rattle.mapping_model.specs.declared.response_spec.Body.{Body}
use Rattle.mapping_model.specs.declared.response_spec.Body.TheVariants as body
use Rattle.mapping_model.specs.declared.response_spec.Content.TheVariants as content
use Rattle.mapping_model.specs.declared.response_spec.ResponseSpec.{ResponseSpec}
use Rattle.mapping_model.specs.declared.scenario_spec.ScenarioSpec.{ScenarioSpec}
use Rattle.mapping_model.specs.declared.url_spec.UrlSpec.TheVariants as url
use Rattle.value_match.specs.declared.value_spec.ValueSpec.{ValueSpec}
use Rattle.value_match.specs.declared.value_spec.ValueSpec.TheVariants as value
use Rattle.recorder.specs.declared.exchange.Exchange.{Exchange}
use Rattle.recorder.specs.declared.recording.Session.{Session}
use Rattle.recorder.specs.Key.{KeyParts, key_of, headers_named, same_key}

-- ---- one exchange

-- where the body is empty there is none
abbrev pub body_pattern : List ℕ → BodyPattern
body_pattern [] = pattern.Value value.Absent
body_pattern (b ∷ bs) =
    if is_utf8 (b ∷ bs) then pattern.Value (value.EqualTo (b ∷ bs)) else pattern.BinaryEqualTo (b ∷ bs)

-- the first value, or none
abbrev pub first_value : List Header → ValueSpec
first_value [] = value.Absent
first_value (header ∷ headers) = value.EqualTo header.value

abbrev pub header_matcher : List Header → List ℕ → NamedMatcher
header_matcher headers name = record { name = name; matcher = first_value (headers_named name headers) }

abbrev pub reply_body : List ℕ → Body (List ℕ)
reply_body bytes = if is_utf8 bytes then text_body bytes else body.Base64 bytes

-- the bytes of the value as text
abbrev pub header_line : ReplyHeader → HeaderLine (List ℕ)
header_line line = record { name = line.name; value = line.value }

abbrev pub response_of : Reply → ResponseSpec
response_of reply = record {
  status = reply.status;
  content = content.Plain (map header_line reply.headers) (reply_body reply.body);
}

-- one header at most, and its value is UTF-8
abbrev pub is_text_once : List Header → Bool
is_text_once headers = nat_le (length headers) 1 && list_all (λ header. is_utf8 header.value) headers

-- its header values are UTF-8, and a response may have as many lines and this status
abbrev pub can_be_response : Reply → Bool
can_be_response reply =
    list_all (λ line. is_utf8 line.value) reply.headers && nat_le (length reply.headers) HEADER_LIMIT
    && nat_le 200 reply.status && nat_le reply.status 599

-- ---- scenarios

-- the state in which the k-th of a group is served, from 1
abbrev pub state_name : ℕ → List ℕ
state_name k = if nat_le k 1 then codes "Started" else decimal k

-- the k-th of a group of n
abbrev pub scenario_part : List ℕ → ℕ → ℕ → ScenarioSpec
scenario_part name k n = record {
  name = name;
  required = Some (state_name k);
  next = if nat_lt k n then Some (decimal (k + 1)) else None;
}

abbrev pub scenario_name : ℕ → ℕ → List ℕ
scenario_name number group = codes "recording-" ++ (decimal number ++ (codes "-" ++ decimal group))

-- none for a group of one
abbrev pub scenario_of : ℕ → Place → Option ScenarioSpec
scenario_of number place =
    option_map (λ group. scenario_part (scenario_name number group) place.position place.size) place.group

-- ---- which exchanges give a mapping, each with its scenario

-- with `repeats` each of them, else the first of its group alone
abbrev pub part_of : Bool → ℕ → Exchange → Place → List (Exchange × Option ScenarioSpec)
part_of repeats number exchange place =
    if repeats then (exchange, scenario_of number place) ∷ []
    else (if place.position == 1 then (exchange, None) ∷ [] else [])

-- exchanges and their places
abbrev pub parts_of : Bool → ℕ → List Exchange → List Place → List (Exchange × Option ScenarioSpec)
parts_of repeats number [] places = []
parts_of repeats number (exchange ∷ exchanges) [] = []
parts_of repeats number (exchange ∷ exchanges) (place ∷ places) =
    part_of repeats number exchange place ++ parts_of repeats number exchanges places

-- ---- with the names of the captured headers

module _ (captured : List (List ℕ)) where
  abbrev pub request_of : Exchange → RequestSpec
  request_of exchange = record {
    method = Some exchange.request.method;
    url = url.Url exchange.request.url;
    headers = map (header_matcher exchange.request.headers) captured;
    query = [];
    cookies = [];
    body = body_pattern exchange.request.body ∷ [];
  }

  -- no captured header comes twice, what becomes text is UTF-8, and the reply can be a response
  abbrev pub is_kept : Exchange → Bool
  is_kept exchange =
      list_all (λ name. is_text_once (headers_named name exchange.request.headers)) captured
      && can_be_response exchange.reply

  -- ---- the mappings

  abbrev pub keys_of : List Exchange → List KeyParts
  keys_of exchanges = map (λ exchange. key_of exchange.request captured) exchanges

  abbrev pub mapping_of : ℕ → ℕ → Exchange → Option ScenarioSpec → MappingSpec
  mapping_of number index exchange scenario = record {
    id = Some (recording_id number index);
    name = None;
    priority = None;
    scenario = scenario;
    request = request_of exchange;
    response = response_of exchange.reply;
  }

  -- from this index on
  abbrev pub numbered : ℕ → ℕ → List (Exchange × Option ScenarioSpec) → List MappingSpec
  numbered number index [] = []
  numbered number index (part ∷ parts) = mapping_of number index part.0 part.1 ∷ numbered number (suc index) parts

  abbrev pub kept_of : List Exchange → List Exchange
  kept_of exchanges = filter is_kept exchanges

  -- `number` is that of the event that stopped the recording
  abbrev pub mappings_of : List Exchange → Bool → ℕ → List MappingSpec
  mappings_of exchanges repeats number =
      numbered number 0
      (parts_of repeats number (kept_of exchanges) (places_of same_key (keys_of (kept_of exchanges))))

  abbrev pub skipped_of : List Exchange → ℕ
  skipped_of exchanges = length (filter (λ exchange. not (is_kept exchange)) exchanges)

-- what a recording gives when the event with this number stops it

abbrev pub recorded_mappings : Session → ℕ → List MappingSpec
recorded_mappings session number = mappings_of session.captured session.exchanges session.repeats number

abbrev pub recorded_skipped : Session → ℕ
recorded_skipped session = skipped_of session.captured session.exchanges
