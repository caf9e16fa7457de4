-- What a book consists of may go to another thread. The toolchain shows that of a type by itself, unless the type has a
-- recursive one in it (a JSON value): these, and what has them, are shown here, each from its parts.
use mir.Syntax.{Sym}
use mathlib.Core.List.{[], ◌∷◌}
use denote.RattleType.{RattleType}
use denote.Param.Send.{IsSend, IsSync, sendable}
use denote.Param.SendFields.{as_row_send, declared_send, declared_sync, variants_send}
use denote.Struct.Field.{row_field}
use denote.Struct.Tuple.{TupleAt, type_at}
use Rattle.std.proofs.Crossing.{crosses}
use Rattle.std.proofs.sync.ledger.Book.TheSendSync as entries
use Rattle.std.specs.declared.sync.ledger.Ledger as ledger
use Rattle.data_tree.proofs.compact_text.CompactText.TheSendSync as compact_text
use Rattle.data_tree.proofs.data.Data.TheLaws.TheKnot.{send-Data}
use Rattle.json_match.proofs.json_spec.JsonSpec.TheSendSync as json_spec
use Rattle.json_bridge.proofs.json_path.JsonPath.TheSendSync as json_path
use Rattle.json_match.specs.contracts.json_matcher.Test as test
use Rattle.json_match.specs.contracts.json_matcher.JsonMatcher as json_matcher
use Rattle.json_match.specs.contracts.json_matcher.JsonMatcher.TheInside as json_matcher_inside
use Rattle.value_match.proofs.value_matcher.ValueMatcher.TheSendSync as value_matcher
use Rattle.plain_text.proofs.text.Text.TheSendSync as text
use Rattle.plain_text.proofs.octets.Octets.TheSendSync as octets
use Rattle.plain_text.proofs.items.Items.TheSendSync as items
use Rattle.path_template.proofs.path_template.PathTemplate.TheSendSync as path_template
use Rattle.request_match.proofs.hashed_text.HashedText.TheSendSync as hashed_text
use Rattle.request_match.specs.contracts.url_test.UrlKind as url_kind
use Rattle.request_match.specs.contracts.url_test.UrlTest as url_test
use Rattle.request_match.specs.contracts.url_test.UrlTest.TheInside as url_test_inside
use Rattle.request_match.specs.contracts.named_test.NamedTest as named_test
use Rattle.request_match.specs.contracts.named_test.NamedTest.TheInside as named_test_inside
use Rattle.request_match.specs.contracts.body_test.BodyKind as body_kind
use Rattle.request_match.specs.contracts.body_test.BodyTest as body_test
use Rattle.request_match.specs.contracts.body_test.BodyTest.TheInside as body_test_inside
use Rattle.request_match.specs.contracts.request_matcher.RequestMatcher as request_matcher
use Rattle.request_match.specs.contracts.request_matcher.RequestMatcher.TheInside as request_matcher_inside
use Rattle.request_match.specs.contracts.ready_mapping.ReadyMapping as ready_mapping
use Rattle.request_match.specs.contracts.ready_mapping.ReadyMapping.TheInside as ready_mapping_inside
use Rattle.request_match.proofs.shared_spec.SharedSpec.TheSendSync as shared_spec
use Rattle.mapping_model.proofs.mapping_id.MappingId.TheSendSync as mapping_id
use Rattle.recorder.proofs.exchange.SharedExchange.TheSendSync as shared_exchange
use Rattle.recorder.proofs.recording.Recording.TheSendSync as recording
use Rattle.scenario_core.proofs.scenarios.Scenarios.TheSendSync as scenarios
use Rattle.mock_request.proofs.snapshot.Snapshot.TheSendSync as snapshot
use Rattle.request_journal.specs.contracts.input.BookInput as book_input
use Rattle.book_history.proofs.events.Events.TheSendSync as events
use Rattle.book_history.specs.contracts.known.Known as known
use Rattle.book_history.specs.contracts.parts.Parts as parts
use Rattle.book_history.specs.contracts.history.History as history
use Rattle.book_history.specs.contracts.history.History.TheInside as history_inside
use Rattle.mapping_store.specs.contracts.book_mapping.BookMapping as book_mapping
use Rattle.mapping_store.specs.contracts.book_mapping.BookMapping.TheInside as book_mapping_inside
use Rattle.mapping_store.specs.contracts.entry.Source as source
use Rattle.mapping_store.specs.contracts.entry.Entry as entry
use Rattle.mapping_store.specs.contracts.mapping_store.MappingStore as mapping_store
use Rattle.mapping_store.specs.contracts.mapping_store.MappingStore.TheInside as mapping_store_inside
use Rattle.stub_book.specs.contracts.book.Book as book
use Rattle.stub_book.specs.contracts.book.Book.TheInside as book_inside
use Rattle.shared_book.specs.declared.origin.Origin as origin
use Rattle.shared_history.specs.declared.naming.Naming as naming
use Rattle.shared_history.proofs.history.History.TheSendSync as whole
use Rattle.shared_book.specs.contracts.locked.Locked as locked
use Rattle.shared_book.specs.contracts.locked.Locked.TheInside as locked_inside
use Rattle.shared_book.specs.contracts.shared_book.SharedBook as shared_book
use Rattle.shared_book.specs.contracts.script.Call as call
use Rattle.shared_book.specs.contracts.script.Script as script

-- ---- matchers
test_send : IsSend test.the_row
test_send =
    variants_send test.enum
    (search (tt, crosses, compact_text.the_send, send-Data, json_path.the_send, sendable) depth 60)

json_matcher_inside_send : IsSend json_matcher_inside.the_row
json_matcher_inside_send = declared_send json_matcher_inside.the_type (json_spec.the_send, (test_send, tt))

json_matcher_send : IsSend json_matcher.the_row
json_matcher_send = search (json_matcher_inside_send, sendable) depth 60

named_test_inside_send : IsSend named_test_inside.the_row
named_test_inside_send = declared_send named_test_inside.the_type (text.the_send, (value_matcher.the_send, tt))

named_test_send : IsSend named_test.the_row
named_test_send = search (named_test_inside_send, sendable) depth 60

url_kind_send : IsSend url_kind.the_row
url_kind_send =
    variants_send url_kind.enum
    (search (
      crosses,
      text.the_send,
      hashed_text.the_send,
      path_template.the_send,
      value_matcher.the_send,
      named_test_send,
      sendable,
    ) depth 60)

url_test_inside_send : IsSend url_test_inside.the_row
url_test_inside_send = declared_send url_test_inside.the_type (url_kind_send, tt)

url_test_send : IsSend url_test.the_row
url_test_send = search (url_test_inside_send, sendable) depth 60

body_kind_send : IsSend body_kind.the_row
body_kind_send =
    variants_send body_kind.enum
    (search (
      crosses,
      text.the_send,
      octets.the_send,
      json_path.the_send,
      value_matcher.the_send,
      json_matcher_send,
      sendable,
    ) depth 60)

body_test_inside_send : IsSend body_test_inside.the_row
body_test_inside_send = declared_send body_test_inside.the_type (body_kind_send, tt)

body_test_send : IsSend body_test.the_row
body_test_send = search (body_test_inside_send, sendable) depth 60

request_matcher_inside_send : IsSend request_matcher_inside.the_row
request_matcher_inside_send =
    declared_send request_matcher_inside.the_type
    (search (crosses, text.the_send, url_test_send, named_test_send, body_test_send, sendable) depth 60)

pub request_matcher_send : IsSend request_matcher.the_row
request_matcher_send = search (request_matcher_inside_send, sendable) depth 60

ready_mapping_inside_send : IsSend ready_mapping_inside.the_row
ready_mapping_inside_send =
    declared_send ready_mapping_inside.the_type (shared_spec.the_send, (request_matcher_send, tt))

pub ready_mapping_send : IsSend ready_mapping.the_row
ready_mapping_send = search (ready_mapping_inside_send, sendable) depth 60

-- ---- the book
book_mapping_inside_send : IsSend book_mapping_inside.the_row
book_mapping_inside_send =
    declared_send book_mapping_inside.the_type
    (mapping_id.the_send, (search (crosses, ready_mapping_send, sendable) depth 60, tt))

book_mapping_send : IsSend book_mapping.the_row
book_mapping_send = search (book_mapping_inside_send, sendable) depth 60

source_send : IsSend source.the_row
source_send = variants_send source.enum (search (book_mapping_send, crosses, sendable) depth 60)

entry_send : IsSend entry.the_row
entry_send = declared_send entry.the_type (search (mapping_id.the_send, source_send, crosses, sendable) depth 60)

mapping_store_inside_send : IsSend mapping_store_inside.the_row
mapping_store_inside_send =
    declared_send mapping_store_inside.the_type (search (crosses, book_mapping_send, entry_send, sendable) depth 60)

mapping_store_send : IsSend mapping_store.the_row
mapping_store_send = search (mapping_store_inside_send, sendable) depth 60

known_send : IsSend known.the_row
known_send = search sendable depth 60

parts_send : IsSend parts.the_row
parts_send = declared_send parts.the_type (search (known_send, events.the_send, crosses, sendable) depth 60)

history_inside_send : IsSend history_inside.the_row
history_inside_send = declared_send history_inside.the_type (parts_send, tt)

history_send : IsSend history.the_row
history_send = search (history_inside_send, sendable) depth 60

book_inside_send : IsSend book_inside.the_row
book_inside_send =
    declared_send book_inside.the_type
    (search (history_send, mapping_store_send, scenarios.the_send, recording.the_send, crosses, sendable) depth 60)

pub book_send : IsSend book.the_row
book_send = search (book_inside_send, sendable) depth 60

-- ---- the shared book
module _ (L : RattleType) (o : origin.Ghosts L.Denot) (l : ledger.Ghosts L.Denot) (n : naming.Ghosts L.Denot) where
  locked_inside_send : IsSend (locked_inside.the_row L o l n)
  locked_inside_send =
      declared_send (locked_inside.the_type L o l n) (
        book_send,
        (
          search (whole.the_send, crosses, sendable) depth 60,
          (entries.the_send L l, (search sendable depth 60, (search sendable depth 60, tt))),
        ),
      )

  locked_send : IsSend (locked.the_row L o l n)
  locked_send = search (locked_inside_send, sendable) depth 60

  pub shared_book_send : IsSend (shared_book.the_row L o l n)
  shared_book_send = declared_send (shared_book.the_type L o l n) (search (locked_send, crosses, sendable) depth 60, tt)

  pub shared_book_sync : IsSync (shared_book.the_row L o l n)
  shared_book_sync = declared_sync (shared_book.the_type L o l n) (search (locked_send, crosses, sendable) depth 60, tt)

-- ---- calls
pub book_input_send : IsSend book_input.the_row
book_input_send =
    variants_send book_input.enum
    (search (
      ready_mapping_send,
      mapping_id.the_send,
      text.the_send,
      items.the_send,
      shared_exchange.the_send,
      crosses,
      sendable,
    ) depth 60)

call_send : IsSend call.the_row
call_send = variants_send call.enum ((snapshot.the_send, tt), ((book_input_send, tt), tt))

pub script_send : IsSend script.the_row
script_send = declared_send script.the_type (search (crosses, call_send, sendable) depth 60)

-- ---- closures
-- what has captured these five, where each of them may go
pub captured_five : (name : Sym) (A B C D E : RattleType) → IsSend A → IsSend B → IsSend C → IsSend D → IsSend E
    → IsSend (TupleAt name (A ∷ B ∷ C ∷ D ∷ E ∷ []))
captured_five name A B C D E a b c d e =
    declared_send (type_at name (A ∷ B ∷ C ∷ D ∷ E ∷ [])) (
      as_row_send (row_field A) a,
      (
        as_row_send (row_field B) b,
        (as_row_send (row_field C) c, (as_row_send (row_field D) d, (as_row_send (row_field E) e, tt))),
      ),
    )
