-- The ids that mappings get where their documents give none: version 5 UUIDs (RFC 9562, section 5.5) of URNs.
use Rattle.std.specs.Prelude.{ℕ, List, ◌++◌, take, codes, decimal}
use Rattle.sha1.specs.Sha1.{sha1}
use Rattle.uuid.specs.Parts.{with_version, with_variant}
use Rattle.uuid.specs.Uuid.{namespace_url}
use Rattle.uuid.specs.declared.Variant.{Variant}
use Rattle.uuid.specs.declared.Version.{Version}

-- the version 5 UUID of a name in the namespace of URLs, 6ba7b811-9dad-11d1-80b4-00c04fd430c8
unfoldable pub id_of_name : List ℕ → List ℕ
id_of_name name = with_version (with_variant (take 16 (sha1 (namespace_url ++ name))) Variant.RFC4122) Version.Sha1

-- a mapping posted without an id, by the number of its event
abbrev pub event_id : ℕ → List ℕ
event_id number = id_of_name (codes "urn:stub:mapping:" ++ decimal number)

-- the default mapping at an index, from 0
abbrev pub default_id : ℕ → List ℕ
default_id index = id_of_name (codes "urn:stub:default:" ++ decimal index)

-- the recorded mapping at an index, from 0, by the number of the event that stopped the recording
abbrev pub recording_id : ℕ → ℕ → List ℕ
recording_id stop index = id_of_name ((codes "urn:stub:recording:" ++ decimal stop ++ codes ":") ++ decimal index)
