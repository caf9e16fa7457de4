-- The JSON that the calls under `/recordings` answer.
use Rattle.std.specs.Prelude.{ℕ, List, codes}
use Rattle.admin_json.specs.Mappings.{json_of_list}
use Rattle.admin_json.specs.Written.{json_of_count, only_member}
use Rattle.recorder.specs.declared.recording.RecordingStatus.{RecordingStatus}
use Rattle.recorder.specs.declared.recording.RecordingStatus.TheVariants as status
use Rattle.request_journal.specs.declared.mapping.Mapping.{Mapping}
use Rattle.serde_json.specs.Data.{Data, string, object, no_members, put}

-- as {"mappings":[..],"skipped":0}
abbrev pub json_of_recorded : List Mapping → ℕ → Data
json_of_recorded mappings skipped =
    object (put (codes "skipped") (json_of_count skipped)
    (put (codes "mappings") (json_of_list mappings) no_members))

abbrev pub word_of : RecordingStatus → List ℕ
word_of status.NeverStarted = codes "NeverStarted"
word_of status.Recording = codes "Recording"
word_of status.Stopped = codes "Stopped"

-- as {"status":"NeverStarted"}
abbrev pub json_of_status : RecordingStatus → Data
json_of_status found = only_member (codes "status") (string (word_of found))
