-- A reply whose body is a JSON value (RFC 8259).
use Rattle.std.specs.Prelude.{◌≡◌, ◌≤◌, ℕ, List, Some, false}
use Rattle.mapping_model.specs.declared.reply.Reply.{Reply}
use Rattle.serde_json.specs.Data.{Data, depth}
use Rattle.serde_json.specs.Read.{read, max_depth}
use Rattle.serde_json.specs.Written.{has_float, compact_text}
use Rattle.stub_response.specs.ErrorReply.{json_reply}

-- the text is the value's compact text, and reads back, where the value isn't deeper than is read at all
pub record IsTextOf (value : Data) (text : List ℕ) : Type 0 where
  pub compact : has_float value ≡ false → text ≡ compact_text value
  pub reads_back : depth value ≤ max_depth → read text ≡ Some value

abbrev pub IsJsonReply : ℕ → Data → Reply → Type 0
IsJsonReply status value reply = (text : List ℕ) × IsTextOf value text × (reply ≡ json_reply status text)
