-- The answer to a call for the HAR document of a recording (HAR 1.2): the one that is on, or else the last one.
use Rattle.std.specs.Prelude.{◌≡◌, ℕ, List, Option, Some, None}
use Rattle.error_code.specs.declared.error_code.ErrorCode.{ErrorCode}
use Rattle.error_code.specs.declared.error_code.ErrorCode.TheVariants as code
use Rattle.har_export.specs.Document.{IsHarText, AreInRange}
use Rattle.mapping_model.specs.declared.reply.Reply.{Reply}
use Rattle.recorder.specs.declared.recording.Session.{Session}
use Rattle.stub_response.specs.ErrorReply.{json_reply}

-- the document of the exchanges that it has
abbrev pub IsHarReply : Option Session → Reply → Type 0
IsHarReply None reply = ⊥
IsHarReply (Some session) reply =
    (text : List ℕ) × IsHarText session.target session.exchanges text × (reply ≡ json_reply 200 text)

-- why there is none: no recording was ever started, or an exchange started at a moment that HAR can't write
abbrev pub HasNoHar : Option Session → ErrorCode → Type 0
HasNoHar None reason = reason ≡ code.NotRecording
HasNoHar (Some session) reason = (reason ≡ code.MomentOutOfRange) × ¬ (AreInRange session.exchanges)
