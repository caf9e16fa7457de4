-- The code of each error of this crate.
use Rattle.error_code.specs.declared.error_code.ErrorCode.{ErrorCode}
use Rattle.error_code.specs.declared.error_code.ErrorCode.TheVariants as code
use Rattle.recorder.specs.declared.error.RecordingError.{RecordingError}
use Rattle.recorder.specs.declared.error.RecordingError.TheVariants.{AlreadyRecording, NotRecording}
use Rattle.recorder.specs.declared.error.RecordingError.TheVariants.{BadTarget, RecordingFull, OutOfMemory}

abbrev pub error_code_of : RecordingError → ErrorCode
error_code_of AlreadyRecording = code.AlreadyRecording
error_code_of NotRecording = code.NotRecording
error_code_of BadTarget = code.BadTarget
error_code_of RecordingFull = code.RecordingFull
error_code_of OutOfMemory = code.OutOfMemory
