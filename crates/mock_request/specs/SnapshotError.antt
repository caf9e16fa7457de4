-- The code under which each error of `Snapshot::new` is reported.
use Rattle.error_code.specs.declared.error_code.ErrorCode.{ErrorCode}
use Rattle.error_code.specs.declared.error_code.ErrorCode.TheVariants as code
use Rattle.mock_request.specs.declared.error.SnapshotError.{SnapshotError}
use Rattle.mock_request.specs.declared.error.SnapshotError.TheVariants.{BadUrl, BodyTooLarge, OutOfMemory}

abbrev pub error_code_of : SnapshotError → ErrorCode
error_code_of BadUrl = code.BadUrl
error_code_of BodyTooLarge = code.TooLarge
error_code_of OutOfMemory = code.OutOfMemory
