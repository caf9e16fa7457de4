-- The code of each error of this crate.
use Rattle.error_code.specs.declared.error_code.ErrorCode.{ErrorCode}
use Rattle.error_code.specs.declared.error_code.ErrorCode.TheVariants as code
use Rattle.book_history.specs.declared.error.HistoryError.{HistoryError}
use Rattle.book_history.specs.declared.error.HistoryError.TheVariants.{HistoryFull, OutOfMemory}

abbrev pub error_code_of : HistoryError → ErrorCode
error_code_of HistoryFull = code.HistoryFull
error_code_of OutOfMemory = code.OutOfMemory
