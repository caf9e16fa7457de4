-- The code of each way in which a document is wrong.
use Rattle.error_code.specs.declared.error_code.ErrorCode.{ErrorCode}
use Rattle.error_code.specs.declared.error_code.ErrorCode.TheVariants as code
use Rattle.json_reading.specs.declared.kind.Kind.{Kind}
use Rattle.json_reading.specs.declared.kind.Kind.TheVariants.{NotJson, NumberNotWhole, Unsupported, Misshapen, TwoUrls}

abbrev pub error_code_of : Kind → ErrorCode
error_code_of NotJson = code.BadDocument
error_code_of NumberNotWhole = code.NumberNotWhole
error_code_of Unsupported = code.UnsupportedField
error_code_of Misshapen = code.BadDocument
error_code_of TwoUrls = code.BadUrl
