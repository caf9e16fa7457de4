-- Each code of an error that users see, with its number, its title and the HTTP status of an answer that reports it.
use Rattle.std.specs.Prelude.{ℕ, List, Option, Some, None, codes}
use Rattle.error_code.specs.declared.error_code.ErrorCode.{ErrorCode}
use Rattle.error_code.specs.declared.error_code.ErrorCode.TheVariants.{BadDocument, NumberNotWhole, UnsupportedField}
use Rattle.error_code.specs.declared.error_code.ErrorCode.TheVariants.{BadPattern, BadUrl, UnclosedTag, UnexpectedClose}
use Rattle.error_code.specs.declared.error_code.ErrorCode.TheVariants.{UnknownHelper, WrongArguments, TooDeep, TooLong}
use Rattle.error_code.specs.declared.error_code.ErrorCode.TheVariants.{BadPath, UnsupportedTag, CodeRefused}
use Rattle.error_code.specs.declared.error_code.ErrorCode.TheVariants.{UnknownMapping, UnknownScenario, UnknownState}
use Rattle.error_code.specs.declared.error_code.ErrorCode.TheVariants.{AlreadyRecording, NotRecording, BadTarget}
use Rattle.error_code.specs.declared.error_code.ErrorCode.TheVariants.{RecordingFull, HistoryFull, TooManyMappings}
use Rattle.error_code.specs.declared.error_code.ErrorCode.TheVariants.{UnknownAdminCall, OutOfMemory, TooLarge}
use Rattle.error_code.specs.declared.error_code.ErrorCode.TheVariants.{OverBudget, UpstreamFailed, MomentOutOfRange}

abbrev pub number_of : ErrorCode → ℕ
number_of BadDocument = 10
number_of NumberNotWhole = 11
number_of UnsupportedField = 12
number_of BadPattern = 13
number_of BadUrl = 14
number_of UnclosedTag = 20
number_of UnexpectedClose = 21
number_of UnknownHelper = 22
number_of WrongArguments = 23
number_of TooDeep = 24
number_of TooLong = 25
number_of BadPath = 26
number_of UnsupportedTag = 27
number_of CodeRefused = 28
number_of UnknownMapping = 40
number_of UnknownScenario = 41
number_of UnknownState = 42
number_of AlreadyRecording = 43
number_of NotRecording = 44
number_of BadTarget = 45
number_of RecordingFull = 46
number_of HistoryFull = 47
number_of TooManyMappings = 48
number_of UnknownAdminCall = 49
number_of OutOfMemory = 50
number_of TooLarge = 51
number_of OverBudget = 52
number_of UpstreamFailed = 53
number_of MomentOutOfRange = 54

abbrev pub title_of : ErrorCode → List ℕ
title_of BadDocument = codes "bad document"
title_of NumberNotWhole = codes "number not whole"
title_of UnsupportedField = codes "unsupported field"
title_of BadPattern = codes "bad pattern"
title_of BadUrl = codes "bad url"
title_of UnclosedTag = codes "unclosed tag"
title_of UnexpectedClose = codes "unexpected close"
title_of UnknownHelper = codes "unknown helper"
title_of WrongArguments = codes "wrong arguments"
title_of TooDeep = codes "too deep"
title_of TooLong = codes "too long"
title_of BadPath = codes "bad path"
title_of UnsupportedTag = codes "unsupported tag"
title_of CodeRefused = codes "code refused"
title_of UnknownMapping = codes "unknown mapping"
title_of UnknownScenario = codes "unknown scenario"
title_of UnknownState = codes "unknown state"
title_of AlreadyRecording = codes "already recording"
title_of NotRecording = codes "not recording"
title_of BadTarget = codes "bad target"
title_of RecordingFull = codes "recording full"
title_of HistoryFull = codes "history full"
title_of TooManyMappings = codes "too many mappings"
title_of UnknownAdminCall = codes "unknown admin call"
title_of OutOfMemory = codes "out of memory"
title_of TooLarge = codes "too large"
title_of OverBudget = codes "over budget"
title_of UpstreamFailed = codes "upstream failed"
title_of MomentOutOfRange = codes "moment out of range"

-- none reports that a recording is full
abbrev pub status_of : ErrorCode → Option ℕ
status_of BadDocument = Some 422
status_of NumberNotWhole = Some 422
status_of UnsupportedField = Some 422
status_of BadPattern = Some 422
status_of BadUrl = Some 422
status_of UnclosedTag = Some 422
status_of UnexpectedClose = Some 422
status_of UnknownHelper = Some 422
status_of WrongArguments = Some 422
status_of TooDeep = Some 422
status_of TooLong = Some 422
status_of BadPath = Some 422
status_of UnsupportedTag = Some 422
status_of CodeRefused = Some 422
status_of UnknownMapping = Some 404
status_of UnknownScenario = Some 404
status_of UnknownState = Some 422
status_of AlreadyRecording = Some 409
status_of NotRecording = Some 409
status_of BadTarget = Some 422
status_of RecordingFull = None
status_of HistoryFull = Some 503
status_of TooManyMappings = Some 503
status_of UnknownAdminCall = Some 404
status_of OutOfMemory = Some 503
status_of TooLarge = Some 413
status_of OverBudget = Some 500
status_of UpstreamFailed = Some 502
status_of MomentOutOfRange = Some 422
