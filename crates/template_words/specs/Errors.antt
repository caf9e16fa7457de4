-- The code of a tag's error, and which of several errors of a tag is reported.
use Rattle.std.specs.Prelude.{ℕ, nat_le, Option, Some, None, if◌then◌else◌}
use Rattle.error_code.specs.declared.error_code.ErrorCode.{ErrorCode}
use Rattle.template_words.specs.declared.error.TagError.{TagError}
use Rattle.template_words.specs.declared.error.TagError.TheVariants.{UnclosedTag, UnexpectedClose, UnknownHelper}
use Rattle.template_words.specs.declared.error.TagError.TheVariants.{WrongArguments, TooDeep, BadPath, UnsupportedTag}

abbrev pub error_code_of : TagError → ErrorCode
error_code_of UnclosedTag = ErrorCode.UnclosedTag
error_code_of UnexpectedClose = ErrorCode.UnexpectedClose
error_code_of UnknownHelper = ErrorCode.UnknownHelper
error_code_of WrongArguments = ErrorCode.WrongArguments
error_code_of TooDeep = ErrorCode.TooDeep
error_code_of BadPath = ErrorCode.BadPath
error_code_of UnsupportedTag = ErrorCode.UnsupportedTag

-- the order in which the errors of a tag are reported, wherever in the tag they are
abbrev pub rank : TagError → ℕ
rank UnclosedTag = 0
rank UnsupportedTag = 1
rank UnexpectedClose = 2
rank UnknownHelper = 3
rank BadPath = 4
rank WrongArguments = 5
rank TooDeep = 6

abbrev pub earlier : TagError → TagError → TagError
earlier d e = if nat_le (rank d) (rank e) then d else e

-- the error that is reported where both parts of a tag are looked at
abbrev pub joined : Option TagError → Option TagError → Option TagError
joined None e = e
joined (Some d) None = Some d
joined (Some d) (Some e) = Some (earlier d e)
