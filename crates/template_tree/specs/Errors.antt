-- The code of a template's error.
use Rattle.error_code.specs.declared.error_code.ErrorCode.{ErrorCode}
use Rattle.template_tree.specs.declared.error.TemplateError.{TemplateError}
use Rattle.template_tree.specs.declared.error.TemplateErrorKind.{TemplateErrorKind}
use Rattle.template_tree.specs.declared.error.TemplateErrorKind.TheVariants.{Tag, TooLong}
use Rattle.template_words.specs.Errors as tags

abbrev pub error_code_of_kind : TemplateErrorKind → ErrorCode
error_code_of_kind (Tag error) = tags.error_code_of error
error_code_of_kind TooLong = ErrorCode.TooLong

abbrev pub error_code_of : TemplateError → ErrorCode
error_code_of error = error_code_of_kind error.kind
