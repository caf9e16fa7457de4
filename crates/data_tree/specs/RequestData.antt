-- The tree of a request's data, and the code where there is none.
use Rattle.data_tree.specs.Tree.{Tree, view}
use Rattle.data_tree.specs.declared.request_data.RequestData.{RequestData}
use Rattle.data_tree.specs.declared.request_data.DataError.{DataError}
use Rattle.data_tree.specs.declared.request_data.DataError.TheVariants.{TooLarge, OutOfMemory}
use Rattle.error_code.specs.declared.error_code.ErrorCode.{ErrorCode}
use Rattle.error_code.specs.declared.error_code.ErrorCode.TheVariants as codes

abbrev pub root_of : RequestData → Tree
root_of d = view d.root

abbrev pub error_code_of : DataError → ErrorCode
error_code_of (TooLarge root) = codes.TooLarge
error_code_of OutOfMemory = codes.OutOfMemory
