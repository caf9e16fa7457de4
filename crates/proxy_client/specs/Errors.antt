-- The code of each error of this crate.
use Rattle.error_code.specs.declared.error_code.ErrorCode.{ErrorCode}
use Rattle.error_code.specs.declared.error_code.ErrorCode.TheVariants as code
use Rattle.proxy_client.specs.declared.error.ProxyError.{ProxyError}
use Rattle.proxy_client.specs.declared.error.ProxyError.TheVariants.{UpstreamFailed, OutOfMemory}

abbrev pub error_code_of : ProxyError → ErrorCode
error_code_of (UpstreamFailed failure) = code.UpstreamFailed
error_code_of OutOfMemory = code.OutOfMemory
