use Rattle.std.proofs.Common.{◌≤◌, ◌<◌, length, arith}
use Rattle.command_output.specs.declared.files.TheConstants.{FILE_LIMIT}
use Rattle.command_output.proofs.FileFacts.{within, over}
use Rattle.command_output.proofs.files.read_file.Goals as goal

pub returns-then-len-le-FILE_LIMIT-clause-ok : goal.returns-then-len-le-FILE_LIMIT-clause-ok
returns-then-len-le-FILE_LIMIT-clause-ok g c =
    let small : length c.in-Ok.bytes.items ≤ FILE_LIMIT = omega (arith, c.len.ensures, c.if-len-le-FILE_LIMIT.true) in
    (within FILE_LIMIT _ c.in-Ok.bytes.items c.in-Ok.ensures.front small, small)

pub returns-else-len-le-FILE_LIMIT-clause-err : goal.returns-else-len-le-FILE_LIMIT-clause-err
returns-else-len-le-FILE_LIMIT-clause-err g c =
    let large : FILE_LIMIT < length c.in-Ok.bytes.items = omega (arith, c.len.ensures, c.if-len-le-FILE_LIMIT.false) in
    over FILE_LIMIT _ c.in-Ok.bytes.items c.in-Ok.ensures.front large
