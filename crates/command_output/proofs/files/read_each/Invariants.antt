use Rattle.std.proofs.Common.{take, string_bytes}
use Rattle.std.specs.List.{AllZip}
use Rattle.command_output.specs.Files.{IsFile}
use Rattle.command_output.proofs.files.read_each.Given as goal

abbrev pub invariant-loop-path : goal.invariant-loop-path
invariant-loop-path g l =
    AllZip (λ path text. IsFile (g.F.FileReader.content l.fn.files (string_bytes path)) text.items)
    (take l.path-index l.paths) l.texts.items
