use Rattle.std.proofs.KnownBytes.{Appends-trans}
use Rattle.std.proofs.Common.{◌++◌}
use Rattle.mapping_commands.proofs.notes.put_all_notes.Goals as goal

pub returns : goal.returns
returns g c =
    let (passed, first) = c.put_notes.ensures in
    let (more, last) = c.put_notes-2.ensures in
    (passed ++ more, Appends-trans _ _ _ passed more first last)
