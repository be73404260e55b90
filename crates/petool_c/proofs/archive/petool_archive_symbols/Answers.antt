-- The rows are those of the symbols of the file's linker member.
use Rattle.std.proofs.Common.{◌∙◌, sym}
use Rattle.c_tables.proofs.Opened.{linker_read, linker_refused, numbered}
use Rattle.petool_c.proofs.archive.petool_archive_symbols.Goals as goal

pub returns-in-Ok : goal.returns-in-Ok
returns-in-Ok c =
    let opened = c.in-Ok.ensures in
    let told = c.tell_symbols in
    numbered c.args.file.now _ c.in-Some.linker _ _ _ _ _ _ _ (sym c.linker_numbered.ensures ∙ c.in-Some.is)
    (linker_read c.in-Some.linker c.in-Ok.archive c.args.file.now _ _ _ _ _ _ opened.0 opened.1.0 opened.1.1 told.ensures)

pub returns-in-Err : goal.returns-in-Err
returns-in-Err c =
    numbered c.args.file.now _ c.in-Some.linker _ _ _ _ _ _ _ (sym c.linker_numbered.ensures ∙ c.in-Some.is)
    (linker_refused c.in-Some.linker c.args.file.now _ _ c.in-Err.first _ _ _ c.in-Err.ensures c.refuse.ensures.status c.refuse.ensures.told)
