use Rattle.coff_archive_json.proofs.engine.write_lines.Goals as goal

pub returns-in-Ok-clause-adds : goal.returns-in-Ok-clause-adds
returns-in-Ok-clause-adds g c =
    let opened = rw c.in-Ok.is at c.open_archive.ensures in
    rw (opened.0, opened.1.1) (rw opened.1.0 at c.write_archive.ensures.adds)

pub returns-in-Err-clause-adds : goal.returns-in-Err-clause-adds
returns-in-Err-clause-adds g c = rw (rw c.in-Err.is at c.open_archive.ensures) c.write_refused_line.ensures
