-- The members, and then the two linker members.
use Rattle.std.proofs.Common.{◌≢◌, ◌++◌, [], Result, Ok, Err}
use Rattle.std.specs.Prelude.{OnErr}
use Rattle.std.specs.List.{flat_map}
use Rattle.pe_view.specs.AllStanding.{some_after, some_before}
use Rattle.pe_view.specs.Standing.{standing}
use Rattle.coff_archive.specs.ArchiveFile.{file_of, is_thin}
use Rattle.coff_archive.specs.Findings.{read_tests, table_tests, archive_tests}
use Rattle.coff_archive.specs.Front.{linker_member, names_of}
use Rattle.coff_archive.specs.Members.{members}
use Rattle.coff_archive.specs.declared.linker.Linker.TheVariants.{First, Second}
use Rattle.coff_archive.proofs.Found.{found_three}
use Rattle.coff_archive.proofs.archive_findings.findings.Goals as goal

on_err : {T E : Type 0} {P : Type 0} (r : Result T E) → P → OnErr r P
on_err (Ok x) holds = tt
on_err (Err e) holds = holds

pub returns-clause-all : goal.returns-clause-all
unfolding archive_tests
returns-clause-all g c =
    let thin = is_thin c.args.archive.now in
    let file = file_of c.args.archive.now in
    found_three (flat_map (read_tests (names_of thin file)) (members thin file)) (table_tests thin file First (linker_member First thin file)) (table_tests thin file Second (linker_member Second thin file))
    c.new-found.result.items c.find_members.new.found.items c.find_table.new.found.items c.find_table-2.new.found.items
    c.new-found.ensures.items c.in_ok-find_members.ensures c.in_ok-find_table.ensures c.in_ok-find_table-2.ensures

pub returns-in_err-find_members-clause-memory : goal.returns-in_err-find_members-clause-memory
unfolding archive_tests
returns-in_err-find_members-clause-memory g c =
    let thin = is_thin c.args.archive.now in
    let file = file_of c.args.archive.now in
    let walked = flat_map (read_tests (names_of thin file)) (members thin file) in
    let first = table_tests thin file First (linker_member First thin file) in
    let second = table_tests thin file Second (linker_member Second thin file) in
    let some : standing (archive_tests thin file) ≢ [] = some_before walked (first ++ second) c.in_err-find_members.ensures in
    on_err c.from_residual.result some

pub returns-in_err-find_table-clause-memory : goal.returns-in_err-find_table-clause-memory
unfolding archive_tests
returns-in_err-find_table-clause-memory g c =
    let thin = is_thin c.args.archive.now in
    let file = file_of c.args.archive.now in
    let walked = flat_map (read_tests (names_of thin file)) (members thin file) in
    let first = table_tests thin file First (linker_member First thin file) in
    let second = table_tests thin file Second (linker_member Second thin file) in
    let some : standing (archive_tests thin file) ≢ [] = some_after walked (first ++ second) (some_before first second c.in_err-find_table.ensures) in
    on_err c.from_residual-in_err-find_table.result some

pub returns-in_err-find_table-2-clause-memory : goal.returns-in_err-find_table-2-clause-memory
unfolding archive_tests
returns-in_err-find_table-2-clause-memory g c =
    let thin = is_thin c.args.archive.now in
    let file = file_of c.args.archive.now in
    let walked = flat_map (read_tests (names_of thin file)) (members thin file) in
    let first = table_tests thin file First (linker_member First thin file) in
    let second = table_tests thin file Second (linker_member Second thin file) in
    let some : standing (archive_tests thin file) ≢ [] = some_after walked (first ++ second) (some_after first second c.in_err-find_table-2.ensures) in
    on_err c.from_residual-in_err-find_table-2.result some
