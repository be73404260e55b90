use Rattle.std.proofs.Common.{refl, codes}
use Rattle.json.specs.Print.{escape_byte}
use Rattle.pe_json.proofs.Objects.{also}
use Rattle.coff_archive_json.proofs.Members.{symbols_given}
use Rattle.coff_archive_json.proofs.archive_line.write_members.Goals as goal

pub returns : goal.returns
unfolding escape_byte
returns g c =
    let kind = rw (c.format_member.ensures, c.is_thin.ensures) at c.text.ensures in
    let first = rw c.symbols.ensures at (rw (symbols_given _ (codes "first_linker_member") _ refl) at c.write_symbols_if.ensures) in
    let second = rw c.symbols-2.ensures at (rw (symbols_given _ (codes "second_linker_member") _ refl) at c.write_symbols_if-2.ensures) in
    also _ _ kind (also _ _ first second)
