-- The archive whose members' names are looked up.
use Rattle.coff_archive.specs.declared.archive.Archive.{Archive}
use Rattle.coff_archive.specs.declared.member_names.MemberNames.{MemberNames}

abbrev pub archive_of : {A : Type 0} → MemberNames A → Archive
archive_of n = n.archive
