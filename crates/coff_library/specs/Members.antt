-- What an archive is to be made of.
use Rattle.std.specs.Prelude.{ℕ, List}
use Rattle.coff_library.specs.declared.new_member.NewMember as code

pub record Member : Type 0 where
  pub name : List ℕ
  pub bytes : List ℕ

abbrev pub member_view : code.NewMember → Member
member_view m = record { name = m.name.now; bytes = m.bytes.now }
