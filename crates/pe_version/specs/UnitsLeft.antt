-- The characters that an iterator over UTF-16 has yet to return.
use Rattle.std.specs.Prelude.{ℕ, List}
use Rattle.pe_version.specs.Units.{characters}
use Rattle.pe_version.specs.declared.utf16.DecodeUtf16.{DecodeUtf16}

abbrev pub characters_left : DecodeUtf16 → List ℕ
characters_left d = characters d.rest.now
