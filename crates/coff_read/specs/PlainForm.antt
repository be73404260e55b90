-- The definitions of both forms, at the plain one.
use Rattle.std.specs.Prelude.{◌≡◌, ℕ, List}
use Rattle.coff_read.specs.FormFaults as form_faults
use Rattle.coff_read.specs.FormReading as form
use Rattle.coff_read.specs.Forms.{Plain}
use Rattle.coff_read.specs.ObjectFaults.{symbol_tests, object_tests}
use Rattle.coff_read.specs.Reading.{section_in, symbol_at, symbol_indexes, object_of}

-- What is read of a plain object, and its faults, are those that the definitions of both forms say.
pub record IsPlain (file : List ℕ) : Type 0 where
  pub tests : form_faults.object_tests Plain file ≡ object_tests file
  pub object : form.object_of Plain file ≡ object_of file
  pub indexes : form.symbol_indexes Plain file ≡ symbol_indexes file
  pub symbol_tests : (k : ℕ) → form_faults.symbol_tests Plain file k ≡ symbol_tests file k
  pub symbol : (at : ℕ) → form.symbol_at Plain file at ≡ symbol_at file at
  pub section : (h : ℕ) → form.section_in Plain file h ≡ section_in file h
