-- The contents that an opened image keeps are those of its file.
use Rattle.std.proofs.Common.{◌≡◌, ℕ, List, None, ap, ◌∙◌}
use Rattle.pe_view.specs.Faults.{first_standing}
use Rattle.pe_view.specs.FirstStanding.{none-append}
use Rattle.pe_head.specs.Head.{head_of}
use Rattle.pe_layout.specs.Image.{image_of_file}
use Rattle.pe_layout.specs.SectionFaults.{layout_tests}
use Rattle.pe_layout.specs.Layout.{headers_of, image_of}
use Rattle.pe_tables.specs.Exports.{exports_of}
use Rattle.pe_tables.specs.ExportsView.{exports_view}
use Rattle.pe_tables.specs.declared.export_lookup.Exports.{Exports}
use Rattle.pe_tables.specs.ExportFaults.{export_tests}
use Rattle.pe_image.specs.ImageTests.{image_tests, relocation_tests, table_tests}
use Rattle.pe_image.specs.ImageOf.{IsImageOf}
use Rattle.pe_image.specs.declared.image.Image.{Image}

module _ {A : Type 0} (image : Image A) (own file : List ℕ) (seen : own ≡ file) (is : (first_standing (image_tests 0 own) ≡ None) × IsImageOf 0 own image) where
  pub exports_kept : exports_view image.exports ≡ exports_of (image_of_file 0 file)
  exports_kept = is.1.exports ∙ ap (λ (f : List ℕ). exports_of (image_of_file 0 f)) seen

  pub layout_kept : image_of image.layout ≡ image_of_file 0 file
  layout_kept = is.1.layout.shows ∙ ap (λ (f : List ℕ). image_of_file 0 f) seen

  pub headers_kept : headers_of image.layout ≡ head_of file
  headers_kept = is.1.layout.headers ∙ ap (λ (f : List ℕ). head_of f) seen

-- guesses of the indices of names change nothing
pub guessed : {A : Type 0} (file : List ℕ) (image : Image A) (exports : Exports A) → IsImageOf 0 file image → exports_view exports ≡ exports_view image.exports
    → IsImageOf 0 file (record { layout = image.layout; exports = exports; imports = image.imports; fixups = image.fixups })
guessed file image exports is same = record { layout = is.layout; exports = same ∙ is.exports; imports = is.imports; fixups = is.fixups }

pub laid_out : (file : List ℕ) → first_standing (image_tests 0 file) ≡ None → first_standing (layout_tests 0 file) ≡ None
unfolding image_tests
laid_out file none = (none-append (layout_tests 0 file) (table_tests (image_of_file 0 file)) none).0

-- an image without a fault has none in its imports and base relocations
pub related : (file : List ℕ) → first_standing (image_tests 0 file) ≡ None → first_standing (relocation_tests (image_of_file 0 file)) ≡ None
unfolding image_tests table_tests
related file none =
    let i = image_of_file 0 file in
    (none-append (export_tests i) (relocation_tests i) (none-append (layout_tests 0 file) (table_tests i) none).1).1
