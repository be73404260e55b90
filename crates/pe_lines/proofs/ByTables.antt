-- The texts of an image without a fault, from its headers and tables.
use Rattle.std.proofs.Common.{◌≡◌, List, ℕ, None, map, sym, ◌∙◌, ap, ap₂}
use Rattle.std.specs.Option.{option_or}
use Rattle.pe_view.specs.Faults.{first_standing}
use Rattle.pe_view.specs.FirstStanding.{first-append}
use Rattle.pe_head.specs.declared.headers.Headers.{Headers}
use Rattle.pe_layout.specs.Image.{image_of_file}
use Rattle.pe_layout.specs.SectionFaults.{layout_tests}
use Rattle.pe_tables.specs.ExportsView.{exports_view}
use Rattle.pe_tables.specs.ImportView.{import_view}
use Rattle.pe_image.specs.ImageTests.{table_tests, image_tests}
use Rattle.pe_parts.specs.PackedTables.{AreContentsOf}
use Rattle.pe_parts.specs.declared.tables.PackedTables.{PackedTables}
use Rattle.pe_text.specs.declared.outcome.Outcome.TheVariants.{Done}
use Rattle.pe_reach.specs.PartsRan.{IsTextOfTables}
use Rattle.pe_lines.specs.Dump.{dump_text}
use Rattle.pe_lines.specs.Format.{accepted_line}
use Rattle.pe_lines.specs.Reports.{IsCheckText, IsDumpText}

module _ {A : Type 0} (h : Headers) (tables : PackedTables A) where
  no_fault : (file : List ℕ) → first_standing (layout_tests 0 file) ≡ None → AreContentsOf (image_of_file 0 file) tables → first_standing (image_tests 0 file) ≡ None
  unfolding image_tests
  no_fault file sound are = first-append (layout_tests 0 file) (table_tests (image_of_file 0 file)) ∙ ap₂ option_or sound are.sound

  pub accepted_by_tables : IsTextOfTables IsCheckText h tables Done (accepted_line h)
  accepted_by_tables file heads sound are = (no_fault file sound are, ap accepted_line (sym heads))

  pub dump_by_tables : IsTextOfTables IsDumpText h tables Done (dump_text h (exports_view tables.exports) (map import_view tables.imports.items) tables.fixups.items)
  dump_by_tables file heads sound are = (no_fault file sound are, λ j. dump_text (sym heads j) (are.exports j) (are.imports j) (are.fixups j))
