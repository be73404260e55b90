-- How many pairs the exports of a set's images have together.
use Rattle.std.proofs.Common.{◌≡◌, ◌+◌, ◌*◌, ◌≤◌, ◌^◌, ℕ, List, [], ◌∷◌, ◌++◌, length, map, None, arith}
use Rattle.pe_view.specs.Faults.{first_standing}
use Rattle.pe_view.specs.FirstStanding.{none-append}
use Rattle.pe_layout.specs.Image.{LaidOut, image_of_file}
use Rattle.pe_layout.specs.SectionFaults.{layout_tests}
use Rattle.pe_tables.specs.ExportFaults.{export_tests}
use Rattle.pe_tables.specs.Exports.{exports_of}
use Rattle.pe_tables.specs.FixupFaults.{fixup_tests}
use Rattle.pe_tables.specs.ImportFaults.{import_tests}
use Rattle.pe_tables.specs.Imports.{Import, imports_of}
use Rattle.pe_image.specs.ImageTests.{image_tests, table_tests}
use Rattle.pe_set.specs.Numbered.{numbered}
use Rattle.pe_set.specs.Search.{pairs_of}
use Rattle.pe_set.specs.Set.{Entry, modules_from, modules_of}
use Rattle.pe_set.specs.SetFaults.{names_tests, files_tests}
use Rattle.pe_set.proofs.Distinct.{few_entries}

-- the laws
pub record FewExports : Type 0 where
  pub ordinals : (i : LaidOut) → first_standing (export_tests i) ≡ None → length (exports_of i).ordinals ≤ 65536
  pub names : (i : LaidOut) → first_standing (export_tests i) ≡ None → length (exports_of i).names ≤ 65536

module _ (few : FewExports) where
  -- those of a file without a fault
  of_file : (n : ℕ) (file : List ℕ) → first_standing (image_tests n file) ≡ None
      → length (exports_of (image_of_file n file)).ordinals + length (exports_of (image_of_file n file)).names ≤ 131072
  unfolding image_tests table_tests
  of_file n file none =
      let i : LaidOut = image_of_file n file in
      let slots = map (λ (x : Import). x.slot) (imports_of i) in
      let a = none-append (layout_tests n file) (export_tests i ++ (import_tests i ++ fixup_tests i slots)) none in
      let b = none-append (export_tests i) (import_tests i ++ fixup_tests i slots) a.1 in
      let ordinals = few.ordinals i b.0 in
      let names = few.names i b.0 in
      omega (arith, ordinals, names)

  from : (n : ℕ) (es : List Entry) → first_standing (numbered (λ i (e : Entry). image_tests i e.file) n es) ≡ None → pairs_of (modules_from n es) ≤ 131072 * length es
  from n [] none = omega arith
  from n (e ∷ es) none =
      let parts = none-append (image_tests n e.file) (numbered (λ i (e : Entry). image_tests i e.file) (n + 1) es) none in
      let own = of_file n e.file parts.0 in
      let later = from (n + 1) es parts.1 in
      omega (arith, own, later)

  pub little : (es : List Entry) → first_standing (names_tests es) ≡ None → first_standing (files_tests es) ≡ None → pairs_of (modules_of es) ≤ 2 ^ 25
  unfolding files_tests modules_of
  little es names files =
      let entries = few_entries es names in
      let all = from 0 es files in
      omega (arith, entries, all)
