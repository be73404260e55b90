-- The phases of a rebase, joined.
use Rattle.std.proofs.Common.{◌≡◌, ℕ, List, Some, None, ap, ◌∙◌}
use Rattle.pe_view.specs.declared.fault.Fault.{Fault}
use Rattle.pe_view.specs.Faults.{first_standing, Refuses}
use Rattle.pe_view.specs.FirstStanding.{first-past, first-in, refused-in, refused-past}
use Rattle.pe_head.specs.Head.{head_of}
use Rattle.pe_head.specs.declared.headers.Headers.{Headers}
use Rattle.pe_layout.specs.Image.{LaidOut, image_of_file}
use Rattle.pe_layout.specs.Layout.{headers_of, image_of, IsLayoutOf}
use Rattle.pe_layout.specs.declared.layout.Layout.{Layout}
use Rattle.pe_tables.specs.declared.fixups.Fixup.{Fixup}
use Rattle.pe_layout.specs.SectionFaults.{layout_tests}
use Rattle.pe_tables.specs.Fixups.{fixups_of}
use Rattle.pe_write.specs.Rebase.{rebased}
use Rattle.pe_write.specs.RebaseFaults.{own_base_tests, data_tests, rebase_tests}
use Rattle.pe_image.specs.ImageTests.{relocation_tests}
use Rattle.pe_write.proofs.Writes.{rebased_from}
use Rattle.pe_view.specs.declared.refusal.Refusal.{Refusal}
use Rattle.pe_write.proofs.Rebasable.{IsSound, lies, kept}
use Rattle.pe_write.proofs.Whole.{whole}

-- the tests of a base, from a file's layout
pub same_base : (file : List ℕ) (base : ℕ) (l : Layout) → IsLayoutOf file 0 l
    → first_standing (own_base_tests (headers_of l).magic (image_of l) base) ≡ first_standing (own_base_tests (head_of file).magic (image_of_file 0 file) base)
same_base file base l is =
    ap (λ (i : LaidOut). first_standing (own_base_tests (headers_of l).magic i base)) is.shows
    ∙ ap (λ (h : Headers). first_standing (own_base_tests h.magic (image_of_file 0 file) base)) is.headers

-- and those of its fields and raw data
pub same_data : (file : List ℕ) (l : Layout) (fixups : List Fixup) → IsLayoutOf file 0 l → fixups ≡ fixups_of (image_of_file 0 file)
    → first_standing (data_tests (headers_of l) fixups) ≡ first_standing (data_tests (head_of file) (fixups_of (image_of_file 0 file)))
same_data file l fixups is read =
    ap (λ (fs : List Fixup). first_standing (data_tests (headers_of l) fs)) read
    ∙ ap (λ (h : Headers). first_standing (data_tests h (fixups_of (image_of_file 0 file)))) is.headers

module _ (file : List ℕ) (base : ℕ) where
  pub refused_layout : (y : Fault) → first_standing (layout_tests 0 file) ≡ Some y → first_standing (rebase_tests file base) ≡ Some y
  unfolding rebase_tests
  refused_layout y some = first-in (layout_tests 0 file) _ y some

  module _ (laid : first_standing (layout_tests 0 file) ≡ None) where
    pub refused_tables : (e : Refusal) → Refuses (relocation_tests (image_of_file 0 file)) e → Refuses (rebase_tests file base) e
    unfolding rebase_tests
    refused_tables e r = refused-past (layout_tests 0 file) _ e laid (refused-in (relocation_tests (image_of_file 0 file)) _ e r)

    module _ (read : first_standing (relocation_tests (image_of_file 0 file)) ≡ None) where
      pub refused_base : (y : Fault) → first_standing (own_base_tests (head_of file).magic (image_of_file 0 file) base) ≡ Some y → first_standing (rebase_tests file base) ≡ Some y
      unfolding rebase_tests
      refused_base y some = first-past (layout_tests 0 file) _ laid ∙ first-past (relocation_tests (image_of_file 0 file)) _ read ∙ first-in (own_base_tests (head_of file).magic (image_of_file 0 file) base) (data_tests (head_of file) (fixups_of (image_of_file 0 file))) y some

      module _ (based : first_standing (own_base_tests (head_of file).magic (image_of_file 0 file) base) ≡ None) where
        pub all_but_data : first_standing (rebase_tests file base) ≡ first_standing (data_tests (head_of file) (fixups_of (image_of_file 0 file)))
        unfolding rebase_tests
        all_but_data = first-past (layout_tests 0 file) _ laid ∙ first-past (relocation_tests (image_of_file 0 file)) _ read ∙ first-past (own_base_tests (head_of file).magic (image_of_file 0 file) base) (data_tests (head_of file) (fixups_of (image_of_file 0 file))) based

  -- the rebased file, by the bytes written into it
  pub made : IsSound file base → rebased file base ≡ rebased_from (head_of file) file base
  unfolding rebased
  made n = whole (head_of file) file base (lies file base n) (kept file base n) n.apart
