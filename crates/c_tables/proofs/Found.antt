-- The findings of an image that was laid out of a file are those of the file.
use Rattle.std.proofs.Common.{◌≡◌, ◌∙◌, ℕ, List, ap}
use Rattle.pe_view.specs.Standing.{standing}
use Rattle.pe_head.specs.Head.{head_of}
use Rattle.pe_head.specs.declared.headers.Headers.{Headers}
use Rattle.pe_layout.specs.Image.{LaidOut, image_of_file}
use Rattle.pe_layout.specs.Layout.{IsLayoutOf, headers_of, image_of}
use Rattle.pe_layout.specs.declared.layout.Layout.{Layout}
use Rattle.pe_records.specs.FindingTests.{finding_tests}
use Rattle.c_tables.specs.Findings.{findings_of}

pub same_findings : (layout : Layout) (file bytes : List ℕ) → IsLayoutOf file 0 layout → bytes ≡ file
    → standing (finding_tests (headers_of layout).machine (image_of layout) bytes) ≡ findings_of file
unfolding findings_of
same_findings layout file bytes of same =
    ap (λ (h : Headers). standing (finding_tests h.machine (image_of layout) bytes)) of.headers
    ∙ ap (λ (i : LaidOut). standing (finding_tests (head_of file).machine i bytes)) of.shows
    ∙ ap (λ (b : List ℕ). standing (finding_tests (head_of file).machine (image_of_file 0 file) b)) same
