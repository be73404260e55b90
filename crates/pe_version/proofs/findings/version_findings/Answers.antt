-- The first block, and those in it.
use Rattle.std.proofs.Common.{◌∙◌, ℕ, List, length, ap, sym}
use Rattle.pe_view.specs.View.{bytes_of}
use Rattle.pe_version.specs.FixedInfo.{has_fixed_info, fixed_info_at}
use Rattle.pe_version.specs.Root.{files_at, files_end}
use Rattle.pe_version.proofs.TestsFound.{first_found, none_if}
use Rattle.pe_version.proofs.findings.version_findings.Goals as goal

pub returns : goal.returns
returns g c =
    let bytes : List ℕ = c.args.bytes.now in
    let view = c.new-view in
    first_found c.args.image c.args.rva bytes (bytes_of view.result) c.len.result (bytes_of c.files.result.view) c.files.result.end c.files.result.at c.is_none.result
    c.new-findings.result.items c.find.new.findings.items c.find_end.new.findings.items c.find_blocks.new.findings.items
    c.new-findings.ensures.items
    (none_if (has_fixed_info bytes) c.is_none.result (fixed_info_at bytes) c.fixed_info.result (sym c.is_none.ensures) c.fixed_info.ensures)
    view.ensures
    (c.len.ensures ∙ ap (λ (xs : List ℕ). length xs) view.ensures)
    (ap (λ (v : _). bytes_of v) c.files.ensures.view ∙ view.ensures)
    (c.files.ensures.end ∙ ap files_end view.ensures)
    (c.files.ensures.start ∙ ap files_at view.ensures)
    c.in_ok-find.ensures c.in_ok-find_end.ensures c.in_ok-find_blocks.ensures
