-- A section's raw data and its relocations.
use Rattle.std.proofs.Common.{◌∙◌, ◌+◌, ℕ, List, length, ap}
use Rattle.std.specs.List.{flat_map}
use Rattle.coff_read.specs.ObjectView.{raw_view}
use Rattle.coff_object.specs.StringTableView.{counted}
use Rattle.coff_object.specs.Written.{raw_bytes, relocation_bytes}
use Rattle.coff_object.proofs.Sizes.{body_counted}
use Rattle.coff_object.proofs.layout.body_size.Goals as goal

pub returns : goal.returns
returns g c =
    let raw = raw_bytes (raw_view c.args.section.now.raw) in
    let relocations = flat_map relocation_bytes c.args.section.now.relocations.items in
    let size = c.relocations_size.ensures ∙ ap (λ rs. counted (length (flat_map relocation_bytes rs))) c.as_slice.ensures.value in
    c.saturating_add.ensures ∙ ap (λ (bs : List ℕ). counted (length bs + c.relocations_size.result)) c.raw_bytes.ensures
    ∙ ap (λ (n : ℕ). counted (length raw + n)) size ∙ body_counted raw relocations
