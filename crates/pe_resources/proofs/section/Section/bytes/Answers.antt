-- The bytes are a part of the section's.
use Rattle.std.proofs.Common.{◌∙◌, ap, List, ℕ}
use Rattle.pe_view.specs.Number.{part}
use Rattle.pe_layout.specs.Layout.{image_of}
use Rattle.pe_resources.proofs.Numbers.{part_at}
use Rattle.pe_resources.proofs.section.Section.bytes.Goals as goal

pub returns : goal.returns
returns c =
    let s = c.args.self in
    let found = rw c.unwrap.ensures at c.slice.ensures.value in
    found
    ∙ ap (λ (bytes : List ℕ). part bytes c.args.offset c.args.len) s.bytes
    ∙ part_at (image_of s.layout.now).byte s.start s.len c.args.offset c.args.len c.requires
