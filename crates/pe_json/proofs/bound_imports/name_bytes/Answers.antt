use Rattle.std.proofs.Common.{◌∙◌, ℕ, ap, take}
use Rattle.std.proofs.lemmas.List.{take_min}
use Rattle.pe_layout.specs.Image.{bytes_at}
use Rattle.pe_layout.specs.Layout.{image_of}
use Rattle.pe_json.proofs.bound_imports.name_bytes.Goals as goal

pub returns : goal.returns
returns c =
    let i = image_of c.args.layout.now in
    let bytes = c.raw_bytes-held.result.now in
    let held = c.raw_bytes-held.ensures in
    c.new.ensures ∙ ap (λ (n : ℕ). take n bytes) c.min-len.ensures ∙ take_min 256 bytes
    ∙ ap (take 256) (held.bytes ∙ ap (λ (n : ℕ). bytes_at i c.args.rva n) held.len)
