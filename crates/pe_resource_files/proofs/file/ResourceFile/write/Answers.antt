use Rattle.std.proofs.Common.{Bor, ◌∙◌, ◌≡◌, List, ℕ, ◌++◌, ap, sym, subst}
use Rattle.std.specs.Prelude.{flat_map}
use Rattle.pe_text.specs.TextWriter.{WritesAll}
use Rattle.pe_resource_files.specs.File.{pieces_of}
use Rattle.pe_resource_files.proofs.Writing.{both, all_parts}
use Rattle.pe_resource_files.proofs.file.ResourceFile.write.Goals as goal

pub returns : goal.returns
returns g c =
    let file = c.args.self.now in
    let first = c.in_ok-write_all.ensures in
    let parts : flat_map (λ (part : Bor (List ℕ)). part.now) c.as_slice-2.result.now ≡ (flat_map (λ part. part) (pieces_of file).1) =
    ap (flat_map (λ (part : Bor (List ℕ)). part.now)) c.as_slice-2.ensures.value ∙ sym (all_parts file.parts.items) in
    both _ _ _ (pieces_of file).0 (flat_map (λ part. part) (pieces_of file).1) _ _ _ c.write_parts.result
    (first.0 ∙ ap (λ (bytes : List ℕ). g.W.Sink.taken c.args.writer.now ++ bytes) c.as_slice.ensures.value) first.1
    (subst (WritesAll _ _ _ _ c.write_parts.result) parts c.write_parts.ensures)
