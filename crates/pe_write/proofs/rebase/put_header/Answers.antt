use Rattle.std.proofs.Common.{◌∙◌, ◌+◌, ℕ, List, ap}
use Rattle.pe_write.specs.Rebase.{image_base_place, check_sum_place}
use Rattle.pe_write.specs.Rebase.{put, put_header}
use Rattle.pe_write.proofs.rebase.put_header.Goals as goal

pub returns : goal.returns
unfolding put_header
returns c =
    let h = c.args.headers.now in
    let xs = c.args.bytes.now in
    let base = c.args.base in
    c.write_low-2.ensures
    ∙ ap (λ (ys : List ℕ). put ys (check_sum_place h) 4 0)
    (c.write_low.ensures
    ∙ ap (λ (o : ℕ). put xs (h.pe_offset + 24 + o) c.image_base_width.result base) c.image_base_offset.ensures
    ∙ ap (λ (w : ℕ). put xs (image_base_place h) w base) c.image_base_width.ensures)
