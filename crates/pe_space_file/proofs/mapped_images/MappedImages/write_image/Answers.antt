-- The bytes of an image are those of the addresses from its base on, each part of which is a window.
use Rattle.std.proofs.Common.{◌≡◌, ◌∙◌, ◌+◌, ◌≤◌, ℕ, Ok, sym, ap, subst, arith}
use Rattle.std.specs.Prelude.{Option, unwrap_or}
use Rattle.pe_space.specs.Content.{Content, bytes_from, nth_image, window_at}
use Rattle.pe_space.proofs.Asked.{limit_le}
use Rattle.pe_text.specs.TextWriter.{WritesAll}
use Rattle.pe_space_file.specs.ImageBytes.{image_bytes}
use Rattle.pe_space_file.proofs.Placed.{part_of}
use Rattle.pe_space_file.proofs.Sizes.{base_is, size_is}
use Rattle.pe_space_file.proofs.mapped_images.MappedImages.write_image.Goals as goal

pub write_range-requires-clause-room : goal.write_range-requires-clause-room
write_range-requires-clause-room g c =
    let images = c.self.inside.space.images in
    let j : ℕ = c.args.number in
    let base : c.unwrap_or-base.result ≡ (nth_image images j).base = c.unwrap_or-base.ensures ∙ ap (λ (o : Option ℕ). unwrap_or o 0) c.base_of.ensures ∙ base_is images j in
    let size : c.unwrap_or-size.result ≡ (nth_image images j).size = c.unwrap_or-size.ensures ∙ ap (λ (o : Option ℕ). unwrap_or o 0) c.size_of.ensures ∙ size_is images j in
    let room = c.self.invariant.room j in
    let limit = limit_le (nth_image images j).magic in
    omega arith

pub write_range-requires-clause-inside : goal.write_range-requires-clause-inside
write_range-requires-clause-inside g c =
    let content : Content = c.self.inside.space in
    let j : ℕ = c.args.number in
    let base : c.unwrap_or-base.result ≡ (nth_image content.images j).base = c.unwrap_or-base.ensures ∙ ap (λ (o : Option ℕ). unwrap_or o 0) c.base_of.ensures ∙ base_is content.images j in
    let size : c.unwrap_or-size.result ≡ (nth_image content.images j).size = c.unwrap_or-size.ensures ∙ ap (λ (o : Option ℕ). unwrap_or o 0) c.size_of.ensures ∙ size_is content.images j in
    subst (λ (b : ℕ). (k n : ℕ) → k + n ≤ c.unwrap_or-size.result → window_at content (b + k) n ≡ Ok (bytes_from content (b + k) n)) (sym base)
    (λ k n fits. part_of content c.self.invariant j k n (subst (λ (s : ℕ). k + n ≤ s) size fits))

pub returns : goal.returns
returns g c =
    let content : Content = c.self.inside.space in
    let j : ℕ = c.args.number in
    let base : c.unwrap_or-base.result ≡ (nth_image content.images j).base = c.unwrap_or-base.ensures ∙ ap (λ (o : Option ℕ). unwrap_or o 0) c.base_of.ensures ∙ base_is content.images j in
    let size : c.unwrap_or-size.result ≡ (nth_image content.images j).size = c.unwrap_or-size.ensures ∙ ap (λ (o : Option ℕ). unwrap_or o 0) c.size_of.ensures ∙ size_is content.images j in
    let bytes : bytes_from content c.unwrap_or-base.result c.unwrap_or-size.result ≡ image_bytes content j =
    ap (λ (b : ℕ). bytes_from content b c.unwrap_or-size.result) base ∙ ap (bytes_from content (nth_image content.images j).base) size in
    subst (WritesAll _ _ _ _ c.write_range.result) (bytes ∙ ap (λ (x : Content). image_bytes x j) c.self.view_is) c.write_range.ensures
