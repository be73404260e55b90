-- Each image adds its size, which has 32 bits.
use Rattle.std.proofs.Common.{◌≡◌, ◌∙◌, ◌+◌, ◌<◌, ℕ, length, take, sym, ap, arith}
use Rattle.std.specs.Prelude.{Option, unwrap_or}
use Rattle.std.specs.List.{sum_by}
use Rattle.std.proofs.lemmas.List.Sums.{sum_by_more}
use Rattle.pe_space.specs.Content.{SpaceImage, nth_image, no_image}
use Rattle.pe_space_file.proofs.Sizes.{size_is}
use Rattle.pe_space_file.proofs.mapped_images.MappedImages.total_size.Goals as goal

pub loop-number-preserved : goal.loop-number-preserved
loop-number-preserved g c =
    let images = c.args.self.now.images in
    let n : ℕ = c.loop-number.number in
    let size : c.from-total.result ≡ (nth_image images n).size = c.from-total.ensures ∙ c.unwrap_or.ensures ∙ ap (λ (o : Option ℕ). unwrap_or o 0) c.size_of.ensures ∙ size_is images n in
    let count = c.count-number-end.ensures in
    let here = c.loop-number-test.true in
    let lt : n < length images = omega arith in
    record {
      total =
          ap (λ (t : ℕ). t + c.from-total.result) c.loop-number.invariant.total
          ∙ ap (λ (t : ℕ). sum_by (λ (image : SpaceImage). image.size) (take n images) + t) size
          ∙ sym (sum_by_more (λ (image : SpaceImage). image.size) images n no_image lt);
      small = (let small = c.loop-number.invariant.small in let value = c.from-total.ensures in omega arith);
    }
