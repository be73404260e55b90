use Rattle.pe_head.specs.Accepted.{headers_inside, image_small}
use Rattle.pe_head.proofs.laws.headers_are_inside.Goals as goal

pub returns : goal.returns
returns c = record {
  small = image_small;
  held = λ image file none. (headers_inside image file none).0;
  inside = λ image file none. (headers_inside image file none).1;
}
