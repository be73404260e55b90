use Rattle.pe_layout.proofs.Accepted.{sections_placed}
use Rattle.pe_layout.proofs.laws.sections_are_apart.Goals as goal

pub returns : goal.returns
returns c = record {
  behind = λ image file none k d lt. ((sections_placed image file none).each k d lt).starts;
  inside = λ image file none k d lt. ((sections_placed image file none).each k d lt).ends;
  apart = λ image file none j k d below lt. (sections_placed image file none).apart j k d below lt;
  held = λ image file none k d lt. ((sections_placed image file none).each k d lt).raw;
}
