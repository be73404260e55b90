-- The form of an image, and the line of an accepted one.
use Rattle.std.specs.Prelude.{ℕ, List, [], ◌∷◌, codes, decimal}
use Rattle.pe_head.specs.declared.optional.Magic.{Magic}
use Rattle.pe_head.specs.declared.optional.Magic.TheVariants.{Pe32, Pe32Plus}
use Rattle.pe_head.specs.declared.headers.Headers.{Headers}
use Rattle.pe_text.specs.Part.{joined}

-- the form of the optional header
abbrev pub format_name : Magic → List ℕ
format_name Pe32 = codes "PE32"
format_name Pe32Plus = codes "PE32+"

-- the line of an accepted image: its form, and its number of sections
unfoldable pub accepted_line : Headers → List ℕ
accepted_line h = joined (codes "accepted " ∷ format_name h.magic ∷ codes " sections " ∷ decimal h.number_of_sections ∷ codes "\n" ∷ [])
