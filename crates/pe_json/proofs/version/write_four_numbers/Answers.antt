use Rattle.std.proofs.Common.{◌≡◌, List, ℕ, ◌++◌, codes, refl, append_assoc, decimal, ◌/◌, ◌%◌, ◌^◌}
use Rattle.pe_text.proofs.Adding.{◌then◌}
use Rattle.pe_json.specs.JsonText.{with_commas}
use Rattle.pe_json.specs.VersionRows.{four_numbers}
use Rattle.pe_json.proofs.version.write_four_numbers.Goals as goal

commas : (key : List ℕ) (high low : ℕ)
    → (key ++ decimal (high / 2 ^ 16)) ++ ((codes "," ++ decimal (high % 2 ^ 16)) ++ ((codes "," ++ decimal (low / 2 ^ 16)) ++ ((codes "," ++ decimal (low % 2 ^ 16)) ++ codes "]")))
    ≡ key ++ (with_commas (four_numbers high low) ++ codes "]")
unfolding with_commas
commas key high low = simp append_assoc refl

pub returns : goal.returns
returns g c =
    rw (← commas c.args.key.now c.args.high c.args.low)
    (c.write_number.ensures then (c.write_number-2.ensures then (c.write_number-3.ensures then (c.write_number-4.ensures then c.text.ensures))))
