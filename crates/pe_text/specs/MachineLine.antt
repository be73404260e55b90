-- The line of a COFF header's Machine field.
use Rattle.std.specs.Prelude.{ℕ, ◌==◌, if◌then◌else◌, List, [], ◌∷◌, codes}
use Rattle.std.specs.List.{list_any}
use Rattle.std.specs.Option.{unwrap_or}
use Rattle.pe_head.specs.Names.{name_in, machine_names}
use Rattle.pe_text.specs.Part.{joined}
use Rattle.pe_text.specs.Text.{hex}

-- the machines that a dump names: I386, AMD64, ARM64, ARM and ARMNT
abbrev pub dumped_machines : List ℕ
dumped_machines = 0x14c ∷ 0x8664 ∷ 0xaa64 ∷ 0x1c0 ∷ 0x1c4 ∷ []

-- the machine's name in a dump
abbrev pub dumped_name : ℕ → List ℕ
dumped_name machine =
    if list_any (λ one. machine == one) dumped_machines then unwrap_or (name_in machine_names machine) (codes "other")
    else codes "other"

-- the line of the Machine field, with the machine's name
unfoldable pub machine_line : ℕ → List ℕ
machine_line machine = joined (codes "Machine 0x" ∷ hex 4 machine ∷ codes " " ∷ dumped_name machine ∷ codes "\n" ∷ [])
