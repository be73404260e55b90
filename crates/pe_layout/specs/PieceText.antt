-- The zero-terminated strings of a laid-out image: a string ends inside the piece in which it begins.
use Rattle.std.specs.Prelude.{ℕ, ◌-◌, nat_lt, nat_le, List, [], Option, None, Some, if◌then◌else◌}
use Rattle.pe_view.specs.Text.{zero_ended}
use Rattle.pe_head.specs.declared.section.SectionHeader.{SectionHeader}
use Rattle.pe_head.specs.declared.headers.Headers.{Headers}
use Rattle.pe_layout.specs.Piece.{end_of, section_of}
use Rattle.pe_layout.specs.Plain.{plain_bytes}

-- the string at an RVA of a section, or the empty one of a gap
abbrev pub section_text : Headers → List ℕ → ℕ → Option SectionHeader → Option (List ℕ)
section_text h file r None = Some []
section_text h file r (Some s) = zero_ended (plain_bytes h file r (end_of s - r))

-- the string at an RVA, if there is one
abbrev pub text : Headers → List ℕ → ℕ → Option (List ℕ)
text h file r =
    if nat_le h.size_of_image r then None
    else (if nat_lt r h.size_of_headers then zero_ended (plain_bytes h file r (h.size_of_headers - r))
    else section_text h file r (section_of h r))
