-- Runs: bytes of an image with one source. No contract of a public function uses this module.
use Rattle.std.specs.Prelude.{◌≡◌, ℕ, ◌+◌, ◌-◌, ◌<◌, ◌≤◌, nat_lt, List, length, replicate, if◌then◌else◌}
use Rattle.pe_view.specs.Number.{part}
use Rattle.pe_head.specs.declared.section.SectionHeader.{SectionHeader}
use Rattle.pe_head.specs.declared.headers.Headers.{Headers}
use Rattle.pe_head.specs.Section.{extent, rawlen}
use Rattle.pe_layout.specs.Plain.{plain_bytes}
use Rattle.pe_layout.specs.declared.fill.Run.{Run}
use Rattle.pe_layout.specs.declared.fill.Run.TheVariants.{Raw, Zeros}

-- what remains of a section at an RVA: of its raw data, or of the zero fill after that
abbrev pub rest_of : SectionHeader → ℕ → Run
rest_of s r =
    if nat_lt (r - s.virtual_address) (rawlen s)
    then Raw (s.pointer_to_raw_data + (r - s.virtual_address)) (rawlen s - (r - s.virtual_address))
    else Zeros (extent s - (r - s.virtual_address))

-- the n bytes at an RVA are these
pub record IsRunOf (h : Headers) (file : List ℕ) (r n : ℕ) (bytes : List ℕ) : Type 0 where
  pub some : 0 < n
  pub inside : r + n ≤ h.size_of_image
  pub bytes_are : plain_bytes h file r n ≡ bytes

-- the n bytes at an RVA are those at an offset of the file
pub record IsRawRun (h : Headers) (file : List ℕ) (r offset n : ℕ) : Type 0 where
  pub run : IsRunOf h file r n (part file offset n)
  pub held : offset + n ≤ length file

abbrev pub IsRun : Headers → List ℕ → ℕ → Run → Type 0
IsRun h file r (Raw offset n) = IsRawRun h file r offset n
IsRun h file r (Zeros n) = IsRunOf h file r n (replicate n 0)
