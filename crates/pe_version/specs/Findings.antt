-- The rules of version information, in the order of its bytes, with the RVA of its first byte.
use Rattle.std.specs.Prelude.{ℕ, zero, suc, ◌+◌, ◌==◌, ◌&&◌, ◌||◌, not, Bool, nat_le, nat_lt, List, [], ◌∷◌, ◌++◌, length, if◌then◌else◌}
use Rattle.pe_view.specs.Faults.{Test, test}
use Rattle.pe_view.specs.declared.fault.Place.TheVariants.{Rva}
use Rattle.pe_version.specs.Block.{has_key_end, body_of, is_string_file_info}
use Rattle.pe_version.specs.Blocks.{word, block_end, in_blocks}
use Rattle.pe_version.specs.FixedInfo.{has_fixed_info}
use Rattle.pe_version.specs.Root.{files_at, files_end}

abbrev pub finding : ℕ → ℕ → ℕ → ℕ → Bool → Test
finding image rva number at stands = test number image (Rva (rva + at)) stands

-- where no whole block is, though there is room for the three numbers of one. 212: it would pass the end; 214: its length is less than
-- that of these numbers
abbrev pub end_tests : ℕ → ℕ → List ℕ → ℕ → ℕ → List Test
end_tests image rva bytes end at =
    finding image rva 212 at (nat_le (at + 6) end && nat_lt end (block_end bytes at))
    ∷ finding image rva 214 at (nat_le (at + 6) end && nat_lt (word bytes at) 6)
    ∷ []

-- the blocks in a block are read, below which there are so many levels: of those in the first block that holds of StringFileInfo only
abbrev pub is_read : List ℕ → ℕ → ℕ × ℕ → Bool
is_read bytes below b = not (below == 2) || is_string_file_info bytes b

-- a block, below which there are so many levels, where `deeper` gives those of the blocks in it; 213: no zero ends its key
abbrev pub block_tests : ℕ → ℕ → List ℕ → ℕ → (ℕ → ℕ → List Test) → ℕ × ℕ → List Test
block_tests image rva bytes below deeper b =
    finding image rva 213 b.0 (not (has_key_end bytes b)) ∷ (if is_read bytes below b then deeper b.1 (body_of bytes b) else [])

-- blocks of so many levels up to an end, from an offset on
abbrev pub level_tests : ℕ → ℕ → List ℕ → ℕ → ℕ → ℕ → List Test
level_tests image rva bytes zero end at = []
level_tests image rva bytes (suc below) end at =
    in_blocks (block_tests image rva bytes below (level_tests image rva bytes below)) (end_tests image rva bytes end) bytes end at

-- 211: the key or the fixed part is not as it must be; then the first block, and those in it
abbrev pub version_tests : ℕ → ℕ → List ℕ → List Test
version_tests image rva bytes =
    finding image rva 211 0 (not (has_fixed_info bytes))
    ∷ (end_tests image rva bytes (length bytes) 0 ++ level_tests image rva bytes 3 (files_end bytes) (files_at bytes))
