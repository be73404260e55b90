-- The targets of exports as a page shows them, and the fields of relocations in the file. No contract of a public function uses this module.
use Rattle.std.specs.Prelude.{◌≡◌, ℕ, ◌+◌, ◌-◌, ◌&&◌, nat_le, nat_lt, List, Option, None, Some, if◌then◌else◌}
use denote.Bor.{Bor}
use Rattle.pe_head.specs.declared.headers.Headers.{Headers}
use Rattle.pe_layout.specs.Locating.{located}
use Rattle.pe_tables.specs.declared.key.Target.{Target}
use Rattle.pe_tables.specs.declared.key.Target.TheVariants as exported
use Rattle.pe_page.specs.Places.{IsPlaceOf, place_columns}
use Rattle.pe_show.specs.declared.exports.ShownTarget.{ShownTarget}
use Rattle.pe_show.specs.declared.exports.ShownTarget.TheVariants.{Here, Forward}

-- the shown target of an export: an RVA with its place, or the module and key of a forwarder
abbrev pub Shows : List (Bor (List ℕ)) → Headers → Target → ShownTarget → Type 0
Shows names h (exported.Rva rva) (Here shown place) = (shown ≡ rva) × IsPlaceOf names h rva (located h rva) place
Shows names h (exported.Forward dll key) (Forward shown_dll shown_key) = (shown_dll.now ≡ dll.now) × (shown_key ≡ key)
Shows names h (exported.Rva rva) (Forward dll key) = ⊥
Shows names h (exported.Forward dll key) (Here rva place) = ⊥

-- ---- the place of a relocation's field
-- in the file, if the section's raw data there, of a size, holds it; addresses count from the section's own
abbrev pub field_offset : ℕ → ℕ → ℕ → ℕ → Option ℕ
field_offset pointer base size address = if nat_le base address && nat_lt (address - base) size then Some (pointer + (address - base)) else None

-- ---- columns
-- how many blanks come between the target of an ordinal and its names: a place is padded to `width`, a forwarder is not
abbrev pub gap_columns : ℕ → ShownTarget → ℕ
gap_columns width (Here rva place) = width - place_columns place
gap_columns width (Forward dll key) = 0
