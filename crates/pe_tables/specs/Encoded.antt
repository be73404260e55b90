-- The bytes of a base relocation table: one block for each page that has a field.
use Rattle.std.specs.Prelude.{◌≡◌, ℕ, ◌+◌, ◌*◌, ◌/◌, ◌%◌, ◌<◌, ◌==◌, List, [], ◌∷◌, ◌++◌, length, replicate, All, AllPairs, if◌then◌else◌}
use Rattle.std.specs.List.{flat_map}
use Rattle.pe_view.specs.Number.{little}
use Rattle.pe_tables.specs.declared.fixups.Fixup.{Fixup}
use Rattle.pe_tables.specs.declared.fixups.FixupKind.{FixupKind}
use Rattle.pe_tables.specs.declared.fixups.FixupKind.TheVariants.{Bits32, Bits64, High, Low}

-- the fields strictly ascend
abbrev pub FieldsAscend : List Fixup → Type 0
FieldsAscend fixups = AllPairs (λ f g. f.field < g.field) fixups

-- the page of 4,096 bytes in which a field begins
abbrev pub page_of : Fixup → ℕ
page_of f = f.field / 4096

-- fixups of one page
pub record Page : Type 0 where
  pub page : ℕ
  pub fixups : List Fixup

-- a fixup before these pages: in the first of them if it is of that page, else in a page of its own
abbrev pub before_pages : Fixup → List Page → List Page
before_pages f [] = record { page = page_of f; fixups = f ∷ [] } ∷ []
before_pages f (p ∷ ps) =
    if p.page == page_of f then record { page = p.page; fixups = f ∷ p.fixups } ∷ ps
    else (record { page = page_of f; fixups = f ∷ [] } ∷ p ∷ ps)

-- the pages that have a field, in order, each with its fixups
abbrev pub pages_of : List Fixup → List Page
pages_of [] = []
pages_of (f ∷ fs) = before_pages f (pages_of fs)

-- a page has at least one fixup, and all are in that page
abbrev pub IsPage : Page → Type 0
IsPage p = (0 < length p.fixups) × All (λ (f : Fixup). page_of f ≡ p.page) p.fixups

-- the type of a kind
abbrev pub type_of : FixupKind → ℕ
type_of High = 1
type_of Low = 2
type_of Bits32 = 3
type_of Bits64 = 10

-- an entry: the type in the high four bits, the offset in the page in the low twelve
abbrev pub entry_bytes : Fixup → List ℕ
entry_bytes f = little 2 (4096 * type_of f.kind + f.field % 4096)

-- BlockSize of so many entries: an odd count is made even by an ABSOLUTE entry of value 0
abbrev pub block_size : ℕ → ℕ
block_size count = 8 + 2 * (count + count % 2)

abbrev pub block_bytes : Page → List ℕ
block_bytes p =
    little 4 (4096 * p.page) ++ (little 4 (block_size (length p.fixups))
    ++ (flat_map entry_bytes p.fixups ++ replicate (2 * (length p.fixups % 2)) 0))

-- the bytes of the table
abbrev pub encoded : List Fixup → List ℕ
encoded fixups = flat_map block_bytes (pages_of fixups)
