-- The tables that are left, when a block of tables is reached.
use Rattle.std.proofs.Common.{◌≡◌, ◌∙◌, refl, ℕ, ◌+◌, ◌-◌, ◌*◌, ◌^◌, ◌<◌, true, false, List, [], ◌∷◌, ◌++◌, ap, sym, arith}
use Rattle.pe_version.specs.Block.{key_in, value_in, body_of, is_string_file_info}
use Rattle.pe_version.specs.Blocks.{is_block, block_end, aligned, in_blocks}
use Rattle.pe_version.specs.Tables.{nothing, Entry, Table, entry_at, table_at, file_tables}
use Rattle.pe_version.proofs.Stepping.{step, stop}

-- the blocks after one, as the code has them
pub of_later : {X : Type 0} (each : List ℕ → ℕ × ℕ → List X) (b : List ℕ) (end at : ℕ) (b' : List ℕ) (end' at' : ℕ) → b' ≡ b → end' ≡ end → at' ≡ aligned (block_end b at)
    → in_blocks (each b') nothing b' end' at' ≡ in_blocks (each b) nothing b end (aligned (block_end b at))
of_later each b end at b' end' at' bytes_is end_is at_is = rw (bytes_is, end_is, at_is) refl

-- the next string of a table, and those after it
pub to_entry : (b : List ℕ) (end at : ℕ) (key value : List ℕ) (later : List Entry) → is_block b end at ≡ true
    → key ≡ key_in b (at, block_end b at) → value ≡ value_in b (at, block_end b at)
    → later ≡ in_blocks (entry_at b) nothing b end (aligned (block_end b at))
    → in_blocks (entry_at b) nothing b end at ≡ record { key = key; value = value } ∷ later
to_entry b end at key value later is key_is value_is later_is = rw (key_is, value_is, later_is) (step (entry_at b) nothing b end at is)

-- the strings of a table, as the code has them
pub of_strings : (b : List ℕ) (t : ℕ × ℕ) (b' : List ℕ) (end at : ℕ) → b' ≡ b → end ≡ t.1 → at ≡ body_of b t
    → in_blocks (entry_at b') nothing b' end at ≡ in_blocks (entry_at b) nothing b t.1 (body_of b t)
of_strings b t b' end at bytes_is end_is at_is = rw (bytes_is, end_is, at_is) refl

-- the next table, and those after it
pub to_table : (b : List ℕ) (end at : ℕ) (key : List ℕ) (strings : List Entry) (later rest : List Table) → is_block b end at ≡ true
    → key ≡ key_in b (at, block_end b at) → strings ≡ in_blocks (entry_at b) nothing b (block_end b at) (body_of b (at, block_end b at))
    → later ≡ in_blocks (table_at b) nothing b end (aligned (block_end b at))
    → in_blocks (table_at b) nothing b end at ++ rest ≡ record { key = key; strings = strings } ∷ (later ++ rest)
to_table b end at key strings later rest is key_is strings_are later_is =
    rw (key_is, strings_are, later_is) (ap (λ (xs : List Table). xs ++ rest) (step (table_at b) nothing b end at is))

-- the tables in a block of tables
pub of_file : (b : List ℕ) (f : ℕ × ℕ) (b' : List ℕ) (end at : ℕ) → b' ≡ b → end ≡ f.1 → at ≡ body_of b f → is_string_file_info b f ≡ true
    → in_blocks (table_at b') nothing b' end at ≡ file_tables b f
of_file b f b' end at bytes_is end_is at_is holds = rw (bytes_is, end_is, at_is, holds) refl

-- a block of another kind
pub of_no_file : (b : List ℕ) (f : ℕ × ℕ) (tb : List ℕ) (tend tat : ℕ) → is_block tb tend tat ≡ false → is_string_file_info b f ≡ false
    → in_blocks (table_at tb) nothing tb tend tat ≡ file_tables b f
of_no_file b f tb tend tat none other = rw other (stop (table_at tb) nothing tb tend tat none)

-- no table is left, and the next block has these
pub to_file : (tb : List ℕ) (tend tat : ℕ) (b : List ℕ) (end at : ℕ) (new : List Table) → is_block tb tend tat ≡ false → is_block b end at ≡ true
    → new ≡ file_tables b (at, block_end b at)
    → new ++ in_blocks (file_tables b) nothing b end (aligned (block_end b at)) ≡ in_blocks (table_at tb) nothing tb tend tat ++ in_blocks (file_tables b) nothing b end at
to_file tb tend tat b end at new no_table is has =
    ap (λ (xs : List Table). xs ++ in_blocks (file_tables b) nothing b end (aligned (block_end b at))) has
    ∙ sym (step (file_tables b) nothing b end at is)
    ∙ ap (λ (xs : List Table). xs ++ in_blocks (file_tables b) nothing b end at) (sym (stop (table_at tb) nothing tb tend tat no_table))

-- nothing is left
pub to_none : (tb : List ℕ) (tend tat : ℕ) (b : List ℕ) (end at : ℕ) → is_block tb tend tat ≡ false → is_block b end at ≡ false
    → in_blocks (table_at tb) nothing tb tend tat ++ in_blocks (file_tables b) nothing b end at ≡ []
to_none tb tend tat b end at no_table no_file = rw (stop (table_at tb) nothing tb tend tat no_table, stop (file_tables b) nothing b end at no_file) refl

-- a block is nearer than those before it, whatever tables it has
pub nearer : (t f t' f' : ℕ) → f < f' → f' < 2 ^ 18 → (2 ^ 18 - f') * 2 ^ 20 + (2 ^ 18 - t') < (2 ^ 18 - f) * 2 ^ 20 + (2 ^ 18 - t)
nearer t f t' f' lt low = omega (arith, lt, low)
