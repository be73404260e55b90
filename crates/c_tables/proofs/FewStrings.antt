-- Version information has few strings, since its blocks lie in it.
use Rattle.std.proofs.Common.{◌≡◌, ◌∙◌, ◌+◌, ◌*◌, ◌^◌, ◌≤◌, ℕ, zero, suc, true, List, [], ◌∷◌, ◌++◌, length, map, ap, inl, inr, arith}
use Rattle.std.specs.Prelude.{flat_map}
use Rattle.std.proofs.lemmas.Bool.{and_parts, cases_Bool, leb-true}
use Rattle.std.proofs.lemmas.Grind.{flat_map-append}
use Rattle.std.proofs.lemmas.List.{length-append}
use Rattle.std.proofs.lemmas.List.Concat.{flat_map_single}
use Rattle.std.proofs.lemmas.Nat.{mul-le}
use Rattle.std.proofs.Math.Nat.{suc-mul}
use Rattle.pe_view.specs.View.{bytes_of}
use Rattle.pe_version.specs.Block.{body_of, is_string_file_info, key_in}
use Rattle.pe_version.specs.Blocks.{aligned, block_end, blocks_from, in_blocks, is_block}
use Rattle.pe_version.specs.Strings.{Text, text_in, texts_of}
use Rattle.pe_version.specs.StringsLeft.{strings_left}
use Rattle.pe_version.specs.Tables.{Entry, entry_at, file_tables, nothing, table_at}
use Rattle.pe_version.specs.TablesLeft.{entries_left, tables_left}
use Rattle.pe_version.specs.declared.strings.VersionStrings.{VersionStrings}

-- a block ends before the end
ends_within : (bytes : List ℕ) (end at : ℕ) → is_block bytes end at ≡ true → block_end bytes at ≤ end
ends_within bytes end at is = leb-true _ _ (and_parts _ _ (and_parts _ _ is).1).1

module _ {X Y : Type 0} (g : X → List Y) (each : ℕ × ℕ → List X) (bytes : List ℕ) (end few : ℕ) (bound : (b : ℕ × ℕ) → b.1 ≤ end → length (flat_map g (each b)) ≤ few) where
  -- what comes of blocks, if so much comes of each that ends before the end
  few_in_blocks : (most at : ℕ) → length (flat_map g (blocks_from each nothing bytes end most at)) ≤ most * few
  few_in_blocks zero at = omega arith
  few_in_blocks (suc most) at = elim (cases_Bool (is_block bytes end at)) [
    | inl is ↦
        let first = each (at, block_end bytes at) in
        let others = blocks_from each nothing bytes end most (aligned (block_end bytes at)) in
        let here = bound (at, block_end bytes at) (ends_within bytes end at is) in
        let rest = few_in_blocks most (aligned (block_end bytes at)) in
        let both : length (flat_map g (first ++ others)) ≡ length (flat_map g first) + length (flat_map g others) =
        ap (λ (ys : List Y). length ys) (flat_map-append g first others) ∙ length-append (flat_map g first) (flat_map g others) in
        let more = suc-mul most few in
        rw is (omega (arith, here, rest, both, more))
    | inr other ↦ rw other (omega arith)
  ]

-- as many texts as strings
few_entries : (bytes key : List ℕ) (end at : ℕ) → length (map (text_in key) (in_blocks (entry_at bytes) nothing bytes end at)) ≤ end
few_entries bytes key end at =
    let single : Entry → List Text = λ e. text_in key e ∷ [] in
    let few = few_in_blocks single (entry_at bytes) bytes end 1 (λ b _. omega arith) end at in
    let same = ap (λ (ts : List Text). length ts) (flat_map_single (text_in key) (in_blocks (entry_at bytes) nothing bytes end at)) in
    omega (arith, few, same)

few_in_table : (bytes : List ℕ) (end : ℕ) (t : ℕ × ℕ) → t.1 ≤ end → length (flat_map texts_of (table_at bytes t)) ≤ end
few_in_table bytes end t within =
    let texts = map (text_in (key_in bytes t)) (in_blocks (entry_at bytes) nothing bytes t.1 (body_of bytes t)) in
    let few = few_entries bytes (key_in bytes t) t.1 (body_of bytes t) in
    let alone : length (flat_map texts_of (table_at bytes t)) ≡ length texts + 0 = length-append texts [] in
    omega (arith, few, within, alone)

few_in_file : (bytes : List ℕ) (end : ℕ) (f : ℕ × ℕ) → f.1 ≤ end → length (flat_map texts_of (file_tables bytes f)) ≤ end * end
few_in_file bytes end f within = elim (cases_Bool (is_string_file_info bytes f)) [
  | inl is ↦
      let few = few_in_blocks texts_of (table_at bytes) bytes f.1 end (λ t inside. few_in_table bytes end t (omega (arith, inside, within))) f.1 (body_of bytes f) in
      let most = mul-le f.1 end end end within (omega arith) in
      rw is (omega (arith, few, most))
  | inr other ↦ rw other (omega arith)
]

pub few_strings : (s : VersionStrings) → length (strings_left s) ≤ 2 ^ 16 + (2 ^ 32 + 2 ^ 48)
few_strings s =
    let strings = s.strings.strings in
    let tables = s.tables.tables in
    let files = s.tables.files in
    let few = few_entries (bytes_of strings.view) s.table.now strings.end strings.at in
    let few_of_tables = few_in_blocks texts_of (table_at (bytes_of tables.view)) (bytes_of tables.view) tables.end tables.end (few_in_table (bytes_of tables.view) tables.end) tables.end tables.at in
    let few_of_files = few_in_blocks texts_of (file_tables (bytes_of files.view)) (bytes_of files.view) files.end (files.end * files.end) (few_in_file (bytes_of files.view) files.end) files.end files.at in
    let small = strings.small in
    let tables_small = tables.small in
    let files_small = files.small in
    let square = mul-le tables.end tables.end (2 ^ 16) (2 ^ 16) (omega (arith, tables_small)) (omega (arith, tables_small)) in
    let file_square = mul-le files.end files.end (2 ^ 16) (2 ^ 16) (omega (arith, files_small)) (omega (arith, files_small)) in
    let cube = mul-le files.end (files.end * files.end) (2 ^ 16) (2 ^ 32) (omega (arith, files_small)) (omega (arith, file_square)) in
    let in_tables = in_blocks (table_at (bytes_of tables.view)) nothing (bytes_of tables.view) tables.end tables.at in
    let in_files = in_blocks (file_tables (bytes_of files.view)) nothing (bytes_of files.view) files.end files.at in
    let both = ap (λ (ts : List Text). length ts) (flat_map-append texts_of in_tables in_files) ∙ length-append (flat_map texts_of in_tables) (flat_map texts_of in_files) in
    let all = length-append (map (text_in s.table.now) (entries_left s.strings)) (flat_map texts_of (tables_left s.tables)) in
    omega (arith, few, few_of_tables, few_of_files, small, square, cube, both, all)
