use Rattle.std.proofs.Common.{◌≡◌, ◌+◌, ◌++◌, List, ℕ, length, map, take}
use Rattle.std.specs.List.{flat_map}
use Rattle.md5.specs.Md5.{Holds}
use Rattle.pe_tables.specs.ImportView.{import_view}
use Rattle.pe_imphash.specs.ImportText.{further_text}
use Rattle.pe_imphash.proofs.hash.update_rest.Given as goal

-- the imports so far are taken in, and their bytes are off what is left
abbrev pub invariant-loop-import : goal.invariant-loop-import
invariant-loop-import l = record {
  text : (text : List ℕ) → Holds l.fn.hasher text → Holds l.hasher (text ++ flat_map further_text (map import_view (take l.import-index l.imports)));
  left : l.left + length (flat_map further_text (map import_view (take l.import-index l.imports))) ≡ l.initial.left;
}
