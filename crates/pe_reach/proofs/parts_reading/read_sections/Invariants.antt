use Rattle.std.proofs.Common.{◌≡◌, ◌≤◌, ◌++◌, ℕ, List, length, take, drop, vec_len}
use Rattle.pe_parts.specs.Packed.{AreHeld}
use Rattle.pe_reach.specs.Parts.{Part, HasParts}
use Rattle.pe_reach.specs.PartsRead.{packed_from, packed_end}
use Rattle.pe_reach.proofs.parts_reading.read_sections.Given as goal

abbrev pub invariant-loop-section : goal.invariant-loop-section
invariant-loop-section g l = record {
  reads : (read : List Part) × (g.R.PartSource.parts l.reader ≡ g.R.PartSource.parts l.initial.reader ++ read)
      × ((file : List ℕ) → HasParts file read → AreHeld file l.bytes.items (take l.section-index l.headers.sections.items) l.sections.items);
  failures : g.R.PartSource.failures l.reader ≡ g.R.PartSource.failures l.initial.reader;
  packed : l.sections.items ++ packed_from l.headers l.len (vec_len l.bytes) (drop l.section-index l.headers.sections.items)
      ≡ packed_from l.headers l.len (vec_len l.initial.bytes) l.headers.sections.items;
  ends : packed_end l.headers l.len (vec_len l.bytes) (drop l.section-index l.headers.sections.items)
      ≡ packed_end l.headers l.len (vec_len l.initial.bytes) l.headers.sections.items;
  placed : length l.sections.items ≡ l.section-index;
  room : vec_len l.bytes ≤ l.len;
  grows : vec_len l.initial.bytes ≤ vec_len l.bytes;
  front : take (vec_len l.initial.bytes) l.bytes.items ≡ l.initial.bytes.items;
}
