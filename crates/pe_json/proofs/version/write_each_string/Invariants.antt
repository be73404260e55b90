use Rattle.std.proofs.Common.{◌≡◌, ◌++◌, true, ℕ, List, map}
use Rattle.pe_text.specs.TextWriter.{Adds}
use Rattle.pe_version.specs.TablesLeft.{entries_left}
use Rattle.pe_json.specs.Listed.{is_nil, items_text}
use Rattle.pe_json.specs.VersionRows.{string_row}
use Rattle.pe_json.proofs.version.write_each_string.Given as goal

abbrev pub invariant-loop-string : goal.invariant-loop-string
invariant-loop-string g l = record {
  can_next : (goal.iterator-loop-string g).can_next l.string-iterator;
  is_finite : (goal.iterator-loop-string g).is_finite l.string-iterator;
  rows : (written : List (List ℕ)) × Adds g.W.Sink.taken g.W.Sink.failures l.initial.text l.text (items_text true written)
      × (written ++ map string_row (entries_left l.string-iterator) ≡ map string_row (entries_left l.strings))
      × (l.first ≡ is_nil written);
}
