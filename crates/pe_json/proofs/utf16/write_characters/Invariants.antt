use Rattle.std.proofs.Common.{◌≡◌, ◌++◌, ℕ, List}
use Rattle.pe_json.specs.Shown.{shown}
use Rattle.pe_text.specs.TextWriter.{Adds}
use Rattle.pe_version.specs.UnitsLeft.{characters_left}
use Rattle.pe_json.specs.Utf16.{utf8_characters}
use Rattle.pe_json.proofs.utf16.write_characters.Given as goal

abbrev pub invariant-loop-character : goal.invariant-loop-character
invariant-loop-character g l = record {
  can_next : (goal.iterator-loop-character g).can_next l.character-iterator;
  is_finite : (goal.iterator-loop-character g).is_finite l.character-iterator;
  told : (written : List ℕ) × Adds g.W.Sink.taken g.W.Sink.failures l.initial.text l.text (shown (utf8_characters written))
      × (written ++ characters_left l.character-iterator ≡ characters_left l.characters);
}
