use Rattle.std.proofs.Common.{◌≡◌, Bool, true, false, refl}
use Rattle.std.proofs.lemmas.Str.{is_utf8-from_IsUtf8, IsUtf8-from_is_utf8}
use Rattle.pe_text.proofs.Adding.{◌then◌}
use Rattle.pe_json.proofs.string.write_whole_name.Goals.{in-Ok, in-Err}
use Rattle.pe_json.proofs.string.write_whole_name.Goals as goal

false_unless_true : (b : Bool) → (b ≡ true → ⊥) → b ≡ false
false_unless_true true h = absurd (h refl)
false_unless_true false h = refl

pub returns : goal.returns
returns g c = elim c.match-from_utf8.branch [
  | in-Ok w ↦
      let string = rw w.in-Ok.ensures.cases.0 at w.write_string.ensures in
      let quote = rw w.text-is at c.text-2.ensures in
      rw (is_utf8-from_IsUtf8 _ w.in-Ok.ensures.cases.1) (w.text.ensures then string then quote)
  | in-Err w ↦
      let quote = rw w.text-is at c.text-2.ensures in
      let other = false_unless_true _ (λ t. w.in-Err.ensures.cases.0 (IsUtf8-from_is_utf8 _ t)) in
      rw other (w.text-in-Err.ensures then w.write_digits.ensures then quote)
]
