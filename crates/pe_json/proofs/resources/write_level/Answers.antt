-- A text, or an id.
use Rattle.std.proofs.Common.{◌≡◌, ◌^◌, ℕ, [], ◌∷◌, List, true, false, refl}
use Rattle.std.specs.Prelude.{nat_le, option_map}
use Rattle.std.proofs.lemmas.Bool.{cond-false, cond-true, le-leb, lt-leb}
use Rattle.pe_layout.specs.Image.{LaidOut}
use Rattle.pe_resources.specs.Texts.{name_text_of}
use Rattle.pe_json.specs.JsonText.{member, number, text_if}
use Rattle.pe_json.specs.Listed.{more}
use Rattle.pe_json.specs.ResourceRows.{entry_name, level_key, told_units}
use Rattle.pe_json.specs.Utf16.{utf8_text}
use Rattle.pe_json.proofs.Objects.{adds_none, ended, texted}
use Rattle.pe_json.proofs.resources.write_level.Goals as goal

by_text : (i : LaidOut) (key : List ℕ) (n : ℕ) → nat_le (2 ^ 31) n ≡ true → entry_name i key n ≡ text_if key (option_map utf8_text (option_map told_units (name_text_of i n)))
unfolding entry_name
by_text i key n is = cond-true _ _ _ is

by_id : (i : LaidOut) (key : List ℕ) (n : ℕ) → nat_le (2 ^ 31) n ≡ false → entry_name i key n ≡ number key n ∷ []
unfolding entry_name
by_id i key n is = cond-false _ _ _ is

pub returns-in_default : goal.returns-in_default
unfolding more
returns-in_default g c = rw c.in_default.is (adds_none c.requires)

pub returns-then-name-ge-IS_TEXT : goal.returns-then-name-ge-IS_TEXT
returns-then-name-ge-IS_TEXT g c =
    let text = rw (c.told_text.ensures, c.level_key.ensures, texted _ (level_key c.args.level) _ refl) at c.write_units_if.ensures in
    rw (c.in-Some.is, by_text _ _ c.in-Some.name (le-leb _ _ c.if-name-ge-IS_TEXT.true)) text

pub returns-else-name-ge-IS_TEXT : goal.returns-else-name-ge-IS_TEXT
unfolding more member
returns-else-name-ge-IS_TEXT g c =
    let id = rw c.level_key-else-name-ge-IS_TEXT.ensures at c.write_number.ensures in
    rw (c.in-Some.is, by_id _ _ c.in-Some.name (lt-leb _ _ c.if-name-ge-IS_TEXT.false)) (ended id)
