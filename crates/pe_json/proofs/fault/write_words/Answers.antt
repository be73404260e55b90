use Rattle.json.specs.Print.{escape_byte}
use Rattle.pe_text.proofs.Adding.{◌then◌}
use Rattle.pe_json.specs.JsonText.{member}
use Rattle.pe_json.specs.Listed.{more}
use Rattle.pe_json.specs.Refused.{words_members}
use Rattle.pe_json.proofs.Objects.{ended, adds_none}
use Rattle.pe_json.proofs.fault.write_words.Goals as goal

pub returns-in_default : goal.returns-in_default
unfolding words_members more
returns-in_default g c = rw (← c.fault_words.ensures, c.in_default.is) (adds_none c.requires)

pub returns : goal.returns
unfolding words_members more member escape_byte
returns g c =
    let subject = rw c.as_bytes.ensures.value at c.write_quoted.ensures in
    let rule = rw c.as_bytes-2.ensures.value at c.write_quoted-2.ensures in
    rw (← c.fault_words.ensures, c.in-Some.is) ((c.text.ensures then subject) then ended (c.text-2.ensures then rule))
