-- One character more.
use Rattle.std.proofs.Common.{◌∙◌, ◌++◌, ◌∷◌, [], List, ℕ, ap, append_assoc, append-nil, sym, subst}
use Rattle.pe_json.specs.Shown.{shown}
use Rattle.pe_text.specs.TextWriter.{Adds}
use Rattle.pe_text.proofs.Adding.{◌then◌}
use Rattle.pe_version.specs.UnitsLeft.{characters_left}
use Rattle.pe_json.specs.Utf16.{utf8_characters}
use Rattle.pe_json.proofs.Objects.{adds_none}
use Rattle.pe_json.proofs.Utf16Texts.{character_more, none_told}
use Rattle.pe_json.proofs.utf16.write_characters.Goals as goal

pub loop-character-init : goal.loop-character-init
loop-character-init g c = record {
  can_next = tt;
  is_finite = tt;
  told = ([], rw none_told (adds_none c.requires), ap characters_left c.into_iter-character-iterator.ensures.into_iter_gives);
}

pub loop-character-preserved : goal.loop-character-preserved
loop-character-preserved g c =
    let i = c.loop-character.invariant.told in
    let one = c.in-Some.character ∷ [] in
    record {
      can_next = tt;
      is_finite = tt;
      told = (
        i.0 ++ one,
        rw (← character_more i.0 one) (i.1 then c.write_decoded.ensures),
        append_assoc i.0 one (characters_left c.next.new.self) ∙ ap (λ (rest : List ℕ). i.0 ++ rest) (sym c.in-Some.ensures.steps) ∙ i.2,
      );
    }

pub returns : goal.returns
returns g c =
    let i = c.loop-character.invariant.told in
    let all = sym (append-nil i.0) ∙ ap (λ (rest : List ℕ). i.0 ++ rest) (sym c.in-None.ensures.steps.0) ∙ i.2 in
    subst (λ (cs : List ℕ). Adds g.W.Sink.taken g.W.Sink.failures c.args.text.now c.loop-character.text (shown (utf8_characters cs))) all i.1
