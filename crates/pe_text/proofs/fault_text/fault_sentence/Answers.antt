use Rattle.std.proofs.Common.{◌≡◌, ◌≤◌, ◌∙◌, arith, length}
use Rattle.pe_text.specs.FaultWords.{place_number, hex_text}
use Rattle.pe_text.proofs.Sentences.{not_cut}
use Rattle.pe_text.proofs.fault_text.fault_sentence.Goals as goal

pub returns-in-Hex : goal.returns-in-Hex
returns-in-Hex c =
    let place : hex_text c.in-Hex.number ≡ place_number c.args.fault.now.place = rw c.in-Hex.is at c.place_words-number.ensures.number in
    let short : length (hex_text c.in-Hex.number) ≤ 40 = let s = c.with_hex.ensures.short in omega (arith, s) in
    c.with_hex.ensures.text ∙ not_cut c.args.fault.now _ _ _ c.words_of-words.ensures c.place_words-number.ensures.words place short

pub returns-in-Decimal : goal.returns-in-Decimal
returns-in-Decimal c =
    let place = rw c.in-Decimal.is at c.place_words-number.ensures.number in
    let number = c.as_bytes.ensures.value ∙ c.format.ensures.text ∙ place in
    let short : length c.as_bytes.result.now ≤ 40 = rw c.as_bytes.ensures.value c.format.ensures.short in
    c.with_place.ensures ∙ not_cut c.args.fault.now _ _ _ c.words_of-words.ensures c.place_words-number.ensures.words number short
