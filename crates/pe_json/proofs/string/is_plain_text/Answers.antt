-- The pieces and the rest are all bytes.
use Rattle.std.proofs.Common.{◌∙◌, ◌&&◌, ◌*◌, ◌/◌, ℕ, Bool, List, length, drop, ap, sym}
use Rattle.std.specs.List.{list_all}
use Rattle.pe_json.specs.Strings.{is_plain}
use Rattle.pe_json.proofs.Tested.{pieces_and_rest}
use Rattle.pe_json.proofs.string.is_plain_text.Goals as goal

pub returns-then-are_plain_pieces : goal.returns-then-are_plain_pieces
returns-then-are_plain_pieces c =
    let text = c.args.text.now in
    let count = length text / 16 in
    let rest = list_all is_plain (drop (count * 16) text) in
    let pieces = sym c.are_plain_pieces.ensures ∙ c.if-are_plain_pieces.true in
    c.are_plain_bytes.ensures ∙ ap (list_all is_plain) c.as_chunks.ensures.back
    ∙ ap (λ (b : Bool). b && rest) (sym pieces)
    ∙ ap (λ (ps : List (List ℕ)). list_all (list_all is_plain) ps && rest) c.as_chunks.ensures.front
    ∙ pieces_and_rest is_plain 16 count text

pub returns-else-are_plain_pieces : goal.returns-else-are_plain_pieces
returns-else-are_plain_pieces c =
    let text = c.args.text.now in
    let count = length text / 16 in
    let rest = list_all is_plain (drop (count * 16) text) in
    let pieces = sym c.are_plain_pieces.ensures ∙ c.if-are_plain_pieces.false in
    c.if-are_plain_pieces.false
    ∙ ap (λ (b : Bool). b && rest) (sym pieces)
    ∙ ap (λ (ps : List (List ℕ)). list_all (list_all is_plain) ps && rest) c.as_chunks.ensures.front
    ∙ pieces_and_rest is_plain 16 count text
