-- The pieces and the rest together are all bytes.
use Rattle.std.proofs.Common.{◌∙◌, ◌&&◌, ◌*◌, ◌/◌, ℕ, Bool, List, length, drop, ap, sym}
use Rattle.std.specs.List.{list_all}
use Rattle.pe_text.specs.Text.{is_printable}
use Rattle.pe_text.proofs.Tested.{pieces_and_rest}
use Rattle.pe_text.proofs.printable.is_printable.Goals as goal

pub returns-then-are_printable_pieces : goal.returns-then-are_printable_pieces
returns-then-are_printable_pieces c =
    let text = c.args.text.now in
    let count = length text / 16 in
    let rest = list_all is_printable (drop (count * 16) text) in
    let pieces = sym c.are_printable_pieces.ensures ∙ c.if-are_printable_pieces.true in
    c.are_printable_bytes.ensures ∙ ap (list_all is_printable) c.as_chunks.ensures.back
    ∙ ap (λ (b : Bool). b && rest) (sym pieces)
    ∙ ap (λ (ps : List (List ℕ)). list_all (list_all is_printable) ps && rest) c.as_chunks.ensures.front
    ∙ pieces_and_rest is_printable 16 count text

pub returns-else-are_printable_pieces : goal.returns-else-are_printable_pieces
returns-else-are_printable_pieces c =
    let text = c.args.text.now in
    let count = length text / 16 in
    let rest = list_all is_printable (drop (count * 16) text) in
    let pieces = sym c.are_printable_pieces.ensures ∙ c.if-are_printable_pieces.false in
    c.if-are_printable_pieces.false
    ∙ ap (λ (b : Bool). b && rest) (sym pieces)
    ∙ ap (λ (ps : List (List ℕ)). list_all (list_all is_printable) ps && rest) c.as_chunks.ensures.front
    ∙ pieces_and_rest is_printable 16 count text
