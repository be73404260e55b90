-- Page by page.
use Rattle.std.proofs.Common.{◌≡◌, ◌∙◌, ◌-◌, ◌++◌, ℕ, List, length, drop, get_or, sym, ap, append_assoc, arith}
use Rattle.pe_tables.specs.Encoded.{page_of, block_bytes, encoded}
use Rattle.std.specs.List.{flat_map}
use Rattle.pe_tables.specs.declared.fixups.Fixup.{Fixup}
use Rattle.pe_tables.specs.declared.fixups.FixupKind.TheVariants.{Bits32}
use Rattle.pe_tables.proofs.Pages.{pages-span, few, ascend-drop}
use Rattle.pe_tables.proofs.encode.encode_fixups.Goals as goal

-- a fixup, for a list of them to be read by
abbrev no_fixup : Fixup
no_fixup = record { entry = 0; field = 0; kind = Bits32 }

pub push_block-requires-clause-few : goal.push_block-requires-clause-few
push_block-requires-clause-few g c =
    let rest = c.loop-rest.rest.now in
    let len = c.split_at.ensures.front_len in
    rw len (few rest c.page_len.result no_fixup c.loop-rest.invariant.ascend c.page_len.ensures.some c.page_len.ensures.within (c.page_len.ensures.same (c.page_len.result - 1) no_fixup (omega arith)))

pub returns-in_err-push_block-clause-none : goal.returns-in_err-push_block-clause-none
returns-in_err-push_block-clause-none g c = λ none.
    let empty : length c.args.fixups.now ≡ 0 = ap (λ (fs : List Fixup). length fs) none in
    let part = c.loop-rest.invariant.part in
    let some = c.page_len.ensures.some in
    let within = c.page_len.ensures.within in
    absurd (omega arith)

pub loop-rest-preserved : goal.loop-rest-preserved
loop-rest-preserved g c =
    let rest = c.loop-rest.rest.now in
    let n : ℕ = c.page_len.result in
    let page : ℕ = page_of (get_or rest 0 no_fixup) in
    let others : List Fixup = c.split_at.result.1.now in
    let its : List Fixup = c.split_at.result.0.now in
    let span = pages-span n rest no_fixup c.page_len.ensures.some c.page_len.ensures.within c.page_len.ensures.same c.page_len.ensures.other in
    let block : List ℕ = block_bytes (record { page = page; fixups = its }) in
    let more : c.push_block.new.bytes.items ≡ c.loop-rest.bytes.items ++ block = c.in_ok-push_block.ensures in
    let whole : encoded rest ≡ block ++ encoded others =
    ap (flat_map block_bytes) span
    ∙ ap (λ (fs : List Fixup). block_bytes (record { page = page; fixups = fs }) ++ encoded (drop n rest)) (sym c.split_at.ensures.front)
    ∙ ap (λ (fs : List Fixup). block ++ encoded fs) (sym c.split_at.ensures.back) in
    let left = c.split_at.ensures.back_len in
    let part = c.loop-rest.invariant.part in
    record {
      ascend = rw c.split_at.ensures.back (ascend-drop rest n c.loop-rest.invariant.ascend);
      part = omega arith;
      bytes =
          ap (λ (bs : List ℕ). bs ++ encoded others) more ∙ append_assoc c.loop-rest.bytes.items block (encoded others)
          ∙ ap (λ (bs : List ℕ). c.loop-rest.bytes.items ++ bs) (sym whole) ∙ c.loop-rest.invariant.bytes;
    }
