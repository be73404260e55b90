-- The data begins the run at the leaf's RVA.
use Rattle.std.proofs.Common.{◌≡◌, ◌∙◌, refl, length, take, Some, true, ap, sym, arith, inl, inr}
use Rattle.std.specs.Prelude.{nat_le}
use Rattle.std.proofs.lemmas.Bool.{cases_lt, le-leb}
use Rattle.std.proofs.lemmas.List.{length-take-le}
use Rattle.std.proofs.lemmas.List.FromFn.{take-map-range_with_len}
use Rattle.pe_layout.specs.Layout.{image_of, size_small}
use Rattle.pe_layout.specs.Image.{bytes_at}
use Rattle.pe_resources.specs.Texts.{data_of}
use Rattle.pe_resources.proofs.text.leaf_data.Goals as goal

pub returns-clause-value : goal.returns-clause-value
returns-clause-value c =
    let i = image_of c.args.layout.now in
    let leaf = c.args.leaf.now in
    let run = c.raw_bytes-held in
    let within = c.if-size-held.false in
    let held : nat_le leaf.size (i.raw_left leaf.rva) ≡ true = le-leb _ _ (omega (arith, within, run.ensures.len)) in
    let whole : data_of i leaf ≡ Some (bytes_at i leaf.rva leaf.size) = rw held refl in
    ap Some (ap (take leaf.size) run.ensures.bytes ∙ take-map-range_with_len i.byte leaf.rva (length run.result.now) leaf.size within) ∙ sym whole

pub returns-clause-inside : goal.returns-clause-inside
returns-clause-inside c =
    let run = c.raw_bytes-held in
    let within = c.if-size-held.false in
    let len : length (take c.args.leaf.now.size run.result.now) ≡ c.args.leaf.now.size = length-take-le c.args.leaf.now.size run.result.now within in
    let small = size_small c.args.layout.now in
    elim (cases_lt 0 c.args.leaf.now.size) [
      | inl some ↦ (let inside = run.ensures.inside (omega (arith, some, within)) in omega (arith, len, within, inside, small))
      | inr none ↦ omega (arith, len, none)
    ]
