-- One certificate more.
use Rattle.std.proofs.Common.{[], ◌∷◌, ◌++◌, true, refl, sym, ap, ◌∙◌, map}
use Rattle.pe_trust.specs.SignersView.{signer_view, signers_left}
use Rattle.pe_trust.specs.declared.signer.Signers.{Signers}
use Rattle.pe_json.specs.CertificateRows.{signer_row}
use Rattle.pe_json.specs.Listed.{items_text}
use Rattle.pe_json.proofs.Objects.{also_items, adds_none, items_more, items_none, left-out}
use Rattle.pe_json.proofs.RowByRow.{row_more, not_first}
use Rattle.pe_json.proofs.certificates.write_each_signer.Goals as goal

pub loop-signer-init : goal.loop-signer-init
loop-signer-init g c = record {
  can_next = tt;
  is_finite = tt;
  rows = ([], rw items_none (adds_none c.requires), ap (λ (s : Signers). map signer_row (signers_left s)) c.into_iter-signer-iterator.ensures.into_iter_gives, refl);
}

pub loop-signer-preserved : goal.loop-signer-preserved
loop-signer-preserved g c =
    let i = c.loop-signer.invariant.rows in
    let s = signer_view c.in-Some.signer in
    record {
      can_next = tt;
      is_finite = tt;
      rows = (
        i.0 ++ signer_row s ∷ [],
        also_items true i.0 (signer_row s ∷ []) _ i.3 i.1 c.write_next_signer.ensures,
        row_more signer_row i.0 s _ _ _ c.in-Some.ensures.steps i.2,
        not_first i.0 (signer_row s),
      );
    }

pub returns-then-has_failed : goal.returns-then-has_failed
returns-then-has_failed g c =
    let i = c.loop-signer.invariant.rows in
    left-out _ _ _ _ _ i.1 (c.has_failed.ensures.ends c.if-has_failed.true) (sym (items_more true i.0 (map signer_row (signers_left c.loop-signer.signer-iterator))) ∙ ap (items_text true) i.2)
