use Rattle.std.proofs.Common.{List, ◌++◌, ◌∙◌, ap, append_assoc, inl, inr}
use Rattle.pe_reach.specs.Parts.{Part, HasPart}
use Rattle.pe_reach.proofs.PartBytes.{all_first, all_rest}
use Rattle.pe_json.proofs.ByParts.{ran_by_parts, have_no_names, do_not_decide, none_is}
use Rattle.pe_json.proofs.parts.json_parts.Goals as goal

pub returns-in-Some-2-clause-ran : goal.returns-in-Some-2-clause-ran
returns-in-Some-2-clause-ran g c =
    let e1 = c.in_ok-parts.ensures.parts in
    let e2 = c.in_ok-parts-2.ensures in
    let of = rw c.in-Some.is at e1.2.1 in
    let named = rw c.in-Some-2.is at e2.2.1 in
    ran_by_parts c.args.name.now c.args.len _ _ _ _ _ _ c.in-Some-2.parts (e1.0 ++ e2.0)
    (e2.1 ∙ ap (λ (ps : List Part). ps ++ e2.0) e1.1 ∙ append_assoc (g.R.PartSource.parts c.args.reader.now) e1.0 e2.0)
    (λ file size has. (named.2 file size (all_rest (HasPart file) e1.0 e2.0 has)).parts (of file size (all_first (HasPart file) e1.0 e2.0 has)))
    (λ file size has. (named.2 file size (all_rest (HasPart file) e1.0 e2.0 has)).names (of file size (all_first (HasPart file) e1.0 e2.0 has)))
    c.print_parts.result c.print_parts.ensures

pub returns-in_default-clause-left : goal.returns-in_default-clause-left
returns-in_default-clause-left g c = inl (rw (none_is _ c.in_default.not-Some) at c.in_ok-parts.ensures.left)

pub returns-in-None-clause-left : goal.returns-in-None-clause-left
returns-in-None-clause-left g c =
    let e1 = c.in_ok-parts.ensures.parts in
    let e2 = c.in_ok-parts-2.ensures in
    inr (inl (have_no_names c.args.len _ _ _ e1.0 c.in-Some.parts e1.1 (rw c.in-Some.is at e1.2.1) (rw c.in-Some.is at c.in_ok-parts.ensures.places)
    (rw c.in-Some.is at c.in_ok-parts.ensures.size) (rw c.in-None.is at e2.2.1)))

pub returns-in-Some-2-clause-left : goal.returns-in-Some-2-clause-left
returns-in-Some-2-clause-left g c =
    let e1 = c.in_ok-parts.ensures.parts in
    let e2 = c.in_ok-parts-2.ensures in
    let of = rw c.in-Some.is at e1.2.1 in
    let named = rw c.in-Some-2.is at e2.2.1 in
    do_not_decide c.args.name.now c.args.len _ _ _ _ _ _ (e1.0 ++ e2.0) c.in-Some.parts c.in-Some-2.parts
    (e2.1 ∙ ap (λ (ps : List Part). ps ++ e2.0) e1.1 ∙ append_assoc (g.R.PartSource.parts c.args.reader.now) e1.0 e2.0)
    named.0 (rw c.in-Some.is at c.in_ok-parts.ensures.places) (rw c.in-Some.is at c.in_ok-parts.ensures.size) named.1
    (λ file size has. (named.2 file size (all_rest (HasPart file) e1.0 e2.0 has)).parts (of file size (all_first (HasPart file) e1.0 e2.0 has)))
    c.print_parts.result c.print_parts.ensures
