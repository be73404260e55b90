use Rattle.std.proofs.Common.{◌≡◌, ◌∙◌, ◌+◌, ◌^◌, Bool, cond, not, List, [], ◌∷◌, refl, ap, rules}
use Rattle.std.specs.Prelude.{nat_lt, ◌&&◌, filter, All}
use Rattle.std.proofs.lemmas.Fn.{filter_same}
use Rattle.std.proofs.lemmas.List.Elements.{All-head, All-tail}
use Rattle.pe_ranges.specs.Ranges.{meets_any}
use Rattle.pe_ranges.specs.RangesView.{ranges_in}
use Rattle.pe_tables.specs.Fixups.{width_of}
use Rattle.pe_tables.specs.declared.fixups.Fixup.{Fixup}
use Rattle.pe_set.proofs.WithImports.{test_is}
use Rattle.pe_set.proofs.adding.keep_fields.Goals as goal

-- two tests that agree on each element keep the same
filter_where : {X : Type 0} (p q : X → Bool) (xs : List X) → All (λ x. p x ≡ q x) xs → filter p xs ≡ filter q xs
filter_where p q [] same = refl
filter_where p q (x ∷ xs) same =
    ap (λ b. cond b (x ∷ filter p xs) (filter p xs)) (All-head (λ x. p x ≡ q x) x xs same)
    ∙ ap (λ ys. cond (q x) (x ∷ ys) ys) (filter_where p q xs (All-tail (λ x. p x ≡ q x) x xs same))

pub returns : goal.returns
returns g c =
    let ranges = ranges_in c.args.slots.now in
    filter_same _ (λ (f : Fixup). not (nat_lt (f.field + width_of f.kind) (2 ^ 32) && meets_any f.field (width_of f.kind) ranges)) _ (λ x b f' t. search rules) _ _ c.retain.ensures.filtered
    ∙ filter_where (λ (f : Fixup). not (nat_lt (f.field + width_of f.kind) (2 ^ 32) && meets_any f.field (width_of f.kind) ranges)) (λ (f : Fixup). not (meets_any f.field (width_of f.kind) ranges))
    c.args.fixups.now.items (test_is ranges c.args.fixups.now.items c.requires)
