-- The record's eighteen bytes.
use Rattle.std.proofs.Common.{◌≡◌, ◌∙◌, refl, sym, ℕ, ◌+◌, ◌-◌, ◌*◌, true, nat_lt, take, drop, Some, ap, arith}
use Rattle.std.proofs.lemmas.Bool.{lt-ltb}
use Rattle.coff_read.specs.Auxiliary.{aux_of}
use Rattle.coff_read.specs.ObjectView.{symbol_view}
use Rattle.coff_read.specs.Records.{aux_records}
use Rattle.coff_read.proofs.symbol.Symbol.aux_record.Goals as goal

pub returns : goal.returns
returns c =
    let s = symbol_view c.args.self.now in
    let start : ℕ = 18 * c.args.k in
    let count = c.aux_count.ensures in
    let under = c.if-k-aux_count.false in
    let inside : nat_lt c.args.k (aux_records s) ≡ true = lt-ltb c.args.k (aux_records s) (omega (arith, count, under)) in
    let len : start + 18 - start ≡ 18 = omega arith in
    rw inside (ap Some (c.aux_of.ensures s refl (sym c.defines_function-is_function.ensures) ∙ ap (λ (n : ℕ). aux_of s (take n (drop start s.aux))) len))
