-- The record's twenty bytes.
use Rattle.std.proofs.Common.{◌≡◌, ◌∙◌, ℕ, ◌+◌, ◌-◌, ◌*◌, true, nat_lt, take, drop, Some, ap, arith}
use Rattle.std.proofs.lemmas.Bool.{lt-ltb}
use Rattle.coff_read.specs.BigAuxiliary.{big_aux_of}
use Rattle.coff_read.specs.BigView.{big_symbol_view}
use Rattle.coff_read.specs.FormRecords.{aux_records}
use Rattle.coff_read.specs.Forms.{Big}
use Rattle.coff_read.proofs.big_symbol.BigSymbol.aux_record.Goals as goal

pub returns : goal.returns
returns c =
    let s = big_symbol_view c.args.self.now in
    let start : ℕ = 20 * c.args.k in
    let count = c.aux_count.ensures in
    let under = c.if-k-aux_count.false in
    let inside : nat_lt c.args.k (aux_records Big s) ≡ true = lt-ltb c.args.k (aux_records Big s) (omega (arith, count, under)) in
    let len : start + 20 - start ≡ 20 = omega arith in
    rw inside (ap Some (c.big_aux_of.ensures ∙ ap (λ (n : ℕ). big_aux_of s (take n (drop start s.aux))) len))
