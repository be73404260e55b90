use Rattle.std.proofs.Common.{◌≡◌, ◌+◌, ◌++◌, ◌∙◌, ℕ, List, Bool, true, false, Result, Ok, Err, is_err, length, vec_len, cond, refl, sym, ap, subst, arith, rules}
use Rattle.std.specs.Prelude.{is_ok}
use Rattle.pe_view.specs.Number.{num, byte_of}
use Rattle.pe_reach.specs.Parts.{Stand}
use Rattle.pe_reach.proofs.ShortTable.{front_kept, size_kept, match_more}
use Rattle.pe_reach.proofs.part_names.read_first_strings.Goals as goal

ok_of : {X E : Type 0} (r : Result X E) → is_err r ≡ false → is_ok r ≡ true
ok_of (Ok x) is = refl
ok_of (Err e) is = absurd cc

pub returns-clause-reads : goal.returns-clause-reads
returns-clause-reads g c =
    let old = c.args.bytes.now in
    let mid = c.extend_from_slice.new.self in
    let new = c.read_range.new.bytes in
    let size : List ℕ = c.to_le_bytes-size.result in
    let ok = ok_of c.extend_from_slice.result (sym c.is_err.ensures.value ∙ c.if-is_err.false) in
    let items : mid.items ≡ old.items ++ size = c.extend_from_slice.ensures.items ∙ ap (λ (b : Bool). cond b (old.items ++ size) old.items) ok in
    let four : length size ≡ 4 = ap (λ (l : List ℕ). length l) c.to_le_bytes-size.ensures in
    let is : num (byte_of size) 0 4 ≡ 4096 = ap (λ (l : List ℕ). num (byte_of l) 0 4) c.to_le_bytes-size.ensures in
    let sized : length old.items ≡ vec_len old = (let l : vec_len old ≡ length old.items = search rules in sym l) in
    let more : vec_len mid ≡ vec_len old + 4 = c.extend_from_slice.ensures.len ∙ ap (λ (b : Bool). cond b (vec_len old + length size) (vec_len old)) ok ∙ ap (λ n. vec_len old + n) four in
    let e = c.read_range.ensures.reads in (
      e.0,
      e.1,
      match_more _ _ _ c.read_range.result
          (λ has_all m. (
            m.0,
            λ yes.
                let all = m.1 yes in
                let front = rw more at all.1 in (
                  all.0 ∙ ap (λ n. n + 4092) more ∙ (let sum : vec_len old + 4 + 4092 ≡ vec_len old + 4096 = omega arith in sum),
                  front_kept old.items mid.items new.items size (vec_len old) sized items four front,
                  size_kept old.items mid.items new.items size (vec_len old) sized items four front ∙ is,
                  λ file has. subst (λ n. Stand file new.items (c.args.offset + 4) n 4092) more (all.2 file has),
                ),
          ))
          e.2,
    )
