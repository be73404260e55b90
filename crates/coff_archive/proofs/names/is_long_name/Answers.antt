-- The front of the text decides.
use Rattle.std.proofs.Common.{◌≡◌, ◌∙◌, ◌+◌, ◌-◌, ◌<◌, ◌≤◌, ℕ, List, length, take, drop, inl, inr, ap, arith, sym}
use Rattle.std.specs.Prelude.{min}
use Rattle.std.specs.Str.{bytes_eq}
use Rattle.std.proofs.Math.Nat.{min-eq_left, min-eq_right}
use Rattle.std.proofs.lemmas.Bool.{cases_lt}
use Rattle.std.proofs.lemmas.List.{length-drop, take_all}
use Rattle.coff_archive.specs.Bytes.{before}
use Rattle.coff_archive.specs.Names.{ends_text}
use Rattle.coff_archive.proofs.Named.{name_in_front, name_past_front}
use Rattle.coff_archive.proofs.names.is_long_name.Goals as goal

rest : (names : List ℕ) (offset : ℕ) → take (length names - offset) (drop offset names) ≡ drop offset names
rest names offset = take_all (length names - offset) (drop offset names) (let len = length-drop offset names in omega (arith, len))

enough : (most have want n : ℕ) → most ≡ min have (min (want + 2) 18446744073709551615) → have < 18446744073709551616 → most ≤ n → n < have → want + 2 ≤ n
enough most have want n is small past within = elim (cases_lt have (min (want + 2) 18446744073709551615)) [
  | inl less ↦ (let all = is ∙ min-eq_left {n = have} {m = min (want + 2) 18446744073709551615} (omega (arith, less)) in absurd (omega (arith, all, past, within)))
  | inr more ↦
      let front = is ∙ min-eq_right more in
      elim (cases_lt 18446744073709551615 (want + 2)) [
        | inl wide ↦ (let top = min-eq_right {n = want + 2} {m = 18446744073709551615} (omega (arith, wide)) in absurd (omega (arith, front, top, past, within, small)))
        | inr narrow ↦ (let two = min-eq_left narrow in omega (arith, front, two, past))
      ]
]

pub returns-in-Some : goal.returns-in-Some
returns-in-Some c =
    let names = c.args.names.now in
    let offset : ℕ = c.args.offset in
    let found = rw c.in-Some.is at c.before_end.ensures in
    c.eq.ensures ∙ ap (λ (text : List ℕ). bytes_eq text c.args.name.now) c.without_slash.ensures
    ∙ name_in_front (drop offset names) c.args.name.now c.in-Some.front.now c.min-most.result
    (ap (λ (text : List ℕ). before ends_text (take c.min-most.result text)) (sym (rest names offset)) ∙ sym found)

pub returns-in-None : goal.returns-in-None
returns-in-None c =
    let names = c.args.names.now in
    let offset : ℕ = c.args.offset in
    let missing = rw c.in-None.is at c.before_end.ensures in
    let same = rest names offset in
    let most = c.min-most.ensures ∙ ap (λ (n : ℕ). min (length (take (length names - offset) (drop offset names))) n) c.saturating_add.ensures ∙ ap (λ (text : List ℕ). min (length text) (min (length c.args.name.now + 2) 18446744073709551615)) same in
    name_past_front (drop offset names) c.args.name.now c.min-most.result
    (λ n. enough c.min-most.result (length (drop offset names)) (length c.args.name.now) n most (omega (arith, length-drop offset names, c.requires.within, c.ranges.end.fits)))
    (ap (λ (text : List ℕ). before ends_text (take c.min-most.result text)) (sym same) ∙ sym missing)
