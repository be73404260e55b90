-- The bytes of a quoted string that need no escape.
use Rattle.std.proofs.Common.{◌≡◌, ℕ, zero, suc, ◌+◌, ◌-◌, ◌<◌, ◌≤◌, true, List, [], ◌∷◌, length, take, drop, get_or, refl, ap, arith}
use Rattle.std.specs.Prelude.{flat_map}
use Rattle.std.proofs.Math.Seq.{take-add}
use Rattle.std.proofs.lemmas.Grind.{flat_map-append}
use Rattle.std.proofs.lemmas.List.{take_rest}
use Rattle.pe_text.specs.Text.{is_plain, escaped}
use Rattle.pe_text.specs.declared.text_writer.TextWriter.{TextWriter}
use Rattle.pe_text.specs.TextWriter.{Adds}
use Rattle.pe_text.proofs.Adding.{◌then◌}

itself : (byte : ℕ) → is_plain byte ≡ true → escaped byte ≡ byte ∷ []
unfolding escaped
itself byte plain = rw plain refl

pub plain_text : (n : ℕ) (bytes : List ℕ) → n ≤ length bytes → ((k d : ℕ) → k < n → is_plain (get_or bytes k d) ≡ true) → flat_map escaped (take n bytes) ≡ take n bytes
plain_text zero bytes fits plain = refl
plain_text (suc n) [] fits plain = absurd (omega arith)
plain_text (suc n) (byte ∷ bytes) fits plain =
    rw (itself byte (plain 0 0 (omega arith))) (ap (λ (bs : List ℕ). byte ∷ bs) (plain_text n bytes (omega arith) (λ k d lt. plain (suc k) d (omega arith))))

-- some more bytes of a quoted string
pub escaped-then : {W : Type 0} {taken : W → List ℕ} {failures : W → ℕ} {a b c : TextWriter W} (at n : ℕ) (bytes : List ℕ)
    → Adds taken failures a b (flat_map escaped (take at bytes)) → Adds taken failures b c (flat_map escaped (take n (take (length bytes - at) (drop at bytes)))) → Adds taken failures a c (flat_map escaped (take (at + n) bytes))
escaped-then at n bytes p q = rw (take-add, flat_map-append) (p then (rw take_rest at q))
