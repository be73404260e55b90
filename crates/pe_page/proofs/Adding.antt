-- A text to which parts are added, step by step.
use Rattle.std.proofs.Common.{ℕ, List, [], ◌++◌, refl, append-nil}
use Rattle.pe_text.specs.declared.text_writer.TextWriter.{TextWriter}
use Rattle.pe_text.specs.TextWriter.{IsReady}
use Rattle.pe_text.proofs.Adding.{◌then◌}
use Rattle.pe_page.specs.Page.{AddsSome}

-- nothing is added
pub none : {W : Type 0} (taken : W → List ℕ) (failures : W → ℕ) (a : TextWriter W) → IsReady failures a → AddsSome taken failures a a
none taken failures a ready = ([], record { same = refl; ready = ready; text = λ start t n s. rw append-nil s })

infixl 20 ◌and◌
-- two parts in sequence
pub ◌and◌ : {W : Type 0} {taken : W → List ℕ} {failures : W → ℕ} {a b c : TextWriter W} → AddsSome taken failures a b → AddsSome taken failures b c → AddsSome taken failures a c
p and q = (p.0 ++ q.0, p.1 then q.1)
