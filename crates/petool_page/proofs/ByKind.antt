-- What puts a text of the kind that a file has puts that of the file.
use Rattle.std.proofs.Common.{◌≡◌, ℕ, Bool, true, false, List, Result, sym}
use Rattle.std.proofs.lemmas.Bool.{false≢true}
use Rattle.pe_text.specs.declared.outcome.Outcome.{Outcome}
use Rattle.pe_text.specs.declared.outcome.ToolError.{ToolError}
use Rattle.pe_text.specs.Engine.{Puts}
use Rattle.petool_page.specs.Pages.{ByKind}

module _ (P Q : Outcome → List ℕ → Type 0) (before now : List ℕ) (count count' : ℕ) (result : Result Outcome ToolError) where
  pub puts_first : (kind : Bool) → kind ≡ true → Puts P before now count count' result → Puts (λ outcome text. ByKind kind (P outcome text) (Q outcome text)) before now count count' result
  puts_first true is puts = puts
  puts_first false is puts = absurd (false≢true is)

  pub puts_second : (kind : Bool) → kind ≡ false → Puts Q before now count count' result → Puts (λ outcome text. ByKind kind (P outcome text) (Q outcome text)) before now count count' result
  puts_second true is puts = absurd (false≢true (sym is))
  puts_second false is puts = puts
