use Rattle.std.proofs.Common.{◌≡◌, ◌∙◌, ℕ, IsTrue, List, Option, Some, sym, subst}
use Rattle.pe_head.specs.declared.directory.Directory.{Directory}
use Rattle.pe_layout.specs.Layout.{headers_of, image_of}
use Rattle.pe_parts.specs.Filled.{MayHaveExports}
use Rattle.pe_parts.specs.Packed.{AgreeAtHand}
use Rattle.pe_parts.proofs.exports.holds_exports.Goals as goal

pub returns-in-Some-clause-has : goal.returns-in-Some-clause-has
returns-in-Some-clause-has c =
    let p = headers_of c.args.layout.now in
    let i = image_of c.args.layout.now in
    let is : Some c.in-Some.directory ≡ i.directory 0 = sym c.in-Some.is ∙ c.directory.ensures in
    subst (λ (d : Option Directory). IsTrue c.holds_table.result → (b : ℕ → ℕ) (t : ℕ → Option (List ℕ)) → AgreeAtHand p i b t → MayHaveExports i b t d) is c.holds_table.ensures.has
