-- What is found is how the query ended.
use Rattle.std.proofs.Common.{◌≡◌, ◌∙◌, refl, sym, subst}
use Rattle.std.specs.Prelude.{IfSome}
use Rattle.std.specs.BTreeMap.{get}
use Rattle.pe_set.specs.Search.{resolve}
use Rattle.pe_set.specs.RememberedView.{query_cmp}
use Rattle.pe_set.proofs.Remembering.{found}
use Rattle.pe_set.proofs.remembered.Remembered.find_query.Goals as goal

pub returns : goal.returns
returns g c = λ s image name key known stands.
    let ends = c.args.self.now.ends in
    let query = c.args.query in
    subst (λ o. IfSome o (λ end. resolve s name key ≡ end)) (sym (c.copied.ensures ∙ c.get.ensures.value)) (found s image ends query name key known stands (get query_cmp ends query) refl)
