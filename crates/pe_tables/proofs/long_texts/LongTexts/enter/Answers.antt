-- The path of the string's end is extended to its last block.
use Rattle.std.proofs.Common.{◌≡◌, ◌∙◌, ◌/◌, ◌≤◌, ◌++◌, ◌∷◌, ℕ, List, Some, length, take, drop, ap, sym, subst, arith, refl}
use Rattle.std.specs.Prelude.{slice_index_or, max}
use Rattle.std.proofs.Math.Nat.{div-add-mod}
use Rattle.std.proofs.lemmas.List.{length-take-le, take-append-drop}
use Rattle.std.proofs.lemmas.Result.{err_from_is_err_and}
use Rattle.pe_layout.specs.Layout.{file_of}
use Rattle.pe_tables.specs.LongTexts.{Leads, IsPath}
use Rattle.pe_tables.proofs.LongTexts.{entry_before, node_below}
use Rattle.pe_tables.proofs.LongPaths.{leads_of_path, path_kept, path_on, known_kept, one_more}
use Rattle.pe_tables.proofs.long_texts.LongTexts.enter.Goals as goal

pub follow-requires-clause-leads : goal.follow-requires-clause-leads
follow-requires-clause-leads g c =
    let file = file_of c.args._layout.now in
    let old = c.args.self.now in
    let root = c.make_root.new.self in
    let made = c.in_ok-make_root.ensures in
    let known = known_kept file old root c.requires.known made.grows (made.trie c.requires.known.trie) made.paths in
    let path = c.take_path-path.ensures.path file known in
    subst (λ ns. Leads ns.items c.args.text.bytes.now c.take_path-path.result.items) (sym c.take_path-path.ensures.nodes)
    (leads_of_path root.nodes.items file c.args.text.end c.args.text.bytes.now c.take_path-path.result.items c.requires.text.inside c.requires.text.bytes path)

pub returns-clause-known : goal.returns-clause-known
returns-clause-known g c =
    let file = file_of c.args._layout.now in
    let text = c.args.text.bytes.now in
    let end : ℕ = c.args.text.end in
    let old = c.args.self.now in
    let root = c.make_root.new.self in
    let made = c.in_ok-make_root.ensures in
    let known = known_kept file old root c.requires.known made.grows (made.trie c.requires.known.trie) made.paths in
    let taken = c.take_path-path.new.self in
    let rest = c.take_path-path.ensures.known file known in
    let path = c.take_path-path.result.items in
    let along : IsPath taken.nodes.items file end path = subst (λ ns. IsPath ns.items file end path) (sym c.take_path-path.ensures.nodes) (c.take_path-path.ensures.path file known) in
    let f = c.in_ok-follow.ensures in
    let grown = c.follow.new.self in
    let more = f.goes_on in
    let parts = div-add-mod (length text) 256 in
    let on : IsPath grown.nodes.items file end (path ++ more.0) =
    path_on grown.nodes.items file end text path more.0 c.requires.text.inside c.requires.text.bytes (path_kept taken.nodes.items grown.nodes.items f.grows file end path along)
    (subst (λ ns. Leads grown.nodes.items text ns) more.1 f.leads) (omega (arith, parts)) (subst (λ ns. length ns ≤ max (length path) (length text / 256)) more.1 f.needed) in
    one_more file grown _ end c.follow.new.path (known_kept file taken grown rest f.grows f.trie c.follow.ensures.paths)
    (subst (λ ns. IsPath grown.nodes.items file end ns) (sym more.1) on) refl c.in_ok-insert.ensures.updates.0

at_end : (path : List ℕ) (k : ℕ) → k ≤ length path → slice_index_or (0 ∷ take k path) (length (take k path)) 0 ≡ slice_index_or (0 ∷ path) k 0
at_end path k le =
    let size : length (take k path) ≡ k = length-take-le k path le in
    ap (λ j. slice_index_or (0 ∷ take k path) j 0) size ∙ entry_before (take k path) (drop k path) k (omega (arith, size)) ∙ ap (λ ns. slice_index_or (0 ∷ ns) k 0) (take-append-drop k path)

pub returns-clause-node : goal.returns-clause-node
returns-clause-node g c =
    let text = c.args.text.bytes.now in
    let f = c.in_ok-follow.ensures in
    let parts = div-add-mod (length text) 256 in
    let path = c.follow.new.path.items in
    f.leads (length text / 256) f.whole (omega (arith, parts))
    ∙ ap (λ n. Some n) (sym (c.last_node-node.ensures ∙ ap (λ ns. slice_index_or (0 ∷ take (length text / 256) ns) (length (take (length text / 256) ns)) 0) c.deref.ensures.value ∙ at_end path (length text / 256) f.whole))

pub returns-clause-inside : goal.returns-clause-inside
returns-clause-inside g c =
    let text = c.args.text.bytes.now in
    let f = c.in_ok-follow.ensures in
    let some = c.in_ok-make_root.ensures.root in
    let nodes = ap (λ ns. length ns.items) c.take_path-path.ensures.nodes in
    let count = f.grows.count in
    node_below c.follow.new.self.nodes.items f.trie (omega (arith, some, nodes, count)) text (length text / 256) c.last_node-node.result (returns-clause-node g c)

pub returns-in_err-make_root-clause-known : goal.returns-in_err-make_root-clause-known
returns-in_err-make_root-clause-known g c = let p = err_from_is_err_and c.from_residual.result c.from_residual.ensures.1 in rw p.1 tt

pub returns-in_err-make_root-clause-grows : goal.returns-in_err-make_root-clause-grows
returns-in_err-make_root-clause-grows g c = let p = err_from_is_err_and c.from_residual.result c.from_residual.ensures.1 in rw p.1 tt

pub returns-in_err-make_root-clause-node : goal.returns-in_err-make_root-clause-node
returns-in_err-make_root-clause-node g c = let p = err_from_is_err_and c.from_residual.result c.from_residual.ensures.1 in rw p.1 tt

pub returns-in_err-make_root-clause-inside : goal.returns-in_err-make_root-clause-inside
returns-in_err-make_root-clause-inside g c = let p = err_from_is_err_and c.from_residual.result c.from_residual.ensures.1 in rw p.1 tt

pub returns-in_err-follow-clause-known : goal.returns-in_err-follow-clause-known
returns-in_err-follow-clause-known g c = let p = err_from_is_err_and c.from_residual-in_err-follow.result c.from_residual-in_err-follow.ensures.1 in rw p.1 tt

pub returns-in_err-follow-clause-grows : goal.returns-in_err-follow-clause-grows
returns-in_err-follow-clause-grows g c = let p = err_from_is_err_and c.from_residual-in_err-follow.result c.from_residual-in_err-follow.ensures.1 in rw p.1 tt

pub returns-in_err-follow-clause-node : goal.returns-in_err-follow-clause-node
returns-in_err-follow-clause-node g c = let p = err_from_is_err_and c.from_residual-in_err-follow.result c.from_residual-in_err-follow.ensures.1 in rw p.1 tt

pub returns-in_err-follow-clause-inside : goal.returns-in_err-follow-clause-inside
returns-in_err-follow-clause-inside g c = let p = err_from_is_err_and c.from_residual-in_err-follow.result c.from_residual-in_err-follow.ensures.1 in rw p.1 tt

pub returns-in_err-insert-clause-known : goal.returns-in_err-insert-clause-known
returns-in_err-insert-clause-known g c = let p = err_from_is_err_and c.from_residual-in_err-insert.result c.from_residual-in_err-insert.ensures.1 in rw p.1 tt

pub returns-in_err-insert-clause-grows : goal.returns-in_err-insert-clause-grows
returns-in_err-insert-clause-grows g c = let p = err_from_is_err_and c.from_residual-in_err-insert.result c.from_residual-in_err-insert.ensures.1 in rw p.1 tt

pub returns-in_err-insert-clause-node : goal.returns-in_err-insert-clause-node
returns-in_err-insert-clause-node g c = let p = err_from_is_err_and c.from_residual-in_err-insert.result c.from_residual-in_err-insert.ensures.1 in rw p.1 tt

pub returns-in_err-insert-clause-inside : goal.returns-in_err-insert-clause-inside
returns-in_err-insert-clause-inside g c = let p = err_from_is_err_and c.from_residual-in_err-insert.result c.from_residual-in_err-insert.ensures.1 in rw p.1 tt
