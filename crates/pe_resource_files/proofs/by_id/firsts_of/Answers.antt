use Rattle.std.proofs.Common.{◌∙◌, ℕ, Bool, List, [], ◌∷◌, ◌++◌, take, get_or, Option, None, Some, ap, sym, subst, Vec}
use Rattle.std.specs.Prelude.{if◌then◌else◌}
use Rattle.std.specs.Option.{option_or}
use Rattle.pe_resources.specs.declared.leaf.Leaf.{Leaf}
use Rattle.pe_resource_files.specs.ById.{IsById}
use Rattle.pe_resource_files.specs.Pictures.{is_number}
use Rattle.pe_resource_files.proofs.ById.{is_none_by, none_yet, one_more, no_more, next}
use Rattle.pe_resource_files.proofs.by_id.firsts_of.Goals as goal
use Rattle.pe_resource_files.proofs.by_id.firsts_of.Goals.{in-Some, in_default}

pub loop-leaf-init : goal.loop-leaf-init
loop-leaf-init g c = none_yet c.args.kind c.in_ok-firsts.firsts.items (c.in_ok-firsts.ensures.items_if_clones_equal (is_none_by _ (λ leaf same. same)))

abbrev no_leaf : Leaf
no_leaf = record { path = record { kind = None; name = None; language = None }; rva = 0; size = 0; code_page = 0 }

pub loop-leaf-preserved : goal.loop-leaf-preserved
loop-leaf-preserved g c =
    let kind : ℕ = c.args.kind in
    let i : ℕ = c.loop-leaf.leaf-index in
    let before : List Leaf = take i c.args.leaves.now in
    let leaf : Leaf = get_or c.args.leaves.now i no_leaf in
    let old : List (Option Leaf) = c.loop-leaf.firsts.items in
    next kind c.args.leaves.now i no_leaf c.match-id_of.firsts.items c.loop-leaf-test.true (elim c.match-id_of.branch [
      | in-Some w ↦
          let new : List (Option Leaf) = w.keep.new.firsts.items in
          subst (IsById kind (before ++ leaf ∷ [])) (sym (ap (λ (v : Vec (Option Leaf) g.row.A.Denot). v.items) w.firsts-is))
          (one_more kind before leaf old new c.loop-leaf.invariant w.keep.ensures.count
          (λ id lt. w.keep.ensures.first id lt ∙ ap (λ (b : Bool). option_or (get_or old id None) (if b then Some leaf else None)) (sym (c.id_of.ensures id lt ∙ ap (is_number id) w.in-Some.is))))
      | in_default w ↦
          subst (IsById kind (before ++ leaf ∷ [])) (sym (ap (λ (v : Vec (Option Leaf) g.row.A.Denot). v.items) w.firsts-is))
          (no_more kind before leaf old c.loop-leaf.invariant (λ id lt. c.id_of.ensures id lt ∙ ap (is_number id) w.in_default.is))
    ])
