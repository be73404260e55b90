use Rattle.std.proofs.Common.{◌∙◌, ◌+◌, ◌++◌, ◌∷◌, [], ℕ, List, map, drop, sym, ap, append_assoc, append-nil, get_or, rules}
use Rattle.std.proofs.lemmas.List.{map-append, drop_all}
use Rattle.std.proofs.lemmas.Result.{err_from_is_err_and}
use Rattle.pe_set.specs.Set.{Entry, Module, modules_from, modules_of}
use Rattle.pe_image.specs.ImageTests.{image_tests}
use Rattle.pe_set.specs.SetFaults.{files_tests}
use Rattle.pe_set.specs.SetView.{entry_view, entries_of, module_view}
use Rattle.pe_set.proofs.Asking.{next_item, asked_past, asked_in, asked_all, refuses-table}
use Rattle.pe_set.specs.Numbered.{numbered}
use Rattle.pe_set.proofs.Defaults.{no_entry}
use Rattle.pe_set.proofs.ModuleRead.{module_read}
use Rattle.pe_set.specs.declared.reading.Module as code_module
use Rattle.pe_set.proofs.reading.read_modules.Goals as goal

pub returns-in_err-read_exporter-clause-exact : goal.returns-in_err-read_exporter-clause-exact
unfolding files_tests
returns-in_err-read_exporter-clause-exact g c =
    let set = c.args.set.now in
    let i : ℕ = c.loop-index.index in
    let p = err_from_is_err_and c.from_residual-in_err-read_exporter.result c.from_residual-in_err-read_exporter.ensures.1 in
    rw (p.1, p.2)
    (refuses-table (image_tests i (entry_view (get_or set i no_entry)).file) (numbered (λ (n : ℕ) (e : Entry). image_tests n e.file) 0 (entries_of set))
    (asked_in entry_view (λ (n : ℕ) (e : Entry). image_tests n e.file) set i (get_or set i no_entry) (next_item set i no_entry c.loop-index-test.true) c.loop-index.invariant.rest)
    c.in_err-read_exporter.field-0.0 c.in_err-read_exporter.ensures)

pub loop-index-preserved : goal.loop-index-preserved
loop-index-preserved g c =
    let set = c.args.set.now in
    let i : ℕ = c.loop-index.index in
    let next = next_item set i no_entry c.loop-index-test.true in
    let own : code_module.Module _ = record { name = (get_or set i no_entry).name; base = (get_or set i no_entry).base; image = c.in_ok-read_exporter.field-0 } in
    let before : List Module = map module_view c.loop-index.modules.items in
    record {
      rest = asked_past entry_view (λ (n : ℕ) (e : Entry). image_tests n e.file) set i (get_or set i no_entry) next c.loop-index.invariant.rest c.in_ok-read_exporter.ensures.0;
      read =
          ap (λ ms. map module_view ms ++ modules_from (i + 1) (entries_of (drop (i + 1) set))) c.in_ok-push.ensures.items
          ∙ ap (λ ms. ms ++ modules_from (i + 1) (entries_of (drop (i + 1) set))) (map-append module_view c.loop-index.modules.items (own ∷ []))
          ∙ append_assoc before (module_view own ∷ []) (modules_from (i + 1) (entries_of (drop (i + 1) set)))
          ∙ ap (λ (m : Module). before ++ m ∷ modules_from (i + 1) (entries_of (drop (i + 1) set))) (module_read (get_or set i no_entry) i c.in_ok-read_exporter.field-0 c.in_ok-read_exporter.ensures.1)
          ∙ ap (λ es. before ++ modules_from i (entries_of es)) (sym next)
          ∙ c.loop-index.invariant.read;
    }

pub returns-clause-exact : goal.returns-clause-exact
unfolding files_tests modules_of
returns-clause-exact g c =
    let set = c.args.set.now in
    let i : ℕ = c.loop-index.index in (
      asked_all entry_view (λ (n : ℕ) (e : Entry). image_tests n e.file) set i c.loop-index-test.false c.loop-index.invariant.rest,
      sym (append-nil (map module_view c.loop-index.modules.items))
          ∙ ap (λ es. map module_view c.loop-index.modules.items ++ modules_from i (entries_of es)) (sym (drop_all i set c.loop-index-test.false))
          ∙ c.loop-index.invariant.read,
    )

pub returns-in_err-modules-clause-empty : goal.returns-in_err-modules-clause-empty
returns-in_err-modules-clause-empty g c = search rules
