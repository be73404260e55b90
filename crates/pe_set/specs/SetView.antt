-- A set, and its images once they are read, as contracts see them.
use Rattle.std.specs.Prelude.{◌≡◌, List, map}
use Rattle.pe_layout.specs.Layout.{headers_of, image_of}
use Rattle.pe_tables.specs.ExportsView.{exports_view}
use Rattle.pe_tables.specs.ImportView.{import_view}
use Rattle.pe_set.specs.Bindings.{bindings_of}
use Rattle.pe_set.specs.Set.{Entry, Module, modules_of}
use Rattle.pe_set.specs.declared.judging.Accepted.{Accepted}
use Rattle.pe_set.specs.declared.entry.SetEntry.{SetEntry}
use Rattle.pe_set.specs.declared.reading.Module as code_module

abbrev pub entry_view : SetEntry → Entry
entry_view e = record { name = e.name.now; file = e.file.now; base = e.base }

abbrev pub entries_of : List SetEntry → List Entry
entries_of set = map entry_view set

unfoldable pub module_view : {A : Type 0} → code_module.Module A → Module
module_view m = record {
  name = m.name.now;
  base = m.base;
  magic = (headers_of m.image.layout).magic;
  image = image_of m.image.layout;
  exports = exports_view m.image.exports;
  imports = map import_view m.image.imports.items;
  fixups = m.image.fixups.items;
}

abbrev pub modules_view : {A : Type 0} → List (code_module.Module A) → List Module
modules_view modules = map module_view modules

-- what is accepted are the images of these entries and their bindings
pub record IsAcceptedFrom {A : Type 0} (es : List Entry) (accepted : Accepted A) : Type 0 where
  pub modules : modules_view accepted.modules.items ≡ modules_of es
  pub bindings : accepted.bindings.items ≡ bindings_of (modules_of es)

-- what is accepted are the images of a set and their bindings
pub record IsAcceptedAs {A : Type 0} (s : List Module) (accepted : Accepted A) : Type 0 where
  pub modules : modules_view accepted.modules.items ≡ s
  pub bindings : accepted.bindings.items ≡ bindings_of s
