-- The delay-loaded imports of an image in a line of JSON: rows as those of imports.
use Rattle.std.specs.Prelude.{ℕ, List, [], ◌∷◌, codes, Option, None, Some}
use Rattle.pe_delay.specs.Imports.{delay_imports_of}
use Rattle.pe_head.specs.declared.directory.Directory.{Directory}
use Rattle.pe_layout.specs.Image.{LaidOut}
use Rattle.pe_tables.specs.Imports.{Import}
use Rattle.pe_json.specs.JsonText.{member}
use Rattle.pe_json.specs.TableRows.{imports_list}

-- the member that lists them, if there is a delay-load directory table
unfoldable pub delay_members_at : Option Directory → List Import → List (List ℕ)
delay_members_at None imports = []
delay_members_at (Some d) imports = member (codes "delay_imports") (imports_list imports) ∷ []

abbrev pub delay_members : LaidOut → List (List ℕ)
delay_members i = delay_members_at (i.directory 13) (delay_imports_of i)
