-- What a line of JSON tells of an image beyond its profile.
use Rattle.std.specs.Prelude.{ℕ, Bool, List, [], ◌++◌, Option, None, Some}
use Rattle.pe_head.specs.declared.headers.Headers.{Headers}
use Rattle.pe_layout.specs.Image.{LaidOut}
use Rattle.pe_tables.specs.Imports.{Import, imports_of}
use Rattle.pe_view.specs.declared.fault.Fault.{Fault}
use Rattle.pe_imphash.specs.ImportText.{import_hash_of}
use Rattle.pe_json.specs.BoundRows.{bound_members}
use Rattle.pe_json.specs.DebugRows.{debug_members}
use Rattle.pe_json.specs.DelayRows.{delay_members}
use Rattle.pe_json.specs.FindingRows.{findings_in, findings_members, trust_findings}
use Rattle.pe_json.specs.FunctionRows.{function_members}
use Rattle.pe_json.specs.PdbRows.{pdb_members}
use Rattle.pe_json.specs.ResourceRows.{resource_members}
use Rattle.pe_json.specs.StructureRows.{structure_members}
use Rattle.pe_json.specs.SymbolRows.{symbol_members}
use Rattle.pe_json.specs.TlsRows.{tls_members}
use Rattle.pe_json.specs.TrustRows.{imphash_if, trust_members}
use Rattle.pe_json.specs.declared.beyond.Beyond.{Beyond}
use Rattle.pe_json.specs.declared.structure.StructureKind.TheVariants.{LoadConfiguration, ClrHeader}

-- the members of an image for this machine: those of a table are there if its directory is
abbrev pub record_members : Bool → ℕ → LaidOut → List (List ℕ)
record_members functions machine i =
    debug_members i
    ++ (pdb_members i
    ++ (function_members functions machine i
    ++ (tls_members i
    ++ (structure_members LoadConfiguration i ++ (bound_members i ++ structure_members ClrHeader i)))))

-- what is told beyond the profile: these tables, delay-loaded imports, the resources, the symbols, what the file says of itself, and what
-- is found in all of them
abbrev pub beyond_members : Beyond → List ℕ → Headers → LaidOut → List (List ℕ)
beyond_members b file h i =
    record_members b.functions h.machine i
    ++ (delay_members i
    ++ (resource_members i
    ++ (symbol_members b.symbols file h
    ++ (trust_members b.digests file h ++ (imphash_if (import_hash_of (imports_of i)) ++ findings_members file h i)))))

-- the same, if it is asked for
abbrev pub members_beyond : Option Beyond → List ℕ → Headers → LaidOut → List (List ℕ)
members_beyond None file h i = []
members_beyond (Some b) file h i = beyond_members b file h i

-- the hash of a refused image's imports, if they have no fault
unfoldable pub hash_if : Option (List Import) → List (List ℕ)
hash_if None = []
hash_if (Some imports) = imphash_if (import_hash_of imports)

-- what the file of a refused image says of itself, and what is found in that, if it is asked for
abbrev pub own_members : Option Beyond → List ℕ → Headers → Option (List Import) → List (List ℕ)
own_members None file h imports = []
own_members (Some b) file h imports = trust_members b.digests file h ++ (hash_if imports ++ findings_in (trust_findings file h))

-- these findings
abbrev pub own_findings : Option Beyond → List ℕ → Headers → List Fault
own_findings None file h = []
own_findings (Some b) file h = trust_findings file h
