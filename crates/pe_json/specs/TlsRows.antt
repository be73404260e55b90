-- The TLS directory of an image in a line of JSON.
use Rattle.std.specs.Prelude.{ℕ, List, [], ◌∷◌, ◌++◌, codes, map, Option, None, Some}
use Rattle.pe_head.specs.declared.directory.Directory.{Directory}
use Rattle.pe_layout.specs.Image.{LaidOut}
use Rattle.pe_records.specs.Callbacks.{CallbackTable, addresses, callbacks_of}
use Rattle.pe_records.specs.TlsFields.{tls_at}
use Rattle.pe_records.specs.declared.tls_directory.TlsDirectory.{TlsDirectory}
use Rattle.pe_json.specs.JsonText.{member, object, list, number, number_if, wide_if, wide_string}

unfoldable pub tls_addresses : TlsDirectory → List (List ℕ)
tls_addresses t =
    wide_if (codes "start_address_of_raw_data") t.start_address_of_raw_data
    ++ (wide_if (codes "end_address_of_raw_data") t.end_address_of_raw_data
    ++ (wide_if (codes "address_of_index") t.address_of_index ++ wide_if (codes "address_of_callbacks") t.address_of_callbacks))

-- the fields that the file holds
abbrev pub tls_fields : TlsDirectory → List (List ℕ)
tls_fields t =
    tls_addresses t ++ (number_if (codes "size_of_zero_fill") t.size_of_zero_fill ++ number_if (codes "characteristics") t.characteristics)

-- the callbacks, if an address leads to them
unfoldable pub callback_members : Option CallbackTable → List (List ℕ)
callback_members None = []
callback_members (Some t) = member (codes "callbacks") (list (map wide_string (addresses t))) ∷ []

-- the member of the directory, if there is one: where it is, its fields and its callbacks
unfoldable pub tls_members_at : LaidOut → Option Directory → List (List ℕ)
tls_members_at i None = []
tls_members_at i (Some d) =
    member (codes "tls") (object (number (codes "rva") d.rva ∷ (tls_fields (tls_at i d.rva) ++ callback_members (callbacks_of i)))) ∷ []

abbrev pub tls_members : LaidOut → List (List ℕ)
tls_members i = tls_members_at i (i.directory 9)
