-- The callbacks of a TLS directory ("PE Format", TLS Callback Functions): addresses, up to one that is 0.
use Rattle.std.specs.Prelude.{ℕ, zero, suc, ◌+◌, ◌*◌, ◌/◌, ◌==◌, List, [], ◌∷◌, length, map, Option, None, Some, option_map, option_and_then, if◌then◌else◌}
use Rattle.std.specs.List.{flat_map, range_with_len}
use Rattle.pe_view.specs.declared.fault.Place.TheVariants.{Rva}
use Rattle.pe_view.specs.Faults.{Test, test}
use Rattle.pe_layout.specs.Image.{LaidOut}
use Rattle.pe_records.specs.Address.{leads_nowhere, rva_of}
use Rattle.pe_records.specs.Records.{number, raw_bytes}
use Rattle.pe_records.specs.TlsFields.{tls_of}
use Rattle.pe_records.specs.declared.tls_directory.TlsDirectory.{TlsDirectory}

-- entry k of a table of addresses, of `address` bytes each
abbrev pub entry_at : ℕ → List ℕ → ℕ → ℕ
entry_at address bytes k = number address bytes (address * k)

-- the first of `count` numbers from `start` on at which `f` is 0, or the number after them
abbrev pub first_zero : (ℕ → ℕ) → ℕ → ℕ → ℕ
first_zero f start zero = start
first_zero f start (suc count) = if f start == 0 then start else first_zero f (start + 1) count

abbrev pub callback_count : ℕ → List ℕ → ℕ
callback_count address bytes = first_zero (entry_at address bytes) 0 (length bytes / address)

-- where callbacks begin, the size of an address, and the bytes that the file holds from there on in one run
pub record CallbackTable : Type 0 where
  pub start : ℕ
  pub address : ℕ
  pub bytes : List ℕ

abbrev pub addresses : CallbackTable → List ℕ
addresses t = map (entry_at t.address t.bytes) (range_with_len 0 (callback_count t.address t.bytes))

-- the RVA that an address leads to, if it is not 0
abbrev pub rva_at : LaidOut → ℕ → Option ℕ
rva_at i address = if address == 0 then None else rva_of i address

abbrev pub callback_rva : LaidOut → Option ℕ
callback_rva i = option_and_then (rva_at i) (option_and_then (λ (t : TlsDirectory). t.address_of_callbacks) (tls_of i))

abbrev pub callbacks_of : LaidOut → Option CallbackTable
callbacks_of i = option_map (λ rva. record { start = rva; address = i.slot_width; bytes = raw_bytes i rva }) (callback_rva i)

-- a callback is not in the image
abbrev pub entry_tests : LaidOut → CallbackTable → ℕ → List Test
entry_tests i t k = test 136 i.number (Rva (t.start + t.address * k)) (leads_nowhere i (Some (entry_at t.address t.bytes k))) ∷ []

abbrev pub entries_tests : LaidOut → CallbackTable → List Test
entries_tests i t = flat_map (entry_tests i t) (range_with_len 0 (callback_count t.address t.bytes))
