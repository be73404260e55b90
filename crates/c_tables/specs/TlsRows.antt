-- The TLS directory and its callbacks as C has them.
use Rattle.std.specs.Prelude.{ℕ, List, [], Option, None, Some, is_some, unwrap_or}
use Rattle.pe_layout.specs.Image.{LaidOut}
use Rattle.pe_records.specs.Callbacks.{CallbackTable, addresses, callbacks_of}
use Rattle.pe_records.specs.declared.tls_directory.TlsDirectory.{TlsDirectory}
use Rattle.c_tables.specs.declared.tls.CallbackRow.{CallbackRow}
use Rattle.c_tables.specs.declared.tls.TlsRecord.{TlsRecord}

-- a field that the file does not hold is 0; the last one says whether it holds all
abbrev pub tls_record : TlsDirectory → TlsRecord
tls_record t = record {
  start_address_of_raw_data = unwrap_or t.start_address_of_raw_data 0;
  end_address_of_raw_data = unwrap_or t.end_address_of_raw_data 0;
  address_of_index = unwrap_or t.address_of_index 0;
  address_of_callbacks = unwrap_or t.address_of_callbacks 0;
  size_of_zero_fill = unwrap_or t.size_of_zero_fill 0;
  characteristics = unwrap_or t.characteristics 0;
  is_whole = is_some t.characteristics;
}

abbrev pub addresses_in : Option CallbackTable → List ℕ
addresses_in None = []
addresses_in (Some table) = addresses table

-- the addresses of an image's callbacks
abbrev pub callbacks_in : LaidOut → List ℕ
callbacks_in i = addresses_in (callbacks_of i)

abbrev pub callback_row : ℕ → CallbackRow
callback_row address = record { address = address }
