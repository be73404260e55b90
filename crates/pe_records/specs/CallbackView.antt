-- Callbacks of the code.
use Rattle.pe_view.specs.View.{bytes_of}
use Rattle.pe_records.specs.Callbacks.{CallbackTable}
use Rattle.pe_records.specs.Structure.{address_width}
use Rattle.pe_records.specs.declared.tls_callbacks.TlsCallbacks.{TlsCallbacks}

abbrev pub callback_table : TlsCallbacks → CallbackTable
callback_table c = record { start = c.start; address = address_width c.is_plus; bytes = bytes_of c.bytes }
