use Rattle.std.proofs.Common.{refl, codes}
use Rattle.json.specs.Print.{escape_byte}
use Rattle.pe_json.specs.TlsRows.{tls_addresses}
use Rattle.pe_json.proofs.Objects.{also, wide_given}
use Rattle.pe_json.proofs.tls.write_addresses.Goals as goal

pub returns : goal.returns
unfolding tls_addresses escape_byte
returns g c =
    let start = rw (wide_given _ (codes "start_address_of_raw_data") _ refl) at c.write_wide_if.ensures in
    let end = rw (wide_given _ (codes "end_address_of_raw_data") _ refl) at c.write_wide_if-2.ensures in
    let index = rw (wide_given _ (codes "address_of_index") _ refl) at c.write_wide_if-3.ensures in
    let callbacks = rw (wide_given _ (codes "address_of_callbacks") _ refl) at c.write_wide_if-4.ensures in
    also _ _ start (also _ _ end (also _ _ index callbacks))
