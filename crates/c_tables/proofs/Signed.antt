-- The certificates that are signatures.
use Rattle.std.proofs.Common.{◌≡◌, List, ◌∷◌, refl}
use Rattle.std.specs.List.{filter}
use Rattle.pe_trust.specs.Certificates.{Entry}
use Rattle.c_tables.specs.SignatureRows.{SIGNED_DATA, is_signature}

pub picked : (e : Entry) (rest : List Entry) → e.kind ≡ SIGNED_DATA → filter is_signature (e ∷ rest) ≡ e ∷ filter is_signature rest
picked e rest is = rw is refl
