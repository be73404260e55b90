-- The certificates of a signature as C has them.
use Rattle.std.specs.Prelude.{ℕ, List, [], unwrap_or}
use Rattle.pe_trust.specs.Names.{common_name_of}
use Rattle.pe_trust.specs.Signers.{Signer}
use Rattle.c_tables.specs.declared.signer.SignerRow.{SignerRow}

pub record SignerText : Type 0 where
  pub serial : List ℕ
  pub issuer : List ℕ
  pub subject : List ℕ
  pub issuer_name : List ℕ
  pub subject_name : List ℕ

abbrev pub signer_text : SignerRow → SignerText
signer_text r = record {
  serial = r.serial.now;
  issuer = r.issuer.now;
  subject = r.subject.now;
  issuer_name = r.issuer_name.now;
  subject_name = r.subject_name.now;
}

-- a name without a common name has an empty one
abbrev pub name_text : List ℕ → List ℕ
name_text name = unwrap_or (common_name_of name) []

abbrev pub signer_row : Signer → SignerText
signer_row s = record {
  serial = s.serial;
  issuer = s.issuer;
  subject = s.subject;
  issuer_name = name_text s.issuer;
  subject_name = name_text s.subject;
}
