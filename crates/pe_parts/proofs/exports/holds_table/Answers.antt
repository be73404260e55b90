use Rattle.std.proofs.Common.{◌≡◌, ◌+◌, ◌*◌, ◌∙◌, Bool, true, false, refl, sym}
use Rattle.std.proofs.lemmas.Bool.{and_parts, and_from, and_left, and_right, leb-true, ltb-true}
use Rattle.pe_layout.specs.Image.{number_at}
use Rattle.pe_layout.specs.Layout.{headers_of, image_of}
use Rattle.pe_tables.specs.Exports.{table_at}
use Rattle.pe_parts.specs.AtHand.{has_bytes, has_record, has_names}
use Rattle.pe_parts.proofs.AtHand.{range_there}
use Rattle.pe_parts.proofs.exports.holds_table.Goals as goal

pub returns-clause-has : goal.returns-clause-has
returns-clause-has c = λ yes b t agree.
    let p = headers_of c.args.layout.now in
    let i = image_of c.args.layout.now in
    let d = c.args.directory in
    record {
      table = range_there p i b t agree d.rva (d.rva + 40) (c.holds_record.ensures.bytes c.if-not-holds_record.false);
      addresses = rw (c.from-entries.ensures, c.field.ensures, c.field-2.ensures) at
          (range_there p i b t agree c.field-2.result (c.field-2.result + 4 * c.from-entries.result) (c.holds_bytes.ensures.bytes c.if-not-holds_bytes.false));
      names = rw (c.from.ensures, c.field-name_count.ensures, c.field-names.ensures) at
          (range_there p i b t agree c.field-names.result (c.field-names.result + 4 * c.from.result) (c.holds_bytes-2.ensures.bytes c.if-not-holds_bytes-2.false));
      ordinals = rw (c.from-2.ensures, c.field-name_count.ensures, c.field-3.ensures) at
          (range_there p i b t agree c.field-3.result (c.field-3.result + 2 * c.from-2.result) (c.holds_bytes-3.ensures.bytes c.if-not-holds_bytes-3.false));
      texts = λ k lt. agree.texts (number_at 4 i ((table_at i d.rva).names + 4 * k))
          (rw c.field-names.ensures at (c.holds_names.ensures.texts yes k (rw c.field-name_count.ensures lt)));
      forwarders = λ r is.
          let parts = and_parts _ _ is in
          agree.texts r (c.holds_bytes-4.ensures.texts c.if-not-holds_bytes-4.false r (leb-true _ _ parts.0) (rw c.from-3.ensures (ltb-true _ _ parts.1)));
    }

pub returns-then-not-holds_record-clause-exact : goal.returns-then-not-holds_record-clause-exact
returns-then-not-holds_record-clause-exact c = sym (and_left _ _ (sym c.holds_record.ensures.exact ∙ c.if-not-holds_record.true))

pub returns-then-not-holds_bytes-clause-exact : goal.returns-then-not-holds_bytes-clause-exact
returns-then-not-holds_bytes-clause-exact c =
    let p = headers_of c.args.layout.now in
    let t = table_at (image_of c.args.layout.now) c.args.directory.rva in
    let no : has_bytes p t.addresses (4 * t.entry_count) ≡ false = rw (c.from-entries.ensures, c.field.ensures, c.field-2.ensures) at (sym c.holds_bytes.ensures.exact ∙ c.if-not-holds_bytes.true) in
    sym (and_right _ _ (and_left _ _ no))

pub returns-then-not-holds_bytes-2-clause-exact : goal.returns-then-not-holds_bytes-2-clause-exact
returns-then-not-holds_bytes-2-clause-exact c =
    let p = headers_of c.args.layout.now in
    let t = table_at (image_of c.args.layout.now) c.args.directory.rva in
    let no : has_bytes p t.names (4 * t.name_count) ≡ false = rw (c.from.ensures, c.field-name_count.ensures, c.field-names.ensures) at (sym c.holds_bytes-2.ensures.exact ∙ c.if-not-holds_bytes-2.true) in
    sym (and_right _ _ (and_right _ _ (and_left _ _ no)))

pub returns-then-not-holds_bytes-3-clause-exact : goal.returns-then-not-holds_bytes-3-clause-exact
returns-then-not-holds_bytes-3-clause-exact c =
    let p = headers_of c.args.layout.now in
    let i = image_of c.args.layout.now in
    let d = c.args.directory in
    let t = table_at i d.rva in
    let record_there : has_record p i d.rva 40 ≡ true = sym c.holds_record.ensures.exact ∙ c.if-not-holds_record.false in
    let addresses : has_bytes p t.addresses (4 * t.entry_count) ≡ true = rw (c.from-entries.ensures, c.field.ensures, c.field-2.ensures) at (sym c.holds_bytes.ensures.exact ∙ c.if-not-holds_bytes.false) in
    let names : has_bytes p t.names (4 * t.name_count) ≡ true = rw (c.from.ensures, c.field-name_count.ensures, c.field-names.ensures) at (sym c.holds_bytes-2.ensures.exact ∙ c.if-not-holds_bytes-2.false) in
    let ordinals : has_bytes p t.ordinals (2 * t.name_count) ≡ false = rw (c.from-2.ensures, c.field-name_count.ensures, c.field-3.ensures) at (sym c.holds_bytes-3.ensures.exact ∙ c.if-not-holds_bytes-3.true) in
    rw (record_there, addresses, names, ordinals) refl

pub returns-then-not-holds_bytes-4-clause-exact : goal.returns-then-not-holds_bytes-4-clause-exact
returns-then-not-holds_bytes-4-clause-exact c =
    let p = headers_of c.args.layout.now in
    let i = image_of c.args.layout.now in
    let d = c.args.directory in
    let t = table_at i d.rva in
    let record_there : has_record p i d.rva 40 ≡ true = sym c.holds_record.ensures.exact ∙ c.if-not-holds_record.false in
    let addresses : has_bytes p t.addresses (4 * t.entry_count) ≡ true = rw (c.from-entries.ensures, c.field.ensures, c.field-2.ensures) at (sym c.holds_bytes.ensures.exact ∙ c.if-not-holds_bytes.false) in
    let names : has_bytes p t.names (4 * t.name_count) ≡ true = rw (c.from.ensures, c.field-name_count.ensures, c.field-names.ensures) at (sym c.holds_bytes-2.ensures.exact ∙ c.if-not-holds_bytes-2.false) in
    let ordinals : has_bytes p t.ordinals (2 * t.name_count) ≡ true = rw (c.from-2.ensures, c.field-name_count.ensures, c.field-3.ensures) at (sym c.holds_bytes-3.ensures.exact ∙ c.if-not-holds_bytes-3.false) in
    let directory : has_bytes p d.rva d.size ≡ false = rw c.from-3.ensures at (sym c.holds_bytes-4.ensures.exact ∙ c.if-not-holds_bytes-4.true) in
    rw (record_there, addresses, names, ordinals, directory) refl

pub returns-clause-exact : goal.returns-clause-exact
returns-clause-exact c =
    let p = headers_of c.args.layout.now in
    let i = image_of c.args.layout.now in
    let d = c.args.directory in
    let t = table_at i d.rva in
    let record_there : has_record p i d.rva 40 ≡ true = sym c.holds_record.ensures.exact ∙ c.if-not-holds_record.false in
    let addresses : has_bytes p t.addresses (4 * t.entry_count) ≡ true = rw (c.from-entries.ensures, c.field.ensures, c.field-2.ensures) at (sym c.holds_bytes.ensures.exact ∙ c.if-not-holds_bytes.false) in
    let names : has_bytes p t.names (4 * t.name_count) ≡ true = rw (c.from.ensures, c.field-name_count.ensures, c.field-names.ensures) at (sym c.holds_bytes-2.ensures.exact ∙ c.if-not-holds_bytes-2.false) in
    let ordinals : has_bytes p t.ordinals (2 * t.name_count) ≡ true = rw (c.from-2.ensures, c.field-name_count.ensures, c.field-3.ensures) at (sym c.holds_bytes-3.ensures.exact ∙ c.if-not-holds_bytes-3.false) in
    let directory : has_bytes p d.rva d.size ≡ true = rw c.from-3.ensures at (sym c.holds_bytes-4.ensures.exact ∙ c.if-not-holds_bytes-4.false) in
    rw (record_there, addresses, names, ordinals, directory) (rw (c.field-name_count.ensures, c.field-names.ensures) at c.holds_names.ensures.exact)
