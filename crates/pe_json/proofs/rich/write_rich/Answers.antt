use Rattle.std.proofs.Common.{◌≡◌, ◌∙◌, ◌*◌, sym, ap, codes, Some}
use Rattle.std.specs.Prelude.{option_map}
use Rattle.json.specs.Print.{escape_byte}
use Rattle.pe_text.specs.TextWriter.{Adds}
use Rattle.pe_trust.specs.Rich.{rich_of}
use Rattle.pe_trust.specs.RichView.{rich_view}
use Rattle.pe_view.specs.View.{bytes_of}
use Rattle.pe_json.specs.JsonText.{member, list, number}
use Rattle.pe_json.specs.Listed.{more}
use Rattle.pe_json.specs.RichRows.{pairs_member, pair_rows, rich_in}
use Rattle.pe_json.proofs.Objects.{adds_none, also, ended, object_after}
use Rattle.pe_json.proofs.rich.write_rich.Goals as goal

pub returns : goal.returns
unfolding rich_in pairs_member more member list escape_byte
returns g c =
    let file = bytes_of c.args.file in
    let r = rich_view c.in-Some.header in
    let same : bytes_of c.in-Some.header.file ≡ file = c.in-Some.ensures.same in
    let is : rich_of file c.args.headers.now.pe_offset ≡ Some r = sym c.rich_header.ensures.value ∙ ap (option_map rich_view) c.in-Some.is in
    let offset = rw c.offset.ensures at c.write_number.ensures in
    let key = rw same at c.write_key.ensures in
    let pairs : Adds g.W.Sink.taken g.W.Sink.failures c.write_key.new.text c.write_list.new.text (more (pairs_member (pair_rows file r))) = ended (rw same at c.write_list.ensures) in
    rw is (ended (object_after (codes ",\"rich\":") (number (codes "offset") (4 * r.start)) _ offset (also _ _ key pairs) c.text.ensures))

pub returns-in_default : goal.returns-in_default
unfolding rich_in more
returns-in_default g c = rw (sym c.rich_header.ensures.value ∙ ap (option_map rich_view) c.in_default.is) (adds_none c.requires)
