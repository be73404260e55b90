use Rattle.std.proofs.Common.{◌∙◌, Option, sym, subst}
use Rattle.pe_delay.specs.Imports.{delay_imports_of}
use Rattle.pe_head.specs.declared.directory.Directory.{Directory}
use Rattle.pe_layout.specs.Layout.{image_of}
use Rattle.pe_text.specs.TextWriter.{Adds}
use Rattle.json.specs.Print.{escape_byte}
use Rattle.pe_text.proofs.Adding.{◌then◌}
use Rattle.pe_json.specs.JsonText.{member}
use Rattle.pe_json.specs.Listed.{more}
use Rattle.pe_json.specs.DelayRows.{delay_members_at}
use Rattle.pe_json.proofs.Objects.{adds_none, ended}
use Rattle.pe_json.proofs.delay_imports.write_delay_imports.Goals as goal

pub returns : goal.returns
unfolding delay_members_at more member escape_byte
returns g c =
    let is = sym c.directory.ensures ∙ c.in-Some.is in
    let listed = rw c.requires.imported at c.write_imports.ensures in
    subst (λ (d : Option Directory). Adds g.W.Sink.taken g.W.Sink.failures c.args.text.now c.write_imports.new.text (more (delay_members_at d (delay_imports_of (image_of c.args.layout.now)))))
    (sym is) (ended (c.text.ensures then listed))

pub returns-in_default : goal.returns-in_default
unfolding delay_members_at more
returns-in_default g c = let is = sym c.directory.ensures ∙ c.in_default.is in rw is (adds_none c.requires.ready)
