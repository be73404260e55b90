use Rattle.pe_layout.proofs.layout.Layout.size_of_headers.Goals as goal

pub returns : goal.returns
returns c = c.args.self.now.header_bytes_are
