use Rattle.pe_layout.proofs.layout.Layout.size_of_image.Goals as goal

pub returns : goal.returns
returns c = c.args.self.now.size_is
