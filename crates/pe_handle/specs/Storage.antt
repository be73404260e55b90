-- What a space has, by where its bytes are.
use Rattle.std.specs.Prelude.{[]}
use Rattle.pe_space.specs.Content.{Content}
use Rattle.pe_handle.specs.declared.storage.Storage.{Storage}
use Rattle.pe_handle.specs.declared.storage.Storage.TheVariants.{Memory, Files, Nowhere}

abbrev pub no_images : Content
no_images = record { images = []; bindings = [] }

-- the same wherever the bytes are
abbrev pub content_in : Storage → Content
content_in (Memory space) = space
content_in (Files space) = space
content_in Nowhere = no_images
