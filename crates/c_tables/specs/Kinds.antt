-- The data of the resources of two types: version information, and the manifest.
use Rattle.std.specs.Prelude.{ℕ, List, Option, option_and_then}
use Rattle.pe_layout.specs.Image.{LaidOut}
use Rattle.pe_resources.specs.Texts.{data_of}
use Rattle.pe_resources.specs.Single.{manifest_of, version_of}

-- those of the version resource, if the file holds them in one run
abbrev pub version_data : LaidOut → Option (List ℕ)
version_data i = option_and_then (data_of i) (version_of i)

-- those of the manifest, if the file holds them in one run
abbrev pub manifest_data : LaidOut → Option (List ℕ)
manifest_data i = option_and_then (data_of i) (manifest_of i)
