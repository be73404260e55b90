-- The file that a resource is written as.
use Rattle.std.specs.Prelude.{ℕ, List, ◌++◌, flat_map, map}
use Rattle.pe_resource_files.specs.declared.file.ResourceFile.{ResourceFile}

-- what the code holds of it: what stands at its front, and the parts after that
abbrev pub pieces_of : {A : Type 0} → ResourceFile A → List ℕ × List (List ℕ)
pieces_of file = (file.front.items, map (λ part. part.now) file.parts.items)

-- its bytes
abbrev pub pieces_bytes : List ℕ × List (List ℕ) → List ℕ
pieces_bytes pieces = pieces.0 ++ flat_map (λ part. part) pieces.1
