-- The data of debug entries that are no CodeView records, by the definitions, as examples.
use Rattle.std.proofs.Common.{◌≡◌, List, [], ◌∷◌, ℕ, Some, None, take, refl}
use Rattle.std.specs.Prelude.{codes}
use Rattle.pe_records.specs.DebugData.{feature_counts_of, pdb_checksum_of, repro_hash_of}

hash : repro_hash_of (0x02 ∷ 0x00 ∷ 0x00 ∷ 0x00 ∷ 0xaa ∷ 0xbb ∷ 0xcc ∷ []) ≡ Some (0xaa ∷ 0xbb ∷ [])
hash = refl

hash_past_data : repro_hash_of (0x04 ∷ 0x00 ∷ 0x00 ∷ 0x00 ∷ 0xaa ∷ 0xbb ∷ 0xcc ∷ []) ≡ None
hash_past_data = refl

no_hash : repro_hash_of [] ≡ None
no_hash = refl

checksum : pdb_checksum_of (0x53 ∷ 0x48 ∷ 0x41 ∷ 0x00 ∷ 0xaa ∷ 0x00 ∷ []) ≡ Some (record { algorithm = codes "SHA"; checksum = 0xaa ∷ 0x00 ∷ [] })
checksum = refl

no_name : pdb_checksum_of (0x53 ∷ 0x48 ∷ []) ≡ None
no_name = refl

abbrev bytes : List ℕ
bytes = 0x01 ∷ 0x02 ∷ 0x03 ∷ 0x04 ∷ 0x05 ∷ 0x06 ∷ 0x07 ∷ 0x08 ∷ 0x09 ∷ 0x0a ∷ 0x0b ∷ 0x0c ∷ 0x0d ∷ 0x0e ∷ 0x0f ∷ 0x10 ∷ 0x11 ∷ 0x12 ∷ 0x13 ∷ 0x14 ∷ []

counts : feature_counts_of bytes
    ≡ Some (record { before_vc_11 = 0x04030201; c_and_cpp = 0x08070605; gs = 0x0c0b0a09; sdl = 0x100f0e0d; guard = 0x14131211 })
counts = refl

too_few : feature_counts_of (take 19 bytes) ≡ None
too_few = refl
