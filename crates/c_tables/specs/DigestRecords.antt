-- Digests of what a signature signs as C has them.
use Rattle.std.specs.Prelude.{◌≡◌, ℕ, ◌-◌, ◌==◌, List, length, replicate, ◌++◌, Option, None, Some, option_map, if◌then◌else◌}
use Rattle.pe_head.specs.Head.{head_of}
use Rattle.pe_head.specs.HeaderFaults.{head_tests}
use Rattle.pe_head.specs.declared.headers.Headers.{Headers}
use Rattle.pe_records_c.specs.declared.fault.FaultRecord.{FaultRecord}
use Rattle.c_tables.specs.Told.{ReadsRecord}
use Rattle.pe_trust.specs.Digests.{digest_of}
use Rattle.pe_trust.specs.SignedBytes.{authenticode_bytes}
use Rattle.pe_trust.specs.declared.digests.DigestAlgorithm.{DigestAlgorithm}
use Rattle.pe_trust.specs.declared.digests.DigestAlgorithm.TheVariants.{Sha1, Sha256, Sha384, Sha512}
use Rattle.c_tables.specs.declared.digest.DigestRecord.{DigestRecord}

-- the number of an algorithm
abbrev pub algorithm_number : DigestAlgorithm → ℕ
algorithm_number Sha1 = 1
algorithm_number Sha256 = 2
algorithm_number Sha384 = 3
algorithm_number Sha512 = 4

-- the algorithm of a number, if its digests are computed
abbrev pub algorithm_numbered : ℕ → Option DigestAlgorithm
algorithm_numbered number =
    if number == 1 then Some Sha1 else (if number == 2 then Some Sha256 else (if number == 3 then Some Sha384 else (if number == 4 then Some Sha512 else None)))

-- a digest, with zeros after it
abbrev pub digest_record : List ℕ → DigestRecord
digest_record digest = record { bytes = digest ++ replicate (64 - length digest) 0; len = length digest }

-- the digest by an algorithm of what a signature of a file signs; none if the file has no such bytes
abbrev pub file_digest : DigestAlgorithm → List ℕ → Headers → Option (List ℕ)
file_digest algorithm file h = option_map (digest_of algorithm) (authenticode_bytes file h)

-- the same as C has it
abbrev pub own_record : DigestAlgorithm → List ℕ → Headers → Option DigestRecord
own_record algorithm file h = option_map digest_record (file_digest algorithm file h)

-- a call that reads the digest of a file by the algorithm of a number: status 5, and nothing is read, if there is no such algorithm
abbrev pub ReadsDigest : List ℕ → Option DigestAlgorithm → DigestRecord → DigestRecord → FaultRecord → FaultRecord → ℕ → Type 0
ReadsDigest file None before after fault fault_after status = (status ≡ 5) × ((after ≡ before) × (fault_after ≡ fault))
ReadsDigest file (Some algorithm) before after fault fault_after status =
    ReadsRecord (head_tests 0 file) (λ r. r) (own_record algorithm file (head_of file)) before after fault fault_after status
