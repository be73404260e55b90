-- The alignments of "PE Format", Section Flags, by their flags: IMAGE_SCN_ALIGN_1BYTES to IMAGE_SCN_ALIGN_8192BYTES.
use Rattle.std.proofs.Common.{◌≡◌, None, Some, refl}
use Rattle.coff_read.specs.Alignment.{alignment_of}

one : alignment_of 0x00100000 ≡ Some 1
one = refl

two : alignment_of 0x00200000 ≡ Some 2
two = refl

-- of code as compilers write it: CNT_CODE, MEM_EXECUTE, MEM_READ
sixteen : alignment_of 0x60500020 ≡ Some 16
sixteen = refl

most : alignment_of 0x00e00000 ≡ Some 8192
most = refl

-- with all other flags
others : alignment_of 0xff7fffff ≡ Some 64
others = refl

none : alignment_of 0xff0fffff ≡ None
none = refl

-- a number that has no name
unnamed : alignment_of 0x00f00000 ≡ None
unnamed = refl
