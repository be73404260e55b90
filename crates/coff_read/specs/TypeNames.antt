-- The names of storage classes and of types of relocations.
use Rattle.std.specs.Prelude.{ℕ, [], ◌∷◌, codes, ◌==◌, if◌then◌else◌}
use Rattle.pe_head.specs.Names.{Names}

-- The tables of "PE Format". The code has the names a second time, and is proved equal to these.

unfoldable pub storage_class_names : Names
storage_class_names =
    (0, codes "NULL") ∷ (1, codes "AUTOMATIC") ∷ (2, codes "EXTERNAL") ∷ (3, codes "STATIC") ∷ (4, codes "REGISTER") ∷
    (5, codes "EXTERNAL_DEF") ∷ (6, codes "LABEL") ∷ (7, codes "UNDEFINED_LABEL") ∷ (8, codes "MEMBER_OF_STRUCT") ∷
    (9, codes "ARGUMENT") ∷ (10, codes "STRUCT_TAG") ∷ (11, codes "MEMBER_OF_UNION") ∷ (12, codes "UNION_TAG") ∷
    (13, codes "TYPE_DEFINITION") ∷ (14, codes "UNDEFINED_STATIC") ∷ (15, codes "ENUM_TAG") ∷ (16, codes "MEMBER_OF_ENUM") ∷
    (17, codes "REGISTER_PARAM") ∷ (18, codes "BIT_FIELD") ∷ (100, codes "BLOCK") ∷ (101, codes "FUNCTION") ∷
    (102, codes "END_OF_STRUCT") ∷ (103, codes "FILE") ∷ (104, codes "SECTION") ∷ (105, codes "WEAK_EXTERNAL") ∷
    (107, codes "CLR_TOKEN") ∷ (255, codes "END_OF_FUNCTION") ∷ []

unfoldable pub amd64_type_names : Names
amd64_type_names =
    (0, codes "ABSOLUTE") ∷ (1, codes "ADDR64") ∷ (2, codes "ADDR32") ∷ (3, codes "ADDR32NB") ∷ (4, codes "REL32") ∷
    (5, codes "REL32_1") ∷ (6, codes "REL32_2") ∷ (7, codes "REL32_3") ∷ (8, codes "REL32_4") ∷ (9, codes "REL32_5") ∷
    (10, codes "SECTION") ∷ (11, codes "SECREL") ∷ (12, codes "SECREL7") ∷ (13, codes "TOKEN") ∷ (14, codes "SREL32") ∷
    (15, codes "PAIR") ∷ (16, codes "SSPAN32") ∷ []

unfoldable pub i386_type_names : Names
i386_type_names =
    (0, codes "ABSOLUTE") ∷ (1, codes "DIR16") ∷ (2, codes "REL16") ∷ (6, codes "DIR32") ∷ (7, codes "DIR32NB") ∷
    (9, codes "SEG12") ∷ (10, codes "SECTION") ∷ (11, codes "SECREL") ∷ (12, codes "TOKEN") ∷ (13, codes "SECREL7") ∷
    (20, codes "REL32") ∷ []

unfoldable pub arm64_type_names : Names
arm64_type_names =
    (0, codes "ABSOLUTE") ∷ (1, codes "ADDR32") ∷ (2, codes "ADDR32NB") ∷ (3, codes "BRANCH26") ∷
    (4, codes "PAGEBASE_REL21") ∷ (5, codes "REL21") ∷ (6, codes "PAGEOFFSET_12A") ∷ (7, codes "PAGEOFFSET_12L") ∷
    (8, codes "SECREL") ∷ (9, codes "SECREL_LOW12A") ∷ (10, codes "SECREL_HIGH12A") ∷ (11, codes "SECREL_LOW12L") ∷
    (12, codes "TOKEN") ∷ (13, codes "SECTION") ∷ (14, codes "ADDR64") ∷ (15, codes "BRANCH19") ∷ (16, codes "BRANCH14") ∷
    (17, codes "REL32") ∷ []

unfoldable pub arm_type_names : Names
arm_type_names =
    (0, codes "ABSOLUTE") ∷ (1, codes "ADDR32") ∷ (2, codes "ADDR32NB") ∷ (3, codes "BRANCH24") ∷ (4, codes "BRANCH11") ∷
    (10, codes "REL32") ∷ (14, codes "SECTION") ∷ (15, codes "SECREL") ∷ (16, codes "MOV32") ∷ (17, codes "THUMB_MOV32") ∷
    (18, codes "THUMB_BRANCH20") ∷ (20, codes "THUMB_BRANCH24") ∷ (21, codes "THUMB_BLX23") ∷ (22, codes "PAIR") ∷ []

-- the types of a machine's relocations; the types of other machines have no names
abbrev pub relocation_type_names : ℕ → Names
relocation_type_names machine =
    if machine == 0x8664 then amd64_type_names
    else (if machine == 0x14c then i386_type_names
    else (if machine == 0xaa64 then arm64_type_names
    else (if machine == 0x1c0 then arm_type_names
    else (if machine == 0x1c4 then arm_type_names else []))))
