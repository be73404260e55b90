-- The names of values and flags.
use Rattle.std.specs.Prelude.{ℕ, [], ◌∷◌, codes, ◌==◌, List, Option, option_map}
use Rattle.std.specs.List.{find}
use denote.Bor.{Bor}
use Rattle.pe_head.specs.declared.names.FlagKind.{FlagKind}
use Rattle.pe_head.specs.declared.names.FlagKind.TheVariants.{File, Dll, Section}

-- values, or flags, and their names
abbrev pub Names : Type 0
Names = List (ℕ × List ℕ)

-- the name of a value
abbrev pub name_in : Names → ℕ → Option (List ℕ)
name_in names value = option_map (λ row. row.1) (find (λ row. row.0 == value) names)

-- a row of a table of the code
abbrev pub name_view : ℕ × Bor (List ℕ) → ℕ × List ℕ
name_view row = (row.0, row.1.now)

-- The tables of "PE Format". The code has its own copy, which is proved equal to these.

unfoldable pub machine_names : Names
machine_names =
    (0, codes "UNKNOWN") ∷ (0x14c, codes "I386") ∷ (0x160, codes "R3000BE") ∷ (0x162, codes "R3000") ∷
    (0x166, codes "R4000") ∷ (0x168, codes "R10000") ∷ (0x169, codes "WCEMIPSV2") ∷ (0x184, codes "ALPHA") ∷
    (0x1a2, codes "SH3") ∷ (0x1a3, codes "SH3DSP") ∷ (0x1a6, codes "SH4") ∷ (0x1a8, codes "SH5") ∷ (0x1c0, codes "ARM") ∷
    (0x1c2, codes "THUMB") ∷ (0x1c4, codes "ARMNT") ∷ (0x1d3, codes "AM33") ∷ (0x1f0, codes "POWERPC") ∷
    (0x1f1, codes "POWERPCFP") ∷ (0x200, codes "IA64") ∷ (0x266, codes "MIPS16") ∷ (0x284, codes "ALPHA64") ∷
    (0x366, codes "MIPSFPU") ∷ (0x466, codes "MIPSFPU16") ∷ (0xebc, codes "EBC") ∷ (0x5032, codes "RISCV32") ∷
    (0x5064, codes "RISCV64") ∷ (0x5128, codes "RISCV128") ∷ (0x6232, codes "LOONGARCH32") ∷ (0x6264, codes "LOONGARCH64") ∷
    (0x8664, codes "AMD64") ∷ (0x9041, codes "M32R") ∷ (0xa641, codes "ARM64EC") ∷ (0xa64e, codes "ARM64X") ∷
    (0xaa64, codes "ARM64") ∷ []

unfoldable pub subsystem_names : Names
subsystem_names =
    (0, codes "UNKNOWN") ∷ (1, codes "NATIVE") ∷ (2, codes "WINDOWS_GUI") ∷ (3, codes "WINDOWS_CUI") ∷ (5, codes "OS2_CUI") ∷
    (7, codes "POSIX_CUI") ∷ (8, codes "NATIVE_WINDOWS") ∷ (9, codes "WINDOWS_CE_GUI") ∷ (0xa, codes "EFI_APPLICATION") ∷
    (0xb, codes "EFI_BOOT_SERVICE_DRIVER") ∷ (0xc, codes "EFI_RUNTIME_DRIVER") ∷ (0xd, codes "EFI_ROM") ∷
    (0xe, codes "XBOX") ∷ (0x10, codes "WINDOWS_BOOT_APPLICATION") ∷ []

unfoldable pub characteristic_names : Names
characteristic_names =
    (1, codes "RELOCS_STRIPPED") ∷ (2, codes "EXECUTABLE_IMAGE") ∷ (4, codes "LINE_NUMS_STRIPPED") ∷
    (8, codes "LOCAL_SYMS_STRIPPED") ∷ (0x10, codes "AGGRESSIVE_WS_TRIM") ∷ (0x20, codes "LARGE_ADDRESS_AWARE") ∷
    (0x80, codes "BYTES_REVERSED_LO") ∷ (0x100, codes "32BIT_MACHINE") ∷ (0x200, codes "DEBUG_STRIPPED") ∷
    (0x400, codes "REMOVABLE_RUN_FROM_SWAP") ∷ (0x800, codes "NET_RUN_FROM_SWAP") ∷ (0x1000, codes "SYSTEM") ∷
    (0x2000, codes "DLL") ∷ (0x4000, codes "UP_SYSTEM_ONLY") ∷ (0x8000, codes "BYTES_REVERSED_HI") ∷ []

unfoldable pub dll_characteristic_names : Names
dll_characteristic_names =
    (0x20, codes "HIGH_ENTROPY_VA") ∷ (0x40, codes "DYNAMIC_BASE") ∷ (0x80, codes "FORCE_INTEGRITY") ∷
    (0x100, codes "NX_COMPAT") ∷ (0x200, codes "NO_ISOLATION") ∷ (0x400, codes "NO_SEH") ∷ (0x800, codes "NO_BIND") ∷
    (0x1000, codes "APPCONTAINER") ∷ (0x2000, codes "WDM_DRIVER") ∷ (0x4000, codes "GUARD_CF") ∷
    (0x8000, codes "TERMINAL_SERVER_AWARE") ∷ []

unfoldable pub section_flag_names : Names
section_flag_names =
    (8, codes "TYPE_NO_PAD") ∷ (0x20, codes "CNT_CODE") ∷ (0x40, codes "CNT_INITIALIZED_DATA") ∷
    (0x80, codes "CNT_UNINITIALIZED_DATA") ∷ (0x100, codes "LNK_OTHER") ∷ (0x200, codes "LNK_INFO") ∷
    (0x800, codes "LNK_REMOVE") ∷ (0x1000, codes "LNK_COMDAT") ∷ (0x8000, codes "GPREL") ∷ (0x20000, codes "MEM_PURGEABLE") ∷
    (0x40000, codes "MEM_LOCKED") ∷ (0x80000, codes "MEM_PRELOAD") ∷ (0x1000000, codes "LNK_NRELOC_OVFL") ∷
    (0x2000000, codes "MEM_DISCARDABLE") ∷ (0x4000000, codes "MEM_NOT_CACHED") ∷ (0x8000000, codes "MEM_NOT_PAGED") ∷
    (0x10000000, codes "MEM_SHARED") ∷ (0x20000000, codes "MEM_EXECUTE") ∷ (0x40000000, codes "MEM_READ") ∷
    (0x80000000, codes "MEM_WRITE") ∷ []

-- the names of a field's flags
abbrev pub flag_names : FlagKind → Names
flag_names File = characteristic_names
flag_names Dll = dll_characteristic_names
flag_names Section = section_flag_names

unfoldable pub directory_names : Names
directory_names =
    (0, codes "export") ∷ (1, codes "import") ∷ (2, codes "resource") ∷ (3, codes "exception") ∷ (4, codes "certificate") ∷
    (5, codes "base relocation") ∷ (6, codes "debug") ∷ (7, codes "architecture") ∷ (8, codes "global pointer") ∷
    (9, codes "TLS") ∷ (0xa, codes "load configuration") ∷ (0xb, codes "bound import") ∷ (0xc, codes "import address") ∷
    (0xd, codes "delay import") ∷ (0xe, codes "CLR") ∷ (0xf, codes "reserved") ∷ []
