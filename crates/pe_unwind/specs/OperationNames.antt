-- The names of unwind operations and of registers, by number. The code has its own copy, which is proved equal to these.
use Rattle.std.specs.Prelude.{[], ◌∷◌, codes}
use Rattle.pe_head.specs.Names.{Names}

-- without UWOP_ (x64 exception handling, Unwind operation code); EPILOG by the headers of Wine
unfoldable pub operation_names : Names
operation_names =
    (0, codes "PUSH_NONVOL") ∷ (1, codes "ALLOC_LARGE") ∷ (2, codes "ALLOC_SMALL") ∷ (3, codes "SET_FPREG") ∷
    (4, codes "SAVE_NONVOL") ∷ (5, codes "SAVE_NONVOL_FAR") ∷ (6, codes "EPILOG") ∷ (8, codes "SAVE_XMM128") ∷
    (9, codes "SAVE_XMM128_FAR") ∷ (10, codes "PUSH_MACHFRAME") ∷ []

-- x64 exception handling, Operation info
unfoldable pub register_names : Names
register_names =
    (0, codes "RAX") ∷ (1, codes "RCX") ∷ (2, codes "RDX") ∷ (3, codes "RBX") ∷ (4, codes "RSP") ∷ (5, codes "RBP") ∷
    (6, codes "RSI") ∷ (7, codes "RDI") ∷ (8, codes "R8") ∷ (9, codes "R9") ∷ (10, codes "R10") ∷ (11, codes "R11") ∷
    (12, codes "R12") ∷ (13, codes "R13") ∷ (14, codes "R14") ∷ (15, codes "R15") ∷ []
