-- The names of types of debug data and of fields of the load configuration, by number. The code has its own copy, which is proved
-- equal to these.
use Rattle.std.specs.Prelude.{[], ◌∷◌, codes}
use Rattle.pe_head.specs.Names.{Names}

-- "PE Format", Debug Type; 12 to 15 by the headers of the Windows SDK, 17 and 19 by what uses them
unfoldable pub debug_type_names : Names
debug_type_names =
    (0, codes "UNKNOWN") ∷ (1, codes "COFF") ∷ (2, codes "CODEVIEW") ∷ (3, codes "FPO") ∷ (4, codes "MISC") ∷
    (5, codes "EXCEPTION") ∷ (6, codes "FIXUP") ∷ (7, codes "OMAP_TO_SRC") ∷ (8, codes "OMAP_FROM_SRC") ∷
    (9, codes "BORLAND") ∷ (10, codes "RESERVED10") ∷ (11, codes "CLSID") ∷ (12, codes "VC_FEATURE") ∷ (13, codes "POGO") ∷
    (14, codes "ILTCG") ∷ (15, codes "MPX") ∷ (16, codes "REPRO") ∷ (17, codes "EMBEDDED_PDB") ∷ (19, codes "PDBCHECKSUM") ∷
    (20, codes "EX_DLLCHARACTERISTICS") ∷ []

-- "PE Format", Load Configuration Layout
unfoldable pub load_field_names : Names
load_field_names =
    (0, codes "Size") ∷ (1, codes "TimeDateStamp") ∷ (2, codes "MajorVersion") ∷ (3, codes "MinorVersion") ∷
    (4, codes "GlobalFlagsClear") ∷ (5, codes "GlobalFlagsSet") ∷ (6, codes "CriticalSectionDefaultTimeout") ∷
    (7, codes "DeCommitFreeBlockThreshold") ∷ (8, codes "DeCommitTotalFreeThreshold") ∷ (9, codes "LockPrefixTable") ∷
    (10, codes "MaximumAllocationSize") ∷ (11, codes "VirtualMemoryThreshold") ∷ (12, codes "ProcessAffinityMask") ∷
    (13, codes "ProcessHeapFlags") ∷ (14, codes "CSDVersion") ∷ (15, codes "DependentLoadFlags") ∷ (16, codes "EditList") ∷
    (17, codes "SecurityCookie") ∷ (18, codes "SEHandlerTable") ∷ (19, codes "SEHandlerCount") ∷
    (20, codes "GuardCFCheckFunctionPointer") ∷ (21, codes "GuardCFDispatchFunctionPointer") ∷
    (22, codes "GuardCFFunctionTable") ∷ (23, codes "GuardCFFunctionCount") ∷ (24, codes "GuardFlags") ∷
    (25, codes "CodeIntegrity.Flags") ∷ (26, codes "CodeIntegrity.Catalog") ∷ (27, codes "CodeIntegrity.CatalogOffset") ∷
    (28, codes "CodeIntegrity.Reserved") ∷ (29, codes "GuardAddressTakenIatEntryTable") ∷
    (30, codes "GuardAddressTakenIatEntryCount") ∷ (31, codes "GuardLongJumpTargetTable") ∷
    (32, codes "GuardLongJumpTargetCount") ∷ (33, codes "DynamicValueRelocTable") ∷ (34, codes "CHPEMetadataPointer") ∷
    (35, codes "GuardRFFailureRoutine") ∷ (36, codes "GuardRFFailureRoutineFunctionPointer") ∷
    (37, codes "DynamicValueRelocTableOffset") ∷ (38, codes "DynamicValueRelocTableSection") ∷ (39, codes "Reserved2") ∷
    (40, codes "GuardRFVerifyStackPointerFunctionPointer") ∷ (41, codes "HotPatchTableOffset") ∷ (42, codes "Reserved3") ∷
    (43, codes "EnclaveConfigurationPointer") ∷ (44, codes "VolatileMetadataPointer") ∷
    (45, codes "GuardEHContinuationTable") ∷ (46, codes "GuardEHContinuationCount") ∷
    (47, codes "GuardXFGCheckFunctionPointer") ∷ (48, codes "GuardXFGDispatchFunctionPointer") ∷
    (49, codes "GuardXFGTableDispatchFunctionPointer") ∷ (50, codes "CastGuardOsDeterminedFailureMode") ∷
    (51, codes "GuardMemcpyFunctionPointer") ∷ []
