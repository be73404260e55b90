-- The fields of the load configuration, in order ("PE Format", Load Configuration Layout). Older ones have fewer.
use Rattle.std.specs.Prelude.{List, [], ◌∷◌}
use Rattle.pe_records.specs.Structure.{field}
use Rattle.pe_records.specs.declared.structure.Field.{Field}
use Rattle.pe_records.specs.declared.structure.Width.TheVariants.{Two, Four, Address}

abbrev pub load_fields : List Field
load_fields =
    field 0 0 Four  -- Size
    ∷ field 4 4 Four  -- TimeDateStamp
    ∷ field 8 8 Two  -- MajorVersion
    ∷ field 10 10 Two  -- MinorVersion
    ∷ field 12 12 Four  -- GlobalFlagsClear
    ∷ field 16 16 Four  -- GlobalFlagsSet
    ∷ field 20 20 Four  -- CriticalSectionDefaultTimeout
    ∷ field 24 24 Address  -- DeCommitFreeBlockThreshold
    ∷ field 28 32 Address  -- DeCommitTotalFreeThreshold
    ∷ field 32 40 Address  -- LockPrefixTable
    ∷ field 36 48 Address  -- MaximumAllocationSize
    ∷ field 40 56 Address  -- VirtualMemoryThreshold
    ∷ field 48 64 Address  -- ProcessAffinityMask
    ∷ field 44 72 Four  -- ProcessHeapFlags
    ∷ field 52 76 Two  -- CSDVersion
    ∷ field 54 78 Two  -- DependentLoadFlags
    ∷ field 56 80 Address  -- EditList
    ∷ field 60 88 Address  -- SecurityCookie
    ∷ field 64 96 Address  -- SEHandlerTable
    ∷ field 68 104 Address  -- SEHandlerCount
    ∷ field 72 112 Address  -- GuardCFCheckFunctionPointer
    ∷ field 76 120 Address  -- GuardCFDispatchFunctionPointer
    ∷ field 80 128 Address  -- GuardCFFunctionTable
    ∷ field 84 136 Address  -- GuardCFFunctionCount
    ∷ field 88 144 Four  -- GuardFlags
    ∷ field 92 148 Two  -- CodeIntegrity.Flags
    ∷ field 94 150 Two  -- CodeIntegrity.Catalog
    ∷ field 96 152 Four  -- CodeIntegrity.CatalogOffset
    ∷ field 100 156 Four  -- CodeIntegrity.Reserved
    ∷ field 104 160 Address  -- GuardAddressTakenIatEntryTable
    ∷ field 108 168 Address  -- GuardAddressTakenIatEntryCount
    ∷ field 112 176 Address  -- GuardLongJumpTargetTable
    ∷ field 116 184 Address  -- GuardLongJumpTargetCount
    ∷ field 120 192 Address  -- DynamicValueRelocTable
    ∷ field 124 200 Address  -- CHPEMetadataPointer
    ∷ field 128 208 Address  -- GuardRFFailureRoutine
    ∷ field 132 216 Address  -- GuardRFFailureRoutineFunctionPointer
    ∷ field 136 224 Four  -- DynamicValueRelocTableOffset
    ∷ field 140 228 Two  -- DynamicValueRelocTableSection
    ∷ field 142 230 Two  -- Reserved2
    ∷ field 144 232 Address  -- GuardRFVerifyStackPointerFunctionPointer
    ∷ field 148 240 Four  -- HotPatchTableOffset
    ∷ field 152 244 Four  -- Reserved3
    ∷ field 156 248 Address  -- EnclaveConfigurationPointer
    ∷ field 160 256 Address  -- VolatileMetadataPointer
    ∷ field 164 264 Address  -- GuardEHContinuationTable
    ∷ field 168 272 Address  -- GuardEHContinuationCount
    ∷ field 172 280 Address  -- GuardXFGCheckFunctionPointer
    ∷ field 176 288 Address  -- GuardXFGDispatchFunctionPointer
    ∷ field 180 296 Address  -- GuardXFGTableDispatchFunctionPointer
    ∷ field 184 304 Address  -- CastGuardOsDeterminedFailureMode
    ∷ field 188 312 Address  -- GuardMemcpyFunctionPointer
    ∷ []
