-- The keys of the fields of structures in a line of JSON, by number. The code has its own copy, which is proved equal to these.
use Rattle.std.specs.Prelude.{[], ◌∷◌, codes}
use Rattle.pe_head.specs.Names.{Names}

-- "PE Format", Load Configuration Layout: the names in snake case
unfoldable pub load_keys : Names
load_keys =
    (0, codes "size") ∷ (1, codes "time_date_stamp") ∷ (2, codes "major_version") ∷ (3, codes "minor_version") ∷
    (4, codes "global_flags_clear") ∷ (5, codes "global_flags_set") ∷ (6, codes "critical_section_default_timeout") ∷
    (7, codes "de_commit_free_block_threshold") ∷ (8, codes "de_commit_total_free_threshold") ∷ (9, codes "lock_prefix_table") ∷
    (10, codes "maximum_allocation_size") ∷ (11, codes "virtual_memory_threshold") ∷ (12, codes "process_affinity_mask") ∷
    (13, codes "process_heap_flags") ∷ (14, codes "csd_version") ∷ (15, codes "dependent_load_flags") ∷
    (16, codes "edit_list") ∷ (17, codes "security_cookie") ∷ (18, codes "se_handler_table") ∷ (19, codes "se_handler_count") ∷
    (20, codes "guard_cf_check_function_pointer") ∷ (21, codes "guard_cf_dispatch_function_pointer") ∷
    (22, codes "guard_cf_function_table") ∷ (23, codes "guard_cf_function_count") ∷ (24, codes "guard_flags") ∷
    (25, codes "code_integrity_flags") ∷ (26, codes "code_integrity_catalog") ∷ (27, codes "code_integrity_catalog_offset") ∷
    (28, codes "code_integrity_reserved") ∷ (29, codes "guard_address_taken_iat_entry_table") ∷
    (30, codes "guard_address_taken_iat_entry_count") ∷ (31, codes "guard_long_jump_target_table") ∷
    (32, codes "guard_long_jump_target_count") ∷ (33, codes "dynamic_value_reloc_table") ∷ (34, codes "chpe_metadata_pointer") ∷
    (35, codes "guard_rf_failure_routine") ∷ (36, codes "guard_rf_failure_routine_function_pointer") ∷
    (37, codes "dynamic_value_reloc_table_offset") ∷ (38, codes "dynamic_value_reloc_table_section") ∷ (39, codes "reserved2") ∷
    (40, codes "guard_rf_verify_stack_pointer_function_pointer") ∷ (41, codes "hot_patch_table_offset") ∷
    (42, codes "reserved3") ∷ (43, codes "enclave_configuration_pointer") ∷ (44, codes "volatile_metadata_pointer") ∷
    (45, codes "guard_eh_continuation_table") ∷ (46, codes "guard_eh_continuation_count") ∷
    (47, codes "guard_xfg_check_function_pointer") ∷ (48, codes "guard_xfg_dispatch_function_pointer") ∷
    (49, codes "guard_xfg_table_dispatch_function_pointer") ∷ (50, codes "cast_guard_os_determined_failure_mode") ∷
    (51, codes "guard_memcpy_function_pointer") ∷ []

-- ECMA-335, II.25.3.3: the names in snake case, and for directories those of the RVA and of the size
unfoldable pub clr_keys : Names
clr_keys =
    (0, codes "cb") ∷ (1, codes "major_runtime_version") ∷ (2, codes "minor_runtime_version") ∷ (3, codes "meta_data_rva") ∷
    (4, codes "meta_data_size") ∷ (5, codes "flags") ∷ (6, codes "entry_point_token") ∷ (7, codes "resources_rva") ∷
    (8, codes "resources_size") ∷ (9, codes "strong_name_signature_rva") ∷ (10, codes "strong_name_signature_size") ∷
    (11, codes "code_manager_table_rva") ∷ (12, codes "code_manager_table_size") ∷ (13, codes "vtable_fixups_rva") ∷
    (14, codes "vtable_fixups_size") ∷ (15, codes "export_address_table_jumps_rva") ∷
    (16, codes "export_address_table_jumps_size") ∷ (17, codes "managed_native_header_rva") ∷
    (18, codes "managed_native_header_size") ∷ []
