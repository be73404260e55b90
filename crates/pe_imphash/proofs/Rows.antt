-- Imports and their texts, as pefile writes them.
use Rattle.std.proofs.Common.{◌≡◌, refl}
use Rattle.std.specs.Prelude.{[], ◌∷◌, codes, Some, None}
use Rattle.pe_tables.specs.Key.{Ordinal, Name}
use Rattle.pe_tables.specs.Imports.{Import}
use Rattle.std.specs.Fmt.{digits}
use Rattle.md5.specs.Md5.{block_words, rounds, compress, hash_after, digest_bytes, md5}
use Rattle.pe_imphash.specs.Oleaut32.{oleaut32_names_1, oleaut32_names_7}
use Rattle.pe_imphash.specs.Winsock.{winsock_names_2}
use Rattle.pe_imphash.specs.ImportText.{import_text, import_hash_within, import_hash_of}

abbrev exit_process : Import
exit_process = record { module_name = codes "KERNEL32.dll"; key = Name (codes "ExitProcess"); slot = 0x2000 }

abbrev winsock : Import
winsock = record { module_name = codes "WS2_32.dll"; key = Ordinal 115; slot = 0x2008 }

row_name : import_text exit_process ≡ codes "kernel32.exitprocess"
row_name = refl

row_ordinal : import_text winsock ≡ codes "ws2_32.wsastartup"
unfolding winsock_names_2
row_ordinal = refl

-- the last of its names, and an ordinal without one
row_oleaut32 : import_text (record { module_name = codes "OLEAUT32.dll"; key = Ordinal 443; slot = 0 }) ≡ codes "oleaut32.unregistertypelibforuser"
unfolding oleaut32_names_7
row_oleaut32 = refl

row_no_name : import_text (record { module_name = codes "OleAut32.DLL"; key = Ordinal 1; slot = 0 }) ≡ codes "oleaut32.ord1"
unfolding oleaut32_names_1 digits
row_no_name = refl

-- a module whose ordinals have no names, and an extension that stays
row_other : import_text (record { module_name = codes "MFC42.DLL"; key = Ordinal 6394; slot = 0 }) ≡ codes "mfc42.ord6394"
unfolding digits
row_other = refl

row_extension : import_text (record { module_name = codes "winspool.drv"; key = Name (codes "OpenPrinterA"); slot = 0 }) ≡ codes "winspool.drv.openprintera"
row_extension = refl

-- names with a blank
row_invalid : import_text (record { module_name = codes "a b.dll"; key = Name (codes "f g"); slot = 0 }) ≡ codes "*invalid*.*invalid*"
row_invalid = refl

-- the digest of "kernel32.exitprocess,ws2_32.wsastartup"
row_hash : import_hash_of (exit_process ∷ winsock ∷ []) ≡ Some (0x60 ∷ 0x81 ∷ 0x5f ∷ 0x7d ∷ 0x8c ∷ 0xbc ∷ 0x45 ∷ 0xb7 ∷ 0x6f ∷ 0xd9 ∷ 0xda ∷ 0x88 ∷ 0x31 ∷ 0x0 ∷ 0x62 ∷ 0x24 ∷ [])
unfolding winsock_names_2 block_words rounds compress hash_after digest_bytes md5
row_hash = refl

-- that text has 38 bytes
row_within : import_hash_within 38 (exit_process ∷ winsock ∷ []) ≡ import_hash_of (exit_process ∷ winsock ∷ [])
unfolding winsock_names_2
row_within = refl

row_past : import_hash_within 37 (exit_process ∷ winsock ∷ []) ≡ None
unfolding winsock_names_2
row_past = refl

row_none : import_hash_within 37 [] ≡ None
row_none = refl
