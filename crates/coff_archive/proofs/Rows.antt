-- Rows of the definitions, by small files worked out by hand and by an object of llvm-dlltool.
use Rattle.std.proofs.Common.{◌≡◌, ℕ, ◌++◌, codes, refl, true, false, List, [], ◌∷◌, length, Some, None}
use Rattle.std.specs.Prelude.{Ok, Err}
use Rattle.bstr.specs.Bytes.{is_in}
use Rattle.pe_view.specs.declared.fault.Place.TheVariants.{File}
use Rattle.pe_view.specs.Faults.{first_standing}
use Rattle.coff_archive.specs.Bytes.{number_in, decimal, big}
use Rattle.coff_archive.specs.Imports.{field, import_of, import_tests, import_name}
use Rattle.coff_archive.specs.Members.{members, thinness, date_of, user_of, group_of, mode_of}
use Rattle.coff_archive.specs.Named.{named_at}
use Rattle.coff_archive.specs.Names.{name_of}
use Rattle.coff_archive.specs.Symbols.{offset_count, symbol_count, offset_of, symbol_member, symbols, is_cut}
use Rattle.coff_archive.specs.declared.linker.Linker.TheVariants.{First, Second}

-- a size, filled up with blanks
row_decimal : decimal (codes "12        ") ≡ Some 12
row_decimal = refl

-- ten nines
row_ten_nines : decimal (codes "9999999999") ≡ Some 9999999999
row_ten_nines = refl

-- no digit
row_no_digits : decimal (codes "          ") ≡ None
row_no_digits = refl

-- a sign is no digit
row_negative : decimal (codes "-1        ") ≡ None
row_negative = refl

-- a digit behind a blank
row_blank_between : decimal (codes "1 2       ") ≡ None
row_blank_between = refl

-- the highest byte first
row_big : big (9 ∷ 0 ∷ 0 ∷ 1 ∷ 2 ∷ []) 1 ≡ 258
row_big = refl

-- a mode
row_octal : number_in 8 (codes "100644  ") ≡ Some 33188
row_octal = refl

row_no_octal : number_in 8 (codes "100684  ") ≡ None
row_no_octal = refl

-- each field of a header has its place and its length
abbrev full_fields : List ℕ
full_fields = codes "!<arch>\n" ++ codes "name/           123456789012654321765432123456701         `\n" ++ codes "x"

row_date : date_of full_fields 8 ≡ Some 123456789012
row_date = refl

row_user : user_of full_fields 8 ≡ Some 654321
row_user = refl

row_group : group_of full_fields 8 ≡ Some 765432
row_group = refl

row_mode : mode_of full_fields 8 ≡ Some 2739128
row_mode = refl

-- two members, the first of an odd size
row_members : members false (codes "!<arch>\n"
    ++ codes "a.o/            0           0     0     644     3         `\n"
    ++ codes "abc\n" ++ codes "b.o/            0           0     0     644     2         `\n"
    ++ codes "de")
    ≡ Ok (record { offset = 8; field = (codes "a.o/            "); size = 3; bytes = 97 ∷ 98 ∷ 99 ∷ [] })
    ∷ Ok (record { offset = 72; field = (codes "b.o/            "); size = 2; bytes = 100 ∷ 101 ∷ [] }) ∷ []
row_members = refl

-- a last member of an odd size, with nothing behind it
row_no_pad : members false (codes "!<arch>\n" ++ codes "a.o/            0           0     0     644     1         `\n" ++ codes "x")
    ≡ Ok (record { offset = 8; field = (codes "a.o/            "); size = 1; bytes = 120 ∷ [] }) ∷ []
row_no_pad = refl

-- a header that passes the file
row_short_header : members false (codes "!<arch>\n" ++ codes "aaaaaaaaaaaaaaaaaaaaaaaaaaaaaaaaaaaaaaaaaaaaaaaaaaaaaaaaaaa")
    ≡ Err (record { number = 301; image = 0; place = File 8 }) ∷ []
row_short_header = refl

-- a header with another end
row_other_mark : members false (codes "!<arch>\n" ++ codes "a.o/            0           0     0     644     0         ``")
    ≡ Err (record { number = 301; image = 0; place = File 8 }) ∷ []
row_other_mark = refl

-- a size that is no number
row_no_size : members false (codes "!<arch>\n" ++ codes "a.o/            0           0     0     644     x         `\n")
    ≡ Err (record { number = 302; image = 0; place = File 8 }) ∷ []
row_no_size = refl

-- a member that passes the file by one byte
row_past : members false (codes "!<arch>\n" ++ codes "a.o/            0           0     0     644     3         `\n" ++ codes "ab")
    ≡ Err (record { number = 303; image = 0; place = File 8 }) ∷ []
row_past = refl

-- members of no bytes
row_empty_members : length (members false (codes "!<arch>\n"
    ++ codes "a.o/            0           0     0     644     0         `\n"
    ++ codes "a.o/            0           0     0     644     0         `\n"
    ++ codes "a.o/            0           0     0     644     0         `\n"))
    ≡ 3
row_empty_members = refl

-- a member of a thin archive has its bytes elsewhere
row_thin : members true (codes "!<thin>\n"
    ++ codes "a.o/            0           0     0     644     7         `\n"
    ++ codes "//              0           0     0     644     2         `\n"
    ++ codes "x\n")
    ≡ Ok (record { offset = 8; field = (codes "a.o/            "); size = 7; bytes = [] })
    ∷ Ok (record { offset = 68; field = (codes "//              "); size = 2; bytes = 120 ∷ 10 ∷ [] }) ∷ []
row_thin = refl

-- neither signature
row_thinness : thinness (codes "!<arch>" ++ (13 ∷ [])) ≡ None
row_thinness = refl

-- a name that `/` ends
row_name : name_of ([]) (record { offset = 8; field = (codes "a b.o/          "); size = 0; bytes = [] })
    ≡ Some (97 ∷ 32 ∷ 98 ∷ 46 ∷ 111 ∷ [])
row_name = refl

-- a name that blanks end
row_bsd_name : name_of ([]) (record { offset = 8; field = (codes "a.o             "); size = 0; bytes = [] }) ≡ Some (97 ∷ 46 ∷ 111 ∷ [])
row_bsd_name = refl

-- a member of the archive itself
row_special_name : name_of ([]) (record { offset = 8; field = (codes "//              "); size = 0; bytes = [] }) ≡ Some (47 ∷ 47 ∷ [])
row_special_name = refl

-- a name in the member, filled up with zero bytes
row_inside : name_of ([]) (record { offset = 8; field = (codes "#1/4            "); size = 8; bytes = ((97 ∷ 98 ∷ 0 ∷ 0 ∷ []) ++ codes "rest") })
    ≡ Some (97 ∷ 98 ∷ [])
row_inside = refl

-- a name longer than the member
row_inside_past : name_of ([]) (record { offset = 8; field = (codes "#1/4            "); size = 3; bytes = 97 ∷ 98 ∷ 99 ∷ [] }) ≡ None
row_inside_past = refl

-- by ordinal
row_by_ordinal : import_name (record { machine = 0x14c; time_stamp = 0; ordinal = 1; kind = 0; name_type = 0; symbol = 95 ∷ 102 ∷ []; «module» = []; export = [] })
    ≡ None
row_by_ordinal = refl

-- the symbol
row_by_name : import_name (record { machine = 0x14c; time_stamp = 0; ordinal = 1; kind = 0; name_type = 1; symbol = 95 ∷ 102 ∷ []; «module» = []; export = [] })
    ≡ Some (95 ∷ 102 ∷ [])
row_by_name = refl

-- one mark less
row_no_prefix : import_name (record { machine = 0x14c; time_stamp = 0; ordinal = 1; kind = 0; name_type = 2; symbol = 95 ∷ 95 ∷ 102 ∷ 64 ∷ 52 ∷ []; «module» = []; export = [] })
    ≡ Some (95 ∷ 102 ∷ 64 ∷ 52 ∷ [])
row_no_prefix = refl

-- and up to `@`
row_undecorate : import_name (record { machine = 0x14c; time_stamp = 0; ordinal = 1; kind = 0; name_type = 3; symbol = 95 ∷ 102 ∷ 64 ∷ 52 ∷ []; «module» = []; export = [] })
    ≡ Some (102 ∷ [])
row_undecorate = refl

-- the third text
row_export_as : import_name (record { machine = 0x14c; time_stamp = 0; ordinal = 1; kind = 0; name_type = 4; symbol = 95 ∷ 102 ∷ []; «module» = []; export = 103 ∷ [] })
    ≡ Some (103 ∷ [])
row_export_as = refl

-- a long name that `/` and a line end end
row_gnu_long : name_of (codes "one.o/\n" ++ codes "two.o/\n") (record { offset = 8; field = (codes "/7              "); size = 0; bytes = [] })
    ≡ Some (116 ∷ 119 ∷ 111 ∷ 46 ∷ 111 ∷ [])
unfolding is_in
row_gnu_long = refl

-- a long name that a zero byte ends
row_ms_long : name_of (codes "one.o" ++ (0 ∷ []) ++ codes "two.o" ++ (0 ∷ [])) (record { offset = 8; field = (codes "/6              "); size = 0; bytes = [] })
    ≡ Some (116 ∷ 119 ∷ 111 ∷ 46 ∷ 111 ∷ [])
unfolding is_in
row_ms_long = refl

-- an offset past the long names
row_long_past : name_of (codes "one.o/\n") (record { offset = 8; field = (codes "/7              "); size = 0; bytes = [] }) ≡ None
unfolding is_in
row_long_past = refl

-- a long name without an end
row_long_endless : name_of (codes "one.o/\n" ++ codes "two") (record { offset = 8; field = (codes "/7              "); size = 0; bytes = [] })
    ≡ None
unfolding is_in
row_long_endless = refl

-- the first linker member
row_first : symbols First (0 ∷ 0 ∷ 0 ∷ 2 ∷ 0 ∷ 0 ∷ 0 ∷ 72 ∷ 0 ∷ 0 ∷ 0 ∷ 144 ∷ 102 ∷ 0 ∷ 103 ∷ 103 ∷ 0 ∷ [])
    ≡ record { name = 102 ∷ []; member = Some 0x48 } ∷ record { name = 103 ∷ 103 ∷ []; member = Some 0x90 } ∷ []
unfolding offset_count symbol_count offset_of symbol_member
row_first = refl

-- the second linker member; its third index leads to no offset
row_second : symbols Second (2 ∷ 0 ∷ 0 ∷ 0 ∷ 72 ∷ 0 ∷ 0 ∷ 0 ∷ 144 ∷ 0 ∷ 0 ∷ 0 ∷ 3 ∷ 0 ∷ 0 ∷ 0 ∷ 2 ∷ 0 ∷ 1 ∷ 0 ∷ 3 ∷ 0 ∷ 102 ∷ 0 ∷ 103 ∷ 103 ∷ 0 ∷ 104 ∷ 0 ∷ [])
    ≡ record { name = 102 ∷ []; member = Some 0x90 } ∷ record { name = 103 ∷ 103 ∷ []; member = Some 0x48 } ∷ record { name = 104 ∷ []; member = None } ∷ []
unfolding offset_count symbol_count offset_of symbol_member
row_second = refl

-- 2^32 - 1 symbols in 100 bytes
row_many : symbols First (255 ∷ 255 ∷ 255 ∷ 255 ∷ 0 ∷ 0 ∷ 0 ∷ 0 ∷ 0 ∷ 0 ∷ 0 ∷ 0 ∷ 0 ∷ 0 ∷ 0 ∷ 0 ∷ 0 ∷ 0 ∷ 0 ∷ 0 ∷ 0 ∷ 0 ∷ 0 ∷ 0 ∷ 0 ∷ 0 ∷ 0 ∷ 0 ∷ 0 ∷ 0 ∷ 0 ∷ 0 ∷ 0 ∷ 0 ∷ 0 ∷ 0 ∷ 0 ∷ 0 ∷ 0 ∷ 0 ∷ 0 ∷ 0 ∷ 0 ∷ 0 ∷ 0 ∷ 0 ∷ 0 ∷ 0 ∷ 0 ∷ 0 ∷ 0 ∷ 0 ∷ 0 ∷ 0 ∷ 0 ∷ 0 ∷ 0 ∷ 0 ∷ 0 ∷ 0 ∷ 0 ∷ 0 ∷ 0 ∷ 0 ∷ 0 ∷ 0 ∷ 0 ∷ 0 ∷ 0 ∷ 0 ∷ 0 ∷ 0 ∷ 0 ∷ 0 ∷ 0 ∷ 0 ∷ 0 ∷ 0 ∷ 0 ∷ 0 ∷ 0 ∷ 0 ∷ 0 ∷ 0 ∷ 0 ∷ 0 ∷ 0 ∷ 0 ∷ 0 ∷ 0 ∷ 0 ∷ 0 ∷ 0 ∷ 0 ∷ 0 ∷ 0 ∷ 0 ∷ 0 ∷ 0 ∷ 0 ∷ [])
    ≡ []
unfolding offset_count symbol_count offset_of symbol_member
row_many = refl

-- they pass their table
row_many_cut : is_cut First (255 ∷ 255 ∷ 255 ∷ 255 ∷ 0 ∷ 0 ∷ 0 ∷ 0 ∷ 0 ∷ 0 ∷ 0 ∷ 0 ∷ 0 ∷ 0 ∷ 0 ∷ 0 ∷ 0 ∷ 0 ∷ 0 ∷ 0 ∷ 0 ∷ 0 ∷ 0 ∷ 0 ∷ 0 ∷ 0 ∷ 0 ∷ 0 ∷ 0 ∷ 0 ∷ 0 ∷ 0 ∷ 0 ∷ 0 ∷ 0 ∷ 0 ∷ 0 ∷ 0 ∷ 0 ∷ 0 ∷ 0 ∷ 0 ∷ 0 ∷ 0 ∷ 0 ∷ 0 ∷ 0 ∷ 0 ∷ 0 ∷ 0 ∷ 0 ∷ 0 ∷ 0 ∷ 0 ∷ 0 ∷ 0 ∷ 0 ∷ 0 ∷ 0 ∷ 0 ∷ 0 ∷ 0 ∷ 0 ∷ 0 ∷ 0 ∷ 0 ∷ 0 ∷ 0 ∷ 0 ∷ 0 ∷ 0 ∷ 0 ∷ 0 ∷ 0 ∷ 0 ∷ 0 ∷ 0 ∷ 0 ∷ 0 ∷ 0 ∷ 0 ∷ 0 ∷ 0 ∷ 0 ∷ 0 ∷ 0 ∷ 0 ∷ 0 ∷ 0 ∷ 0 ∷ 0 ∷ 0 ∷ 0 ∷ 0 ∷ 0 ∷ 0 ∷ 0 ∷ 0 ∷ 0 ∷ 0 ∷ [])
    ≡ true
unfolding offset_count symbol_count offset_of symbol_member
row_many_cut = refl

-- a name without an end: the symbols before it
row_endless : length (symbols First (0 ∷ 0 ∷ 0 ∷ 2 ∷ 0 ∷ 0 ∷ 0 ∷ 8 ∷ 0 ∷ 0 ∷ 0 ∷ 8 ∷ 102 ∷ 0 ∷ 103 ∷ [])) ≡ 1
unfolding offset_count symbol_count offset_of symbol_member
row_endless = refl

-- the table is cut
row_endless_cut : is_cut First (0 ∷ 0 ∷ 0 ∷ 2 ∷ 0 ∷ 0 ∷ 0 ∷ 8 ∷ 0 ∷ 0 ∷ 0 ∷ 8 ∷ 102 ∷ 0 ∷ 103 ∷ []) ≡ true
unfolding offset_count symbol_count offset_of symbol_member
row_endless_cut = refl

-- the table is not cut
row_whole : is_cut First (0 ∷ 0 ∷ 0 ∷ 2 ∷ 0 ∷ 0 ∷ 0 ∷ 72 ∷ 0 ∷ 0 ∷ 0 ∷ 144 ∷ 102 ∷ 0 ∷ 103 ∷ 103 ∷ 0 ∷ []) ≡ false
unfolding offset_count symbol_count offset_of symbol_member
row_whole = refl

-- of llvm-dlltool, for i386
row_import : import_of ((0 ∷ 0 ∷ 255 ∷ 255 ∷ 0 ∷ 0 ∷ 76 ∷ 1 ∷ 0 ∷ 0 ∷ 0 ∷ 0 ∷ 16 ∷ 0 ∷ 0 ∷ 0 ∷ 0 ∷ 0 ∷ 8 ∷ 0 ∷ []) ++ codes "_plain" ++ (0 ∷ []) ++ codes "some.dll" ++ (0 ∷ []))
    ≡ record { machine = 0x14c; time_stamp = 0; ordinal = 0; kind = 0; name_type = 2; symbol = (codes "_plain"); «module» = (codes "some.dll"); export = [] }
unfolding field
row_import = refl

-- none of its tests stands
row_import_ok : first_standing (import_tests 8 ((0 ∷ 0 ∷ 255 ∷ 255 ∷ 0 ∷ 0 ∷ 76 ∷ 1 ∷ 0 ∷ 0 ∷ 0 ∷ 0 ∷ 16 ∷ 0 ∷ 0 ∷ 0 ∷ 0 ∷ 0 ∷ 8 ∷ 0 ∷ []) ++ codes "_plain" ++ (0 ∷ []) ++ codes "some.dll" ++ (0 ∷ [])))
    ≡ None
unfolding field
row_import_ok = refl

-- texts that pass the object
row_import_cut : first_standing (import_tests 8 ((0 ∷ 0 ∷ 255 ∷ 255 ∷ 0 ∷ 0 ∷ 76 ∷ 1 ∷ 0 ∷ 0 ∷ 0 ∷ 0 ∷ 16 ∷ 0 ∷ 0 ∷ 0 ∷ 0 ∷ 0 ∷ 8 ∷ 0 ∷ []) ++ codes "_plain" ++ (0 ∷ []) ++ codes "some.dll"))
    ≡ Some (record { number = 331; image = 0; place = File 8 })
unfolding field
row_import_cut = refl

-- by name: a long one that another begins with, the second of two, and no third
abbrev named_long : List ℕ
named_long = codes "ab/\n" ++ codes "abc/\n"

row_named_long : named_at named_long (codes "ab") 0
    (Ok (record { offset = 8; field = codes "/4              "; size = 0; bytes = [] }) ∷ Ok (record { offset = 68; field = codes "/0              "; size = 0; bytes = [] }) ∷ [])
    ≡ Some (Ok (record { offset = 68; field = codes "/0              "; size = 0; bytes = [] }))
unfolding is_in
row_named_long = refl

row_named_second : named_at [] (codes "a.o") 1
    (Ok (record { offset = 8; field = codes "a.o/            "; size = 0; bytes = [] }) ∷ Ok (record { offset = 68; field = codes "a.o/            "; size = 1; bytes = 1 ∷ [] }) ∷ [])
    ≡ Some (Ok (record { offset = 68; field = codes "a.o/            "; size = 1; bytes = 1 ∷ [] }))
row_named_second = refl

row_named_third : named_at [] (codes "a.o") 2
    (Ok (record { offset = 8; field = codes "a.o/            "; size = 0; bytes = [] }) ∷ Err (record { number = 302; image = 0; place = File 68 }) ∷ [])
    ≡ Some (Err (record { number = 302; image = 0; place = File 68 }))
row_named_third = refl

row_not_named : named_at [] (codes "a") 0 (Ok (record { offset = 8; field = codes "a.o/            "; size = 0; bytes = [] }) ∷ []) ≡ None
row_not_named = refl
