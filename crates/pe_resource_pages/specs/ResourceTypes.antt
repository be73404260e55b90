-- The names of types of resources, by number. The code has its own copy, which is proved equal to these.
use Rattle.std.specs.Prelude.{[], ◌∷◌, codes}
use Rattle.pe_head.specs.Names.{Names}

-- winuser.h of the Windows SDK: RT_CURSOR and so on
unfoldable pub resource_type_names : Names
resource_type_names =
    (1, codes "cursor") ∷ (2, codes "bitmap") ∷ (3, codes "icon") ∷ (4, codes "menu") ∷ (5, codes "dialog") ∷
    (6, codes "string") ∷ (7, codes "fontdir") ∷ (8, codes "font") ∷ (9, codes "accelerator") ∷ (10, codes "rcdata") ∷
    (11, codes "messagetable") ∷ (12, codes "group_cursor") ∷ (14, codes "group_icon") ∷ (16, codes "version") ∷
    (17, codes "dlginclude") ∷ (19, codes "plugplay") ∷ (20, codes "vxd") ∷ (21, codes "anicursor") ∷ (22, codes "aniicon") ∷
    (23, codes "html") ∷ (24, codes "manifest") ∷ []
