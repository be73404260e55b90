-- The names of the ordinals of oleaut32.dll in the list that import hashes are computed with.
use Rattle.std.specs.Prelude.{ℕ, nat_le, List, [], ◌∷◌, Option, codes, if◌then◌else◌}
use Rattle.pe_head.specs.Names.{Names, name_in}

-- ordinals 2 to 58
unfoldable pub oleaut32_names_1 : Names
oleaut32_names_1 =
    (2, codes "SysAllocString") ∷ (3, codes "SysReAllocString") ∷ (4, codes "SysAllocStringLen") ∷
    (5, codes "SysReAllocStringLen") ∷ (6, codes "SysFreeString") ∷ (7, codes "SysStringLen") ∷ (8, codes "VariantInit") ∷
    (9, codes "VariantClear") ∷ (10, codes "VariantCopy") ∷ (11, codes "VariantCopyInd") ∷ (12, codes "VariantChangeType") ∷
    (13, codes "VariantTimeToDosDateTime") ∷ (14, codes "DosDateTimeToVariantTime") ∷ (15, codes "SafeArrayCreate") ∷
    (16, codes "SafeArrayDestroy") ∷ (17, codes "SafeArrayGetDim") ∷ (18, codes "SafeArrayGetElemsize") ∷
    (19, codes "SafeArrayGetUBound") ∷ (20, codes "SafeArrayGetLBound") ∷ (21, codes "SafeArrayLock") ∷
    (22, codes "SafeArrayUnlock") ∷ (23, codes "SafeArrayAccessData") ∷ (24, codes "SafeArrayUnaccessData") ∷
    (25, codes "SafeArrayGetElement") ∷ (26, codes "SafeArrayPutElement") ∷ (27, codes "SafeArrayCopy") ∷
    (28, codes "DispGetParam") ∷ (29, codes "DispGetIDsOfNames") ∷ (30, codes "DispInvoke") ∷
    (31, codes "CreateDispTypeInfo") ∷ (32, codes "CreateStdDispatch") ∷ (33, codes "RegisterActiveObject") ∷
    (34, codes "RevokeActiveObject") ∷ (35, codes "GetActiveObject") ∷ (36, codes "SafeArrayAllocDescriptor") ∷
    (37, codes "SafeArrayAllocData") ∷ (38, codes "SafeArrayDestroyDescriptor") ∷ (39, codes "SafeArrayDestroyData") ∷
    (40, codes "SafeArrayRedim") ∷ (41, codes "SafeArrayAllocDescriptorEx") ∷ (42, codes "SafeArrayCreateEx") ∷
    (43, codes "SafeArrayCreateVectorEx") ∷ (44, codes "SafeArraySetRecordInfo") ∷ (45, codes "SafeArrayGetRecordInfo") ∷
    (46, codes "VarParseNumFromStr") ∷ (47, codes "VarNumFromParseNum") ∷ (48, codes "VarI2FromUI1") ∷
    (49, codes "VarI2FromI4") ∷ (50, codes "VarI2FromR4") ∷ (51, codes "VarI2FromR8") ∷ (52, codes "VarI2FromCy") ∷
    (53, codes "VarI2FromDate") ∷ (54, codes "VarI2FromStr") ∷ (55, codes "VarI2FromDisp") ∷ (56, codes "VarI2FromBool") ∷
    (57, codes "SafeArraySetIID") ∷ (58, codes "VarI4FromUI1") ∷ []

-- ordinals 59 to 115
unfoldable pub oleaut32_names_2 : Names
oleaut32_names_2 =
    (59, codes "VarI4FromI2") ∷ (60, codes "VarI4FromR4") ∷ (61, codes "VarI4FromR8") ∷ (62, codes "VarI4FromCy") ∷
    (63, codes "VarI4FromDate") ∷ (64, codes "VarI4FromStr") ∷ (65, codes "VarI4FromDisp") ∷ (66, codes "VarI4FromBool") ∷
    (67, codes "SafeArrayGetIID") ∷ (68, codes "VarR4FromUI1") ∷ (69, codes "VarR4FromI2") ∷ (70, codes "VarR4FromI4") ∷
    (71, codes "VarR4FromR8") ∷ (72, codes "VarR4FromCy") ∷ (73, codes "VarR4FromDate") ∷ (74, codes "VarR4FromStr") ∷
    (75, codes "VarR4FromDisp") ∷ (76, codes "VarR4FromBool") ∷ (77, codes "SafeArrayGetVartype") ∷
    (78, codes "VarR8FromUI1") ∷ (79, codes "VarR8FromI2") ∷ (80, codes "VarR8FromI4") ∷ (81, codes "VarR8FromR4") ∷
    (82, codes "VarR8FromCy") ∷ (83, codes "VarR8FromDate") ∷ (84, codes "VarR8FromStr") ∷ (85, codes "VarR8FromDisp") ∷
    (86, codes "VarR8FromBool") ∷ (87, codes "VarFormat") ∷ (88, codes "VarDateFromUI1") ∷ (89, codes "VarDateFromI2") ∷
    (90, codes "VarDateFromI4") ∷ (91, codes "VarDateFromR4") ∷ (92, codes "VarDateFromR8") ∷ (93, codes "VarDateFromCy") ∷
    (94, codes "VarDateFromStr") ∷ (95, codes "VarDateFromDisp") ∷ (96, codes "VarDateFromBool") ∷
    (97, codes "VarFormatDateTime") ∷ (98, codes "VarCyFromUI1") ∷ (99, codes "VarCyFromI2") ∷ (100, codes "VarCyFromI4") ∷
    (101, codes "VarCyFromR4") ∷ (102, codes "VarCyFromR8") ∷ (103, codes "VarCyFromDate") ∷ (104, codes "VarCyFromStr") ∷
    (105, codes "VarCyFromDisp") ∷ (106, codes "VarCyFromBool") ∷ (107, codes "VarFormatNumber") ∷
    (108, codes "VarBstrFromUI1") ∷ (109, codes "VarBstrFromI2") ∷ (110, codes "VarBstrFromI4") ∷
    (111, codes "VarBstrFromR4") ∷ (112, codes "VarBstrFromR8") ∷ (113, codes "VarBstrFromCy") ∷
    (114, codes "VarBstrFromDate") ∷ (115, codes "VarBstrFromDisp") ∷ []

-- ordinals 116 to 172
unfoldable pub oleaut32_names_3 : Names
oleaut32_names_3 =
    (116, codes "VarBstrFromBool") ∷ (117, codes "VarFormatPercent") ∷ (118, codes "VarBoolFromUI1") ∷
    (119, codes "VarBoolFromI2") ∷ (120, codes "VarBoolFromI4") ∷ (121, codes "VarBoolFromR4") ∷
    (122, codes "VarBoolFromR8") ∷ (123, codes "VarBoolFromDate") ∷ (124, codes "VarBoolFromCy") ∷
    (125, codes "VarBoolFromStr") ∷ (126, codes "VarBoolFromDisp") ∷ (127, codes "VarFormatCurrency") ∷
    (128, codes "VarWeekdayName") ∷ (129, codes "VarMonthName") ∷ (130, codes "VarUI1FromI2") ∷
    (131, codes "VarUI1FromI4") ∷ (132, codes "VarUI1FromR4") ∷ (133, codes "VarUI1FromR8") ∷ (134, codes "VarUI1FromCy") ∷
    (135, codes "VarUI1FromDate") ∷ (136, codes "VarUI1FromStr") ∷ (137, codes "VarUI1FromDisp") ∷
    (138, codes "VarUI1FromBool") ∷ (139, codes "VarFormatFromTokens") ∷ (140, codes "VarTokenizeFormatString") ∷
    (141, codes "VarAdd") ∷ (142, codes "VarAnd") ∷ (143, codes "VarDiv") ∷ (144, codes "DllCanUnloadNow") ∷
    (145, codes "DllGetClassObject") ∷ (146, codes "DispCallFunc") ∷ (147, codes "VariantChangeTypeEx") ∷
    (148, codes "SafeArrayPtrOfIndex") ∷ (149, codes "SysStringByteLen") ∷ (150, codes "SysAllocStringByteLen") ∷
    (151, codes "DllRegisterServer") ∷ (152, codes "VarEqv") ∷ (153, codes "VarIdiv") ∷ (154, codes "VarImp") ∷
    (155, codes "VarMod") ∷ (156, codes "VarMul") ∷ (157, codes "VarOr") ∷ (158, codes "VarPow") ∷ (159, codes "VarSub") ∷
    (160, codes "CreateTypeLib") ∷ (161, codes "LoadTypeLib") ∷ (162, codes "LoadRegTypeLib") ∷
    (163, codes "RegisterTypeLib") ∷ (164, codes "QueryPathOfRegTypeLib") ∷ (165, codes "LHashValOfNameSys") ∷
    (166, codes "LHashValOfNameSysA") ∷ (167, codes "VarXor") ∷ (168, codes "VarAbs") ∷ (169, codes "VarFix") ∷
    (170, codes "OaBuildVersion") ∷ (171, codes "ClearCustData") ∷ (172, codes "VarInt") ∷ []

-- ordinals 173 to 229
unfoldable pub oleaut32_names_4 : Names
oleaut32_names_4 =
    (173, codes "VarNeg") ∷ (174, codes "VarNot") ∷ (175, codes "VarRound") ∷ (176, codes "VarCmp") ∷
    (177, codes "VarDecAdd") ∷ (178, codes "VarDecDiv") ∷ (179, codes "VarDecMul") ∷ (180, codes "CreateTypeLib2") ∷
    (181, codes "VarDecSub") ∷ (182, codes "VarDecAbs") ∷ (183, codes "LoadTypeLibEx") ∷
    (184, codes "SystemTimeToVariantTime") ∷ (185, codes "VariantTimeToSystemTime") ∷ (186, codes "UnRegisterTypeLib") ∷
    (187, codes "VarDecFix") ∷ (188, codes "VarDecInt") ∷ (189, codes "VarDecNeg") ∷ (190, codes "VarDecFromUI1") ∷
    (191, codes "VarDecFromI2") ∷ (192, codes "VarDecFromI4") ∷ (193, codes "VarDecFromR4") ∷ (194, codes "VarDecFromR8") ∷
    (195, codes "VarDecFromDate") ∷ (196, codes "VarDecFromCy") ∷ (197, codes "VarDecFromStr") ∷
    (198, codes "VarDecFromDisp") ∷ (199, codes "VarDecFromBool") ∷ (200, codes "GetErrorInfo") ∷
    (201, codes "SetErrorInfo") ∷ (202, codes "CreateErrorInfo") ∷ (203, codes "VarDecRound") ∷ (204, codes "VarDecCmp") ∷
    (205, codes "VarI2FromI1") ∷ (206, codes "VarI2FromUI2") ∷ (207, codes "VarI2FromUI4") ∷ (208, codes "VarI2FromDec") ∷
    (209, codes "VarI4FromI1") ∷ (210, codes "VarI4FromUI2") ∷ (211, codes "VarI4FromUI4") ∷ (212, codes "VarI4FromDec") ∷
    (213, codes "VarR4FromI1") ∷ (214, codes "VarR4FromUI2") ∷ (215, codes "VarR4FromUI4") ∷ (216, codes "VarR4FromDec") ∷
    (217, codes "VarR8FromI1") ∷ (218, codes "VarR8FromUI2") ∷ (219, codes "VarR8FromUI4") ∷ (220, codes "VarR8FromDec") ∷
    (221, codes "VarDateFromI1") ∷ (222, codes "VarDateFromUI2") ∷ (223, codes "VarDateFromUI4") ∷
    (224, codes "VarDateFromDec") ∷ (225, codes "VarCyFromI1") ∷ (226, codes "VarCyFromUI2") ∷ (227, codes "VarCyFromUI4") ∷
    (228, codes "VarCyFromDec") ∷ (229, codes "VarBstrFromI1") ∷ []

-- ordinals 230 to 286
unfoldable pub oleaut32_names_5 : Names
oleaut32_names_5 =
    (230, codes "VarBstrFromUI2") ∷ (231, codes "VarBstrFromUI4") ∷ (232, codes "VarBstrFromDec") ∷
    (233, codes "VarBoolFromI1") ∷ (234, codes "VarBoolFromUI2") ∷ (235, codes "VarBoolFromUI4") ∷
    (236, codes "VarBoolFromDec") ∷ (237, codes "VarUI1FromI1") ∷ (238, codes "VarUI1FromUI2") ∷
    (239, codes "VarUI1FromUI4") ∷ (240, codes "VarUI1FromDec") ∷ (241, codes "VarDecFromI1") ∷
    (242, codes "VarDecFromUI2") ∷ (243, codes "VarDecFromUI4") ∷ (244, codes "VarI1FromUI1") ∷ (245, codes "VarI1FromI2") ∷
    (246, codes "VarI1FromI4") ∷ (247, codes "VarI1FromR4") ∷ (248, codes "VarI1FromR8") ∷ (249, codes "VarI1FromDate") ∷
    (250, codes "VarI1FromCy") ∷ (251, codes "VarI1FromStr") ∷ (252, codes "VarI1FromDisp") ∷ (253, codes "VarI1FromBool") ∷
    (254, codes "VarI1FromUI2") ∷ (255, codes "VarI1FromUI4") ∷ (256, codes "VarI1FromDec") ∷ (257, codes "VarUI2FromUI1") ∷
    (258, codes "VarUI2FromI2") ∷ (259, codes "VarUI2FromI4") ∷ (260, codes "VarUI2FromR4") ∷ (261, codes "VarUI2FromR8") ∷
    (262, codes "VarUI2FromDate") ∷ (263, codes "VarUI2FromCy") ∷ (264, codes "VarUI2FromStr") ∷
    (265, codes "VarUI2FromDisp") ∷ (266, codes "VarUI2FromBool") ∷ (267, codes "VarUI2FromI1") ∷
    (268, codes "VarUI2FromUI4") ∷ (269, codes "VarUI2FromDec") ∷ (270, codes "VarUI4FromUI1") ∷
    (271, codes "VarUI4FromI2") ∷ (272, codes "VarUI4FromI4") ∷ (273, codes "VarUI4FromR4") ∷ (274, codes "VarUI4FromR8") ∷
    (275, codes "VarUI4FromDate") ∷ (276, codes "VarUI4FromCy") ∷ (277, codes "VarUI4FromStr") ∷
    (278, codes "VarUI4FromDisp") ∷ (279, codes "VarUI4FromBool") ∷ (280, codes "VarUI4FromI1") ∷
    (281, codes "VarUI4FromUI2") ∷ (282, codes "VarUI4FromDec") ∷ (283, codes "BSTR_UserSize") ∷
    (284, codes "BSTR_UserMarshal") ∷ (285, codes "BSTR_UserUnmarshal") ∷ (286, codes "BSTR_UserFree") ∷ []

-- ordinals 287 to 348
unfoldable pub oleaut32_names_6 : Names
oleaut32_names_6 =
    (287, codes "VARIANT_UserSize") ∷ (288, codes "VARIANT_UserMarshal") ∷ (289, codes "VARIANT_UserUnmarshal") ∷
    (290, codes "VARIANT_UserFree") ∷ (291, codes "LPSAFEARRAY_UserSize") ∷ (292, codes "LPSAFEARRAY_UserMarshal") ∷
    (293, codes "LPSAFEARRAY_UserUnmarshal") ∷ (294, codes "LPSAFEARRAY_UserFree") ∷ (295, codes "LPSAFEARRAY_Size") ∷
    (296, codes "LPSAFEARRAY_Marshal") ∷ (297, codes "LPSAFEARRAY_Unmarshal") ∷ (298, codes "VarDecCmpR8") ∷
    (299, codes "VarCyAdd") ∷ (300, codes "DllUnregisterServer") ∷ (301, codes "OACreateTypeLib2") ∷
    (303, codes "VarCyMul") ∷ (304, codes "VarCyMulI4") ∷ (305, codes "VarCySub") ∷ (306, codes "VarCyAbs") ∷
    (307, codes "VarCyFix") ∷ (308, codes "VarCyInt") ∷ (309, codes "VarCyNeg") ∷ (310, codes "VarCyRound") ∷
    (311, codes "VarCyCmp") ∷ (312, codes "VarCyCmpR8") ∷ (313, codes "VarBstrCat") ∷ (314, codes "VarBstrCmp") ∷
    (315, codes "VarR8Pow") ∷ (316, codes "VarR4CmpR8") ∷ (317, codes "VarR8Round") ∷ (318, codes "VarCat") ∷
    (319, codes "VarDateFromUdateEx") ∷ (322, codes "GetRecordInfoFromGuids") ∷ (323, codes "GetRecordInfoFromTypeInfo") ∷
    (325, codes "SetVarConversionLocaleSetting") ∷ (326, codes "GetVarConversionLocaleSetting") ∷
    (327, codes "SetOaNoCache") ∷ (329, codes "VarCyMulI8") ∷ (330, codes "VarDateFromUdate") ∷
    (331, codes "VarUdateFromDate") ∷ (332, codes "GetAltMonthNames") ∷ (333, codes "VarI8FromUI1") ∷
    (334, codes "VarI8FromI2") ∷ (335, codes "VarI8FromR4") ∷ (336, codes "VarI8FromR8") ∷ (337, codes "VarI8FromCy") ∷
    (338, codes "VarI8FromDate") ∷ (339, codes "VarI8FromStr") ∷ (340, codes "VarI8FromDisp") ∷
    (341, codes "VarI8FromBool") ∷ (342, codes "VarI8FromI1") ∷ (343, codes "VarI8FromUI2") ∷ (344, codes "VarI8FromUI4") ∷
    (345, codes "VarI8FromDec") ∷ (346, codes "VarI2FromI8") ∷ (347, codes "VarI2FromUI8") ∷ (348, codes "VarI4FromI8") ∷ []

-- ordinals 349 to 443
unfoldable pub oleaut32_names_7 : Names
oleaut32_names_7 =
    (349, codes "VarI4FromUI8") ∷ (360, codes "VarR4FromI8") ∷ (361, codes "VarR4FromUI8") ∷ (362, codes "VarR8FromI8") ∷
    (363, codes "VarR8FromUI8") ∷ (364, codes "VarDateFromI8") ∷ (365, codes "VarDateFromUI8") ∷
    (366, codes "VarCyFromI8") ∷ (367, codes "VarCyFromUI8") ∷ (368, codes "VarBstrFromI8") ∷
    (369, codes "VarBstrFromUI8") ∷ (370, codes "VarBoolFromI8") ∷ (371, codes "VarBoolFromUI8") ∷
    (372, codes "VarUI1FromI8") ∷ (373, codes "VarUI1FromUI8") ∷ (374, codes "VarDecFromI8") ∷
    (375, codes "VarDecFromUI8") ∷ (376, codes "VarI1FromI8") ∷ (377, codes "VarI1FromUI8") ∷ (378, codes "VarUI2FromI8") ∷
    (379, codes "VarUI2FromUI8") ∷ (401, codes "OleLoadPictureEx") ∷ (402, codes "OleLoadPictureFileEx") ∷
    (411, codes "SafeArrayCreateVector") ∷ (412, codes "SafeArrayCopyData") ∷ (413, codes "VectorFromBstr") ∷
    (414, codes "BstrFromVector") ∷ (415, codes "OleIconToCursor") ∷ (416, codes "OleCreatePropertyFrameIndirect") ∷
    (417, codes "OleCreatePropertyFrame") ∷ (418, codes "OleLoadPicture") ∷ (419, codes "OleCreatePictureIndirect") ∷
    (420, codes "OleCreateFontIndirect") ∷ (421, codes "OleTranslateColor") ∷ (422, codes "OleLoadPictureFile") ∷
    (423, codes "OleSavePictureFile") ∷ (424, codes "OleLoadPicturePath") ∷ (425, codes "VarUI4FromI8") ∷
    (426, codes "VarUI4FromUI8") ∷ (427, codes "VarI8FromUI8") ∷ (428, codes "VarUI8FromI8") ∷
    (429, codes "VarUI8FromUI1") ∷ (430, codes "VarUI8FromI2") ∷ (431, codes "VarUI8FromR4") ∷ (432, codes "VarUI8FromR8") ∷
    (433, codes "VarUI8FromCy") ∷ (434, codes "VarUI8FromDate") ∷ (435, codes "VarUI8FromStr") ∷
    (436, codes "VarUI8FromDisp") ∷ (437, codes "VarUI8FromBool") ∷ (438, codes "VarUI8FromI1") ∷
    (439, codes "VarUI8FromUI2") ∷ (440, codes "VarUI8FromUI4") ∷ (441, codes "VarUI8FromDec") ∷
    (442, codes "RegisterTypeLibForUser") ∷ (443, codes "UnRegisterTypeLibForUser") ∷ []

-- the name of an ordinal, if it has one
abbrev pub oleaut32_name : ℕ → Option (List ℕ)
oleaut32_name ordinal =
    if nat_le ordinal 58 then name_in oleaut32_names_1 ordinal else
    (if nat_le ordinal 115 then name_in oleaut32_names_2 ordinal else
    (if nat_le ordinal 172 then name_in oleaut32_names_3 ordinal else
    (if nat_le ordinal 229 then name_in oleaut32_names_4 ordinal else
    (if nat_le ordinal 286 then name_in oleaut32_names_5 ordinal else
    (if nat_le ordinal 348 then name_in oleaut32_names_6 ordinal else
    name_in oleaut32_names_7 ordinal)))))
