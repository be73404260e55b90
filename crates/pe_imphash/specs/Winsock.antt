-- The names of the ordinals of ws2_32.dll and wsock32.dll in the list that import hashes are computed with.
use Rattle.std.specs.Prelude.{ℕ, nat_le, List, [], ◌∷◌, Option, codes, if◌then◌else◌}
use Rattle.pe_head.specs.Names.{Names, name_in}

-- ordinals 1 to 59
unfoldable pub winsock_names_1 : Names
winsock_names_1 =
    (1, codes "accept") ∷ (2, codes "bind") ∷ (3, codes "closesocket") ∷ (4, codes "connect") ∷ (5, codes "getpeername") ∷
    (6, codes "getsockname") ∷ (7, codes "getsockopt") ∷ (8, codes "htonl") ∷ (9, codes "htons") ∷
    (10, codes "ioctlsocket") ∷ (11, codes "inet_addr") ∷ (12, codes "inet_ntoa") ∷ (13, codes "listen") ∷
    (14, codes "ntohl") ∷ (15, codes "ntohs") ∷ (16, codes "recv") ∷ (17, codes "recvfrom") ∷ (18, codes "select") ∷
    (19, codes "send") ∷ (20, codes "sendto") ∷ (21, codes "setsockopt") ∷ (22, codes "shutdown") ∷ (23, codes "socket") ∷
    (24, codes "GetAddrInfoW") ∷ (25, codes "GetNameInfoW") ∷ (26, codes "WSApSetPostRoutine") ∷
    (27, codes "FreeAddrInfoW") ∷ (28, codes "WPUCompleteOverlappedRequest") ∷ (29, codes "WSAAccept") ∷
    (30, codes "WSAAddressToStringA") ∷ (31, codes "WSAAddressToStringW") ∷ (32, codes "WSACloseEvent") ∷
    (33, codes "WSAConnect") ∷ (34, codes "WSACreateEvent") ∷ (35, codes "WSADuplicateSocketA") ∷
    (36, codes "WSADuplicateSocketW") ∷ (37, codes "WSAEnumNameSpaceProvidersA") ∷
    (38, codes "WSAEnumNameSpaceProvidersW") ∷ (39, codes "WSAEnumNetworkEvents") ∷ (40, codes "WSAEnumProtocolsA") ∷
    (41, codes "WSAEnumProtocolsW") ∷ (42, codes "WSAEventSelect") ∷ (43, codes "WSAGetOverlappedResult") ∷
    (44, codes "WSAGetQOSByName") ∷ (45, codes "WSAGetServiceClassInfoA") ∷ (46, codes "WSAGetServiceClassInfoW") ∷
    (47, codes "WSAGetServiceClassNameByClassIdA") ∷ (48, codes "WSAGetServiceClassNameByClassIdW") ∷
    (49, codes "WSAHtonl") ∷ (50, codes "WSAHtons") ∷ (51, codes "gethostbyaddr") ∷ (52, codes "gethostbyname") ∷
    (53, codes "getprotobyname") ∷ (54, codes "getprotobynumber") ∷ (55, codes "getservbyname") ∷
    (56, codes "getservbyport") ∷ (57, codes "gethostname") ∷ (58, codes "WSAInstallServiceClassA") ∷
    (59, codes "WSAInstallServiceClassW") ∷ []

-- ordinals 60 to 500
unfoldable pub winsock_names_2 : Names
winsock_names_2 =
    (60, codes "WSAIoctl") ∷ (61, codes "WSAJoinLeaf") ∷ (62, codes "WSALookupServiceBeginA") ∷
    (63, codes "WSALookupServiceBeginW") ∷ (64, codes "WSALookupServiceEnd") ∷ (65, codes "WSALookupServiceNextA") ∷
    (66, codes "WSALookupServiceNextW") ∷ (67, codes "WSANSPIoctl") ∷ (68, codes "WSANtohl") ∷ (69, codes "WSANtohs") ∷
    (70, codes "WSAProviderConfigChange") ∷ (71, codes "WSARecv") ∷ (72, codes "WSARecvDisconnect") ∷
    (73, codes "WSARecvFrom") ∷ (74, codes "WSARemoveServiceClass") ∷ (75, codes "WSAResetEvent") ∷ (76, codes "WSASend") ∷
    (77, codes "WSASendDisconnect") ∷ (78, codes "WSASendTo") ∷ (79, codes "WSASetEvent") ∷ (80, codes "WSASetServiceA") ∷
    (81, codes "WSASetServiceW") ∷ (82, codes "WSASocketA") ∷ (83, codes "WSASocketW") ∷ (84, codes "WSAStringToAddressA") ∷
    (85, codes "WSAStringToAddressW") ∷ (86, codes "WSAWaitForMultipleEvents") ∷ (87, codes "WSCDeinstallProvider") ∷
    (88, codes "WSCEnableNSProvider") ∷ (89, codes "WSCEnumProtocols") ∷ (90, codes "WSCGetProviderPath") ∷
    (91, codes "WSCInstallNameSpace") ∷ (92, codes "WSCInstallProvider") ∷ (93, codes "WSCUnInstallNameSpace") ∷
    (94, codes "WSCUpdateProvider") ∷ (95, codes "WSCWriteNameSpaceOrder") ∷ (96, codes "WSCWriteProviderOrder") ∷
    (97, codes "freeaddrinfo") ∷ (98, codes "getaddrinfo") ∷ (99, codes "getnameinfo") ∷ (101, codes "WSAAsyncSelect") ∷
    (102, codes "WSAAsyncGetHostByAddr") ∷ (103, codes "WSAAsyncGetHostByName") ∷ (104, codes "WSAAsyncGetProtoByNumber") ∷
    (105, codes "WSAAsyncGetProtoByName") ∷ (106, codes "WSAAsyncGetServByPort") ∷ (107, codes "WSAAsyncGetServByName") ∷
    (108, codes "WSACancelAsyncRequest") ∷ (109, codes "WSASetBlockingHook") ∷ (110, codes "WSAUnhookBlockingHook") ∷
    (111, codes "WSAGetLastError") ∷ (112, codes "WSASetLastError") ∷ (113, codes "WSACancelBlockingCall") ∷
    (114, codes "WSAIsBlocking") ∷ (115, codes "WSAStartup") ∷ (116, codes "WSACleanup") ∷ (151, codes "__WSAFDIsSet") ∷
    (500, codes "WEP") ∷ []

-- the name of an ordinal, if it has one
abbrev pub winsock_name : ℕ → Option (List ℕ)
winsock_name ordinal =
    if nat_le ordinal 59 then name_in winsock_names_1 ordinal else
    name_in winsock_names_2 ordinal
