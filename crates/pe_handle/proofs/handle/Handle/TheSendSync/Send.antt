-- A handle means the same in every thread, and its space may be read in several: what an open one owns does, and may.
use mathlib.Core.Bool.{Bool, true, false}
use mir.Raw.{raw}
use base.Fraction.{full_share}
use base.Shift.{Keyless}
use denote.Builtin.{RawPtr, bool}
use denote.RattleType.{RattleType}
use denote.Memory.{lone}
use denote.RawPtr.{Ptr, block_ptr, null_ptr, lies_at}
use denote.Param.Send.{IsSend, IsSync, AllSend, AllSync, struct_sync, part_keyless, owning_send, sendable}
use denote.Struct.Declared as declared
use denote.Struct.Owning.{fields}
use denote.Signature.{static_lft}
use Rattle.std.specs.Global.{Global}
use Rattle.std.specs.Prelude.{Option, None, Some}
use Rattle.std.specs.contracts.alloc.Global as global
use Rattle.std.specs.contracts.impls.GlobalAllocator.TheImpl.{ghosts}
use Rattle.std.proofs.alloc.Global.TheSendSync as global_send
use Rattle.std.proofs.Crossing.{crosses, frees}
use Rattle.pe_head.specs.contracts.headers.Headers as headers
use Rattle.pe_head.specs.contracts.fields.Fields as header_fields
use Rattle.pe_head.specs.contracts.checked.CheckedHeaders as checked
use Rattle.pe_head.specs.contracts.section.SectionHeader as section
use Rattle.pe_head.specs.contracts.directory.Directory as directory
use Rattle.pe_view.specs.contracts.view.View as view
use Rattle.pe_layout.specs.contracts.header_source.HeaderSource as source
use Rattle.pe_layout.specs.contracts.layout.Layout as layout
use Rattle.pe_space.specs.contracts.file_image.FileImage as file_image
use Rattle.pe_space.specs.contracts.file_space.FileSpace as file_space
use Rattle.pe_space.specs.contracts.hints.Hints as hints
use Rattle.pe_space.specs.contracts.mapped_space.MappedSpace as mapped_space
use Rattle.pe_handle.specs.Held.{held, owner_row}
use Rattle.pe_handle.specs.Shared.{SharedContent}
use Rattle.pe_handle.specs.contracts.any_space.AnySpace as any_space
use Rattle.pe_handle.specs.contracts.storage.Storage as storage
use Rattle.pe_handle.specs.contracts.owners.Owners as owners
use Rattle.pe_handle.specs.contracts.handle.Handle.{the_row, the_type}

lies_keyless : (R : RattleType) → IsSend R → (p : Ptr) (x : R.Denot) → Keyless (lies_at R full_share p x)
lies_keyless R s (block_ptr b o) x = part_keyless R s full_share x b o
lies_keyless R s null_ptr x = tt

bytes_send : IsSend (view.the_field static_lft).row
bytes_send = search (crosses, sendable) depth 60 fits 20000

section_sync : IsSync (section.the_field).row
section_sync = search (crosses, sendable) depth 60 fits 20000

directory_sync : IsSync (directory.the_field).row
directory_sync = search (crosses, sendable) depth 60 fits 20000

headers_sync : IsSync (headers.the_field).row
headers_sync =
    let all : AllSync (declared.fields headers.the_type) = (search sendable depth 20, (search sendable depth 20, (search sendable depth 20, (search sendable depth 20, (search sendable depth 20, (search sendable depth 20, (search sendable depth 20, (search sendable depth 20, (search sendable depth 20, (search sendable depth 20, (search sendable depth 20, (search sendable depth 20, (search sendable depth 20, (search sendable depth 20, (search sendable depth 20, (search sendable depth 20, (search sendable depth 20, (search sendable depth 20, (search sendable depth 20, (search sendable depth 20, (search sendable depth 20, (search sendable depth 20, (search sendable depth 20, (search sendable depth 20, (search sendable depth 20, (search sendable depth 20, (search sendable depth 20, (search sendable depth 20, (search sendable depth 20, (search sendable depth 20, (search sendable depth 20, (search sendable depth 20, (search sendable depth 20, (search sendable depth 20, (search sendable depth 20, (search sendable depth 20, (search sendable depth 20, (search sendable depth 20, (search (directory_sync, sendable) depth 40, (search (section_sync, sendable) depth 40, (tt))))))))))))))))))))))))))))))))))))))))) in
    struct_sync (declared.shape headers.the_type) all

fields_send : IsSend (header_fields.the_field static_lft).row
fields_send = search (bytes_send, crosses, sendable) depth 60 fits 20000

checked_send : IsSend (checked.the_field static_lft).row
checked_send = search (fields_send, crosses, sendable) depth 60 fits 20000

source_send : IsSend (source.the_field static_lft).row
source_send = search (checked_send, headers_sync, crosses, sendable) depth 60 fits 20000

layout_send : IsSend (layout.the_field static_lft).row
layout_send = search (bytes_send, source_send, crosses, sendable) depth 60 fits 20000

file_image_send : IsSend (file_image.the_field static_lft global.the_row ghosts).row
file_image_send = search (layout_send, crosses, sendable) depth 60 fits 20000

hints_send : IsSend (hints.the_field global.the_row ghosts).row
hints_send = search (crosses, sendable) depth 60 fits 20000

file_space_send : IsSend (file_space.the_field static_lft global.the_row ghosts).row
file_space_send = search (file_image_send, hints_send, crosses, sendable) depth 60 fits 20000

mapped_space_send : IsSend (mapped_space.the_field global.the_row ghosts).row
mapped_space_send = search (crosses, sendable) depth 60 fits 20000

storage_send : IsSend (storage.the_field static_lft).row
storage_send = search (mapped_space_send, file_space_send, crosses, sendable) depth 60 fits 20000

any_space_send : IsSend (any_space.the_row static_lft)
any_space_send = search (storage_send, crosses, sendable) depth 60 fits 20000

bytes_sync : IsSync (view.the_field static_lft).row
bytes_sync = search (crosses, sendable) depth 60 fits 20000

fields_sync : IsSync (header_fields.the_field static_lft).row
fields_sync = search (bytes_sync, crosses, sendable) depth 60 fits 20000

checked_sync : IsSync (checked.the_field static_lft).row
checked_sync = search (fields_sync, crosses, sendable) depth 60 fits 20000

source_sync : IsSync (source.the_field static_lft).row
source_sync = search (checked_sync, headers_sync, crosses, sendable) depth 60 fits 20000

layout_sync : IsSync (layout.the_field static_lft).row
layout_sync = search (bytes_sync, source_sync, crosses, sendable) depth 60 fits 20000

file_image_sync : IsSync (file_image.the_field static_lft global.the_row ghosts).row
file_image_sync = search (layout_sync, crosses, sendable) depth 60 fits 20000

hints_sync : IsSync (hints.the_field global.the_row ghosts).row
hints_sync = search (crosses, sendable) depth 60 fits 20000

file_space_sync : IsSync (file_space.the_field static_lft global.the_row ghosts).row
file_space_sync = search (file_image_sync, hints_sync, crosses, sendable) depth 60 fits 20000

mapped_space_sync : IsSync (mapped_space.the_field global.the_row ghosts).row
mapped_space_sync = search (crosses, sendable) depth 60 fits 20000

storage_sync : IsSync (storage.the_field static_lft).row
storage_sync = search (mapped_space_sync, file_space_sync, crosses, sendable) depth 60 fits 20000

any_space_sync : IsSync (any_space.the_row static_lft)
any_space_sync = search (storage_sync, crosses, sendable) depth 60 fits 20000

owners_send : IsSend (owners.the_field static_lft).row
owners_send = search (any_space_send, any_space_sync, crosses, sendable) depth 60 fits 20000

owner_send : IsSend owner_row
owner_send = search (owners_send, crosses, sendable) depth 60 fits 20000

held_keyless : (a : Global) (y : Bool) (p : Ptr) (v : Option SharedContent) → Keyless (held a y p v)
held_keyless a false p None = tt
held_keyless a false p (Some x) = tt
held_keyless a true p None = tt
held_keyless a true p (Some x) = (lies_keyless owner_row owner_send p x, frees.frees a (raw (lone owner_row.mir)) p)

pub send : IsSend the_row
send =
    let pointer : IsSend RawPtr = search sendable in let flag : IsSend bool = search sendable in let all : AllSend (fields the_type) = (pointer, (flag, (global_send.the_field_send, tt))) in
    owning_send the_type all (λ d. held_keyless d.alloc d.is_open d.state d.owner) (λ k d w. tt)
