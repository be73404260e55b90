-- A handle means the same in every thread, since what an open one owns does.
use mathlib.Core.Bool.{Bool, true, false}
use mir.Raw.{raw}
use base.Fraction.{full_share}
use base.Shift.{Keyless}
use denote.Builtin.{RawPtr, bool}
use denote.RattleType.{RattleType}
use denote.Memory.{lone}
use denote.RawPtr.{Ptr, block_ptr, null_ptr, lies_at}
use denote.Param.Send.{IsSend, IsSync, AllSend, AllSync, struct_sync, part_keyless, owning_send, struct_send, sendable}
use denote.Struct.Declared as declared
use denote.Struct.Owning.{fields}
use Rattle.std.specs.Global.{Global}
use Rattle.std.specs.Prelude.{Option, None, Some}
use Rattle.std.proofs.alloc.Global.TheSendSync as global_send
use Rattle.std.proofs.Crossing.{crosses, frees, Arc-send}
use Rattle.pe_opened.specs.contracts.opened.OpenedImage as opened
use Rattle.std.proofs.MapsCrossing as maps
use denote.Signature.{static_lft}
use Rattle.std.specs.contracts.alloc.Global as global
use Rattle.std.specs.contracts.impls.GlobalAllocator.TheImpl.{ghosts}
use Rattle.pe_head.specs.contracts.headers.Headers as headers
use Rattle.pe_head.specs.contracts.fields.Fields as header_fields
use Rattle.pe_head.specs.contracts.checked.CheckedHeaders as checked
use Rattle.pe_head.specs.contracts.section.SectionHeader as section
use Rattle.pe_head.specs.contracts.directory.Directory as directory
use Rattle.pe_view.specs.contracts.view.View as view
use Rattle.pe_tables.specs.contracts.key.Target as target
use Rattle.pe_layout.specs.contracts.header_source.HeaderSource as source
use Rattle.pe_layout.specs.contracts.layout.Layout as layout
use Rattle.pe_tables.specs.contracts.export_lookup.Exports as exports
use Rattle.pe_tables.specs.contracts.name_index.NameIndex as name_index
use Rattle.pe_tables.specs.contracts.text_map.TextMap as text_map
use Rattle.pe_tables.specs.contracts.text_slots.TextSlots as text_slots
use Rattle.pe_tables.specs.contracts.long_texts.LongTexts as long_texts
use Rattle.pe_tables.specs.contracts.long_texts.Node as node
use Rattle.pe_tables.specs.contracts.guesses.Guesses as guesses
use Rattle.pe_image.specs.contracts.image.Image as image
use Rattle.pe_opened.specs.Held.{held, image_row, Owner}
use Rattle.pe_opened.specs.contracts.handle.ImageHandle.{the_row, the_type}

lies_keyless : (R : RattleType) → IsSend R → (p : Ptr) (x : R.Denot) → Keyless (lies_at R full_share p x)
lies_keyless R s (block_ptr b o) x = part_keyless R s full_share x b o
lies_keyless R s null_ptr x = tt

bytes_send : IsSend (view.the_field static_lft).row
bytes_send = search (crosses, sendable) depth 60 fits 20000

section_sync : IsSync (section.the_field).row
section_sync = search (crosses, sendable) depth 60 fits 20000

directory_sync : IsSync (directory.the_field).row
directory_sync = search (crosses, sendable) depth 60 fits 20000

headers_sync : IsSync (headers.the_field).row
headers_sync =
    let all : AllSync (declared.fields headers.the_type) = (search sendable depth 20, (search sendable depth 20, (search sendable depth 20, (search sendable depth 20, (search sendable depth 20, (search sendable depth 20, (search sendable depth 20, (search sendable depth 20, (search sendable depth 20, (search sendable depth 20, (search sendable depth 20, (search sendable depth 20, (search sendable depth 20, (search sendable depth 20, (search sendable depth 20, (search sendable depth 20, (search sendable depth 20, (search sendable depth 20, (search sendable depth 20, (search sendable depth 20, (search sendable depth 20, (search sendable depth 20, (search sendable depth 20, (search sendable depth 20, (search sendable depth 20, (search sendable depth 20, (search sendable depth 20, (search sendable depth 20, (search sendable depth 20, (search sendable depth 20, (search sendable depth 20, (search sendable depth 20, (search sendable depth 20, (search sendable depth 20, (search sendable depth 20, (search sendable depth 20, (search sendable depth 20, (search sendable depth 20, (search (directory_sync, sendable) depth 40, (search (section_sync, sendable) depth 40, (tt))))))))))))))))))))))))))))))))))))))))) in
    struct_sync (declared.shape headers.the_type) all

fields_send : IsSend (header_fields.the_field static_lft).row
fields_send = search (bytes_send, crosses, sendable) depth 60 fits 20000

checked_send : IsSend (checked.the_field static_lft).row
checked_send = search (fields_send, crosses, sendable) depth 60 fits 20000

source_send : IsSend (source.the_field static_lft).row
source_send = search (checked_send, headers_sync, crosses, sendable) depth 60 fits 20000

layout_send : IsSend (layout.the_field static_lft).row
layout_send = search (bytes_send, source_send, crosses, sendable) depth 60 fits 20000

target_send : IsSend (target.the_field static_lft).row
target_send = search (crosses, sendable) depth 60 fits 20000

guesses_send : IsSend (guesses.the_field global.the_row ghosts).row
guesses_send = search (crosses, sendable) depth 60 fits 20000

text_map_send : IsSend (text_map.the_field static_lft global.the_row ghosts).row
text_map_send = search (maps.crosses, crosses, sendable) depth 60 fits 20000

text_slots_send : IsSend (text_slots.the_field static_lft global.the_row ghosts).row
text_slots_send = search (target_send, crosses, sendable) depth 60 fits 20000

node_send : IsSend (node.the_field static_lft global.the_row ghosts).row
node_send = search (maps.crosses, crosses, sendable) depth 60 fits 20000

long_texts_send : IsSend (long_texts.the_field static_lft global.the_row ghosts).row
long_texts_send = search (node_send, maps.crosses, crosses, sendable) depth 60 fits 20000

names_send : IsSend (name_index.the_field static_lft global.the_row ghosts).row
names_send =
    let all : AllSend (declared.fields (name_index.the_type static_lft global.the_row ghosts)) = (search (target_send, crosses, sendable) depth 60 fits 20000, (search (crosses, sendable) depth 60 fits 20000, (text_map_send, (text_slots_send, (search sendable depth 20, (long_texts_send, tt)))))) in
    struct_send (declared.shape (name_index.the_type static_lft global.the_row ghosts)) all

exports_send : IsSend (exports.the_field static_lft global.the_row ghosts).row
exports_send = search (target_send, names_send, guesses_send, crosses, sendable) depth 60 fits 20000

whole_send : IsSend (image.the_field static_lft global.the_row ghosts).row
whole_send = search (layout_send, exports_send, crosses, sendable) depth 60 fits 20000

bytes_sync : IsSync (view.the_field static_lft).row
bytes_sync = search (crosses, sendable) depth 60 fits 20000

fields_sync : IsSync (header_fields.the_field static_lft).row
fields_sync = search (bytes_sync, crosses, sendable) depth 60 fits 20000

checked_sync : IsSync (checked.the_field static_lft).row
checked_sync = search (fields_sync, crosses, sendable) depth 60 fits 20000

source_sync : IsSync (source.the_field static_lft).row
source_sync = search (checked_sync, headers_sync, crosses, sendable) depth 60 fits 20000

layout_sync : IsSync (layout.the_field static_lft).row
layout_sync = search (bytes_sync, source_sync, crosses, sendable) depth 60 fits 20000

target_sync : IsSync (target.the_field static_lft).row
target_sync = search (crosses, sendable) depth 60 fits 20000

guesses_sync : IsSync (guesses.the_field global.the_row ghosts).row
guesses_sync = search (crosses, sendable) depth 60 fits 20000

text_map_sync : IsSync (text_map.the_field static_lft global.the_row ghosts).row
text_map_sync = search (maps.crosses, crosses, sendable) depth 60 fits 20000

text_slots_sync : IsSync (text_slots.the_field static_lft global.the_row ghosts).row
text_slots_sync = search (target_sync, crosses, sendable) depth 60 fits 20000

node_sync : IsSync (node.the_field static_lft global.the_row ghosts).row
node_sync = search (maps.crosses, crosses, sendable) depth 60 fits 20000

long_texts_sync : IsSync (long_texts.the_field static_lft global.the_row ghosts).row
long_texts_sync = search (node_sync, maps.crosses, crosses, sendable) depth 60 fits 20000

names_sync : IsSync (name_index.the_field static_lft global.the_row ghosts).row
names_sync =
    let all : AllSync (declared.fields (name_index.the_type static_lft global.the_row ghosts)) = (search (target_sync, crosses, sendable) depth 60 fits 20000, (search (crosses, sendable) depth 60 fits 20000, (text_map_sync, (text_slots_sync, (search sendable depth 20, (long_texts_sync, tt)))))) in
    struct_sync (declared.shape (name_index.the_type static_lft global.the_row ghosts)) all

exports_sync : IsSync (exports.the_field static_lft global.the_row ghosts).row
exports_sync = search (target_sync, names_sync, guesses_sync, crosses, sendable) depth 60 fits 20000

whole_sync : IsSync (image.the_field static_lft global.the_row ghosts).row
whole_sync = search (layout_sync, exports_sync, crosses, sendable) depth 60 fits 20000

opened_send : IsSend (opened.the_row static_lft)
opened_send = search (whole_send, sendable) depth 60 fits 20000

opened_sync : IsSync (opened.the_row static_lft)
opened_sync = search (whole_sync, sendable) depth 60 fits 20000

image_send : IsSend image_row
image_send = Arc-send (opened.the_row static_lft) opened_send opened_sync

held_keyless : (a : Global) (y : Bool) (p : Ptr) (v : Option Owner) → Keyless (held a y p v)
held_keyless a false p None = tt
held_keyless a false p (Some x) = tt
held_keyless a true p None = tt
held_keyless a true p (Some x) = (lies_keyless image_row image_send p x, frees.frees a (raw (lone image_row.mir)) p)

pub send : IsSend the_row
send =
    let pointer : IsSend RawPtr = search sendable in let flag : IsSend bool = search sendable in let all : AllSend (fields the_type) = (pointer, (flag, (global_send.the_field_send, tt))) in
    owning_send the_type all (λ d. held_keyless d.alloc d.is_open d.state d.image) (λ k d w. tt)
