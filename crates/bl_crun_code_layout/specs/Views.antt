-- What the values of the code stand for.
use Rattle.std.specs.Prelude.{List, option_map, ℕ}
use Rattle.std.specs.Borrow.{Bor}
use Rattle.std.specs.HashMap.{HashMap}
use Rattle.bl_ctext_semantics.specs.inner.Maps.{text_at}
use Rattle.bl_ctext_semantics.specs.Sizes.{Sizes}
use Rattle.bl_ctext_semantics.specs.Tables.{Table}
use Rattle.bl_ctext_semantics_laws.specs.Layout.{Layouts, MemberOffset, Slot, capped}
use Rattle.bl_ctext_semantics_laws.specs.Reaching.{Ground}
use Rattle.bl_crun_code.specs.Code.{FunctionEntry}
use Rattle.bl_crun_code_layout.specs.declared.here.Entry.{Entry as CodeEntry}
use Rattle.bl_crun_code_layout.specs.declared.here.Here.{Here}
use Rattle.bl_crun_code_layout.specs.declared.here.Laid.{Laid as CodeLaid}
use Rattle.bl_crun_code_layout.specs.declared.here.Slot.{Slot as CodeSlot}

-- the entry that the code's value stands for
abbrev pub entry_for : CodeEntry → FunctionEntry
entry_for e = record { entry = e.entry; frame = e.frame }

-- a member and where it stands in its struct, as the specification has it
abbrev pub laid_of : CodeLaid → MemberOffset
laid_of l = record { at = l.at; it = l.it.now }

-- a parameter or local and where it stands in its frame, as the specification has it
abbrev pub slot_of : CodeSlot → Slot
slot_of s = record { at = s.at; pointer = s.pointer; ty = s.ty.now }

-- how many cells each struct has
abbrev pub sizes_in : {S : Type 0} → HashMap (Bor (List ℕ)) ℕ S → Sizes
sizes_in sizes name = option_map capped (text_at sizes name)

-- the members of a struct
abbrev pub members_in : {S : Type 0} → HashMap (Bor (List ℕ)) CodeLaid S → Table MemberOffset
members_in members name = option_map laid_of (text_at members name)

-- the members of each struct
abbrev pub structs_in : {S T : Type 0} → HashMap (Bor (List ℕ)) (HashMap (Bor (List ℕ)) CodeLaid S) T → Layouts
structs_in structs name = option_map members_in (text_at structs name)

-- the functions
abbrev pub entries_in : {S : Type 0} → HashMap (Bor (List ℕ)) CodeEntry S → Table FunctionEntry
entries_in known name = option_map entry_for (text_at known name)

-- the parameters and locals
abbrev pub slots_known : {S : Type 0} → HashMap (Bor (List ℕ)) CodeSlot S → Table Slot
slots_known slots name = option_map slot_of (text_at slots name)

-- what is known
abbrev pub ground_of : Here → Ground FunctionEntry
ground_of h = record
    { sizes = sizes_in h.sizes.now; structs = structs_in h.structs.now; known = entries_in h.known.now; slots = slots_known h.slots.now; frame = h.frame }
