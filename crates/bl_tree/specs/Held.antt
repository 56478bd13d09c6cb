-- The bytes of a text, whichever way it is held.
use Rattle.std.specs.Prelude.{ℕ, List, string_bytes}
use Rattle.bl_tree.specs.declared.text.Held.{Held}
use Rattle.bl_tree.specs.declared.text.Held.TheVariants.{Short, Long}

-- the bytes of the text, in order, whether it is held in place or apart
abbrev pub held_bytes : Held → List ℕ
held_bytes (Short text) = text.bytes
held_bytes (Long text) = string_bytes text
