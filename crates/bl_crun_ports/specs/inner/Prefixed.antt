-- What is known of the names of ports.
use Rattle.std.specs.Prelude.{All, List, get_or, length, ◌<◌, ◌≤◌}
use Rattle.bl_tree.specs.declared.text.Text.{Text}
use Rattle.bl_tree.specs.declared.c.CMember.{CMember}

-- a name begins with two bytes, of which the second is a character of its own
abbrev pub Prefixed : Text → Type 0
Prefixed name = (2 ≤ length name) × (get_or name 1 0 < 128)

-- the names of the members all have the prefix
abbrev pub AllPrefixed : List CMember → Type 0
AllPrefixed ms = All (λ m. Prefixed m.name) ms
