-- The first word, which names the command, and those behind it.
use Rattle.std.specs.Prelude.{Bool, false, List, [], ◌∷◌}
use Rattle.std.specs.Str.{bytes_eq}
use Rattle.bl_top_args.specs.Jobs.{Word}

-- the first word is this one
abbrev pub first_is : Word → List Word → Bool
first_is label [] = false
first_is label (name ∷ words) = bytes_eq label name

-- the words behind the first
abbrev pub behind_first : List Word → List Word
behind_first [] = []
behind_first (name ∷ words) = words
