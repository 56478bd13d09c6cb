-- Which of several actions is done next, by a seed.
use Rattle.std.specs.Prelude.{ℕ, ◌+◌, ◌-◌, ◌*◌, ◌/◌, ◌%◌, ◌^◌, ◌==◌, if◌then◌else◌}
use Rattle.bl_walk.specs.declared.choice.Choice.{Choice}
use Rattle.bl_walk.specs.declared.choice.Choice.TheVariants.{First, Last, ByWord}

-- the word that follows a word of 64 bits
abbrev pub next_word : ℕ → ℕ
next_word word = (word * 6364136223846793005 + 1442695040888963407) % 2 ^ 64

-- seed 0 picks the first action, seed 1 the last, and any other seed is the word by which is picked
abbrev pub choice_of : ℕ → Choice
choice_of seed = if seed == 0 then First else (if seed == 1 then Last else ByWord seed)

-- the choice before an action is picked: its word has moved
abbrev pub word_moved : Choice → Choice
word_moved First = First
word_moved Last = Last
word_moved (ByWord word) = ByWord (next_word word)

-- the index of the picked element among so many
abbrev pub picked : Choice → ℕ → ℕ
picked First count = 0
picked Last count = count - 1
picked (ByWord word) count = word / 2 ^ 33 % count
