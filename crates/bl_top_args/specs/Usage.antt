-- What is said to a caller whose words ask for no job.
use Rattle.std.specs.Prelude.{ℕ, List, [], ◌∷◌, ◌++◌, codes}

-- the forms of all commands, and a line feed (10)
abbrev pub usage_line : List ℕ
usage_line = codes "usage: blechc check P | build P | run P ROWS | walk P ROWS SEED | exec C ROWS | drive P TICKS PLANT.. | gen N"
    ++ codes " | bound C | count C ROWS | face P FACE.. | link P P.. | save C ROWS | save C STATE ROWS | resume C STATE ROWS" ++ 10 ∷ []
