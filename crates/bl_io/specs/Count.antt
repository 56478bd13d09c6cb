-- How a count of faults goes on.
use Rattle.std.specs.Prelude.{ℕ, ◌+◌, ◌-◌, ◌^◌, ◌<◌, ◌≤◌, ◌≢◌, min, List}

-- the number at which a counter of 64 bits ends
abbrev pub last_count : ℕ
last_count = 2 ^ 64 - 1

-- a counter of 64 bits goes up by one, and stays at its end
abbrev pub count_up : ℕ → ℕ
count_up n = min (n + 1) last_count

-- the count rose, or it stands where a counter ends
abbrev pub Rose : ℕ → ℕ → Type 0
Rose old new = new ≢ last_count → old < new

-- the count of no name fell
abbrev pub NeverFell : (List ℕ → ℕ) → (List ℕ → ℕ) → Type 0
NeverFell old new = (name : List ℕ) → old name ≤ new name
