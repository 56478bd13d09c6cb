-- The source text of the generated program.
use Rattle.std.specs.Prelude.{◌≡◌, ℕ, zero, suc, ◌+◌, ◌-◌, ◌≤◌, ◌<◌, List, [], ◌++◌, codes, decimal}
use Rattle.bl_gen.specs.declared.fault.GenFault.{GenFault}
use Rattle.bl_gen.specs.declared.fault.GenFault.TheVariants.{TooLarge, NoMemory}

-- the most stages that a program is made of
abbrev pub most_stages : ℕ
most_stages = 2000

-- the activity that each branch runs: in each tick the output is the input's remainder by 1,000, and one more
unfoldable pub stage_line : List ℕ
stage_line = codes "activity Stage (i: int32)(o: int32) repeat o = i % 1000 + 1 await true end end\n"

-- the head of the entry
unfoldable pub entry_line : List ℕ
entry_line = codes "@[EntryPoint] activity Main (x0: int32)(o: int32)\n"

-- the declaration of the variable of this number
unfoldable pub declaration : ℕ → List ℕ
declaration number = codes "var x" ++ (decimal number ++ codes ": int32\n")

-- the declarations of the variables 1 to n
abbrev pub declarations : ℕ → List ℕ
declarations zero = []
declarations (suc before) = declarations before ++ declaration (suc before)

-- the branch of the last stage, which reads the variable of this number and writes the output
unfoldable pub last_branch : ℕ → List ℕ
last_branch number = codes "run Stage(x" ++ (decimal number ++ codes ")(o)\n")

-- the branch that reads the variable of this number and writes the next, behind its word
unfoldable pub branch : ℕ → List ℕ
branch number = codes "with\nrun Stage(x" ++ (decimal number ++ (codes ")(x" ++ (decimal (number + 1) ++ codes ")\n")))

-- the branches that write the variables from this one down to 1
abbrev pub writing_branches : ℕ → List ℕ
writing_branches zero = []
writing_branches (suc before) = branch before ++ writing_branches before

-- the statement of the entry that runs all stages, the last one first, and the entry's end
unfoldable pub body_text : ℕ → List ℕ
body_text variables = codes "cobegin\n" ++ (last_branch variables ++ (writing_branches variables ++ codes "end\nend\n"))

-- the text of the program whose entry declares so many variables
unfoldable pub text_with : ℕ → List ℕ
text_with variables = stage_line ++ (entry_line ++ (declarations variables ++ body_text variables))

-- the text of the program of so many stages, of which there is at least one: a variable stands between each stage and the next
abbrev pub program_text : ℕ → List ℕ
program_text stages = text_with (stages - 1)

-- why no program of so many stages is made
abbrev pub IsRefused : ℕ → GenFault → Type 0
IsRefused stages (TooLarge n) = (most_stages < stages) × (n ≡ stages)
IsRefused stages NoMemory = stages ≤ most_stages
