-- Why a job stops at its source, and the line that tells the rule which refuses it.
use Rattle.std.specs.Prelude.{◌≡◌, ℕ, List, ◌∷◌, [], ◌++◌, map, codes, decimal, Option}
use Rattle.bl_top_commands.specs.Calls.{Count, HasRisen}
use Rattle.bl_top_commands.specs.Notes.{line_of}
use Rattle.bl_top_commands.specs.Sources.{IsSource}
use Rattle.bl_top_commands.specs.declared.status.Status.{Status}
use Rattle.bl_top_commands.specs.declared.status.Status.TheVariants as status
use Rattle.bl_rules.specs.Rules.{FirstFailing}
use Rattle.bl_tree.specs.declared.place.Place.{Place}
use Rattle.bl_tree.specs.declared.rule.Rule.{Rule}
use Rattle.bl_tree.specs.Reduce.{joined}
use Rattle.bl_tree.specs.Rules.{name_of, number_of}

-- ---- the line

-- a place behind a space, 32: its two offsets with a minus, 45, between them
abbrev pub place_text : Place → List ℕ
place_text place = 32 ∷ (decimal place.start ++ (45 ∷ decimal place.end))

-- the line of a rule that fails, with its line feed: the rule's number and name, its place, and each further place
unfoldable pub refusal_line : Rule → Place → List Place → List ℕ
refusal_line rule place also =
    codes "rule " ++ (decimal (number_of rule) ++ (32 ∷ (name_of rule ++ (place_text place ++ (joined (map place_text also) ++ (10 ∷ []))))))

-- the line of a rule that fails for one of several files: the file's number, counted from 1, before the line of a source
abbrev pub file_line : ℕ → List ℕ → List ℕ
file_line file line = codes "file " ++ (decimal file ++ (32 ∷ line))

-- ---- the source of a job

-- the line tells the first rule that fails for the text of a source, and where
pub record RefusedText (left : Option (List ℕ)) (line : List ℕ) : Type 0 where
  pub text : List ℕ
  pub of_source : IsSource left text
  pub rule : Rule
  pub place : Place
  pub also : List Place
  pub first : FirstFailing text rule place also
  pub told : line ≡ refusal_line rule place also

-- why a source isn't accepted, with the status and the line
pub data IsNotAccepted (left : Option (List ℕ)) (file : Count) : Status → List ℕ → Type 0 where
  refused : {line : List ℕ} → RefusedText left line → IsNotAccepted left file status.Refused line
  unread : HasRisen file → IsNotAccepted left file status.ReadFault (line_of status.ReadFault)
  short : IsNotAccepted left file status.NoMemory (line_of status.NoMemory)
