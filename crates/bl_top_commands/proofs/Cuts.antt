-- What is left of files, and fronts that were read of them.
use Rattle.std.proofs.Common.{◌≡◌, ◌∙◌, ℕ, ◌<◌, ◌≤◌, List, [], ◌∷◌, map, take, drop, length, min, refl, sym, ap, inl, inr, arith}
use Rattle.std.proofs.lemmas.Bool.{cases_lt}
use Rattle.std.proofs.lemmas.List.{length-take, take_all}
use Rattle.std.specs.Prelude.{◌⊎◌, Option, Some, None, IfSome}
use Rattle.bl_module_files.specs.Turns.{StandFurther}
use Rattle.bl_top_commands.specs.Reads.{FileRead, LeftBehind, Limit, Reads, StandsWithin, in_bytes, in_lines, source_file}
use Rattle.bl_top_commands.specs.Sources.{IsSource}
use Rattle.bl_io.specs.Left.{GivesUpTo, KeepsOthers, StandsFurther}
use Rattle.bl_top_args.specs.Jobs.{Word}
use Rattle.bl_rows_stream.proofs.Takings.{kept-same}
use Rattle.bl_rows_stream.proofs.Steps.{reads-none}

-- ---- fronts

-- a front is the whole, or it was cut at the limit and both are that long
pub whole_or_long : (limit : ℕ) (whole got : List ℕ) → got ≡ take limit whole →
    (whole ≡ got) ⊎ ((limit ≤ length got) × (limit ≤ length whole))
whole_or_long limit whole got front = elim (cases_lt limit (length whole)) [
  | inl beyond ↦ inr (let e : length got ≡ min limit (length whole) = ap length front ∙ length-take limit whole in
      (omega (arith, e, beyond), omega (arith, beyond)))
  | inr within ↦ inl (sym (front ∙ take_all limit whole within))
]

pub whole_of_short : (limit : ℕ) (whole got : List ℕ) → got ≡ take limit whole → length got < limit → whole ≡ got
whole_of_short limit whole got front short = elim (whole_or_long limit whole got front)
    [ inl same ↦ same | inr long ↦ absurd (omega (arith, short, long.0)) ]

pub front_within : (limit : ℕ) (whole got : List ℕ) → got ≡ take limit whole → length got ≤ length whole
front_within limit whole got front = let e : length got ≡ min limit (length whole) = ap length front ∙ length-take limit whole in omega (arith, e)

-- what holds of a front and so of the whole holds of some bytes of the file
pub sourced : (limit : ℕ) (P : List ℕ → Type 0) (before : Option (List ℕ)) (got : List ℕ) (after : Option (List ℕ)) →
    GivesUpTo limit before got after → P got →
    ((whole : List ℕ) → got ≡ take limit whole → P whole) → (bytes : List ℕ) × (IsSource before bytes × P bytes)
sourced limit P None got after read here further = (got, (tt, here))
sourced limit P (Some whole) got after read here further = (whole, (refl, further whole read.front))

-- ---- files

-- a file that was read as far as asked stands no further than that
pub further_from_up_to : (limit : ℕ) (before : Option (List ℕ)) (got : List ℕ) (after : Option (List ℕ)) →
    GivesUpTo limit before got after → StandsFurther limit before after
further_from_up_to limit None got after read = tt
further_from_up_to limit (Some bytes) got after read = (limit, omega arith, read.rest)

rest_of : (limit : ℕ) (before : Option (List ℕ)) (got : List ℕ) (after : Option (List ℕ)) → GivesUpTo limit before got after →
    IfSome before (λ bytes. after ≡ Some (drop limit bytes))
rest_of limit None got after read = tt
rest_of limit (Some bytes) got after read = read.rest

pub left_behind : (limit : ℕ) (name : Word) (before after : Word → Option (List ℕ)) (got : List ℕ) →
    GivesUpTo limit (before name) got (after name) → KeepsOthers name before after →
    LeftBehind limit name before after
left_behind limit name before after got read others = record { rest = rest_of limit (before name) got (after name) read; others = others }

-- ---- the files of a job

further_same : (limit : ℕ) (left : Option (List ℕ)) → StandsFurther limit left left
further_same limit None = tt
further_same limit (Some bytes) = (0, omega arith, refl)

within_same : (limit : Limit) (left : Option (List ℕ)) → StandsWithin limit left left
within_same (in_bytes most) left = further_same most left
within_same (in_lines most) left = reads-none most left

-- nothing is read
pub reads_nothing : (files : List FileRead) (left : Word → Option (List ℕ)) → Reads files left left
reads_nothing [] left = λ name. kept-same (left name)
reads_nothing (file ∷ files) left = (left, within_same file.limit (left file.name), (λ other differs. kept-same (left other)), reads_nothing files left)

-- one file, and then nothing
pub reads_first : (file : FileRead) (files : List FileRead) (before after : Word → Option (List ℕ)) →
    StandsWithin file.limit (before file.name) (after file.name) → KeepsOthers file.name before after → Reads (file ∷ files) before after
reads_first file files before after within others = (after, within, others, reads_nothing files after)

-- two files, and then nothing
pub reads_two : (file second : FileRead) (files : List FileRead) (before between after : Word → Option (List ℕ)) →
    StandsWithin file.limit (before file.name) (between file.name) → KeepsOthers file.name before between →
    StandsWithin second.limit (between second.name) (after second.name) → KeepsOthers second.name between after →
    Reads (file ∷ second ∷ files) before after
reads_two file second files before between after within others more kept =
    (between, within, others, reads_first second files between after more kept)

-- three files
pub reads_three : (file second third : FileRead) (before between behind after : Word → Option (List ℕ)) →
    StandsWithin file.limit (before file.name) (between file.name) → KeepsOthers file.name before between →
    StandsWithin second.limit (between second.name) (behind second.name) → KeepsOthers second.name between behind →
    StandsWithin third.limit (behind third.name) (after third.name) → KeepsOthers third.name behind after →
    Reads (file ∷ second ∷ third ∷ []) before after
reads_three file second third before between behind after within others more kept last rest =
    (between, within, others, reads_two second third [] between behind after more kept last rest)

-- sources or interfaces, one after another
pub reads_sources : (names : List Word) (before after : Word → Option (List ℕ)) → StandFurther names before after →
    Reads (map source_file names) before after
reads_sources [] before after further = further
reads_sources (name ∷ names) before after further = (further.0, further.1, further.2, reads_sources names further.0 after further.3)

-- one file, and then another
pub reads_both : (file second : FileRead) (before between after : Word → Option (List ℕ)) →
    StandsWithin file.limit (before file.name) (between file.name) → KeepsOthers file.name before between →
    StandsWithin second.limit (between second.name) (after second.name) → KeepsOthers second.name between after →
    Reads (file ∷ second ∷ []) before after
reads_both file second before between after within others more kept = (between, within, others, reads_first second [] between after more kept)
