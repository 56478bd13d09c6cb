-- Which files a job reads, and how far.
use Rattle.std.specs.Prelude.{◌≡◌, ℕ, List, [], ◌∷◌, drop, map, Option, Some, None, IfSome}
use Rattle.bl_io.specs.Left.{IsKept, KeepsOthers, StandsFurther}
use Rattle.bl_rows_stream.specs.Streams.{ReadsLines}
use Rattle.bl_top_args.specs.Jobs.{JobSpec, Word, bound, build, check, count, drive, exec, face, gen, link, resume, run, save, save_from, walk}

-- how far a source or an interface is read: one byte past the 1,048,576 bytes that it may have
abbrev pub source_limit : ℕ
source_limit = 1048577

-- the most bytes that a C text may have
abbrev pub longest_text : ℕ
longest_text = 67108864

-- how many bytes of a C text are asked for: one more than it may have
abbrev pub text_limit : ℕ
text_limit = 67108865

-- how many bytes of a saved state are asked for: one more than 1,000,000 cells of eight bytes and ten others
abbrev pub state_limit : ℕ
state_limit = 8000011

-- how many lines a file of rows may have: line 1,000,001 is bad at its first byte
abbrev pub most_rows : ℕ
most_rows = 1000000

-- how far a file is read
pub data Limit : Type 0 where
  -- the first n bytes
  in_bytes : ℕ → Limit
  -- pieces of which none is asked for after more than n lines have begun, and which begin no line behind the next one
  in_lines : ℕ → Limit

-- the state of a file after it was read within a limit
abbrev pub StandsWithin : Limit → Option (List ℕ) → Option (List ℕ) → Type 0
StandsWithin (in_bytes most) before after = StandsFurther most before after
StandsWithin (in_lines most) before after = ReadsLines most before after

-- a file that a job reads, and how far
pub record FileRead : Type 0 where
  pub name : Word
  pub limit : Limit

-- the file of a source or of an interface, with its limit
abbrev pub source_file : Word → FileRead
source_file name = record { name = name; limit = in_bytes source_limit }

-- the file of a C text, with its limit
abbrev pub text_file : Word → FileRead
text_file name = record { name = name; limit = in_bytes text_limit }

-- the file of a saved state, with its limit
abbrev pub state_file : Word → FileRead
state_file name = record { name = name; limit = in_bytes state_limit }

-- the file of rows, with its limit
abbrev pub rows_file : Word → FileRead
rows_file name = record { name = name; limit = in_lines most_rows }

-- the files of a job, in the order in which it reads them: those that its words name
abbrev pub files_read : Option JobSpec → List FileRead
files_read None = []
files_read (Some (check source)) = source_file source ∷ []
files_read (Some (build source)) = source_file source ∷ []
files_read (Some (run source rows)) = source_file source ∷ rows_file rows ∷ []
files_read (Some (walk source rows seed)) = source_file source ∷ rows_file rows ∷ []
files_read (Some (exec text rows)) = text_file text ∷ rows_file rows ∷ []
files_read (Some (drive source ticks plants)) = source_file source ∷ []
files_read (Some (gen stages)) = []
files_read (Some (bound text)) = text_file text ∷ []
files_read (Some (count text rows)) = text_file text ∷ rows_file rows ∷ []
files_read (Some (save text rows)) = text_file text ∷ rows_file rows ∷ []
files_read (Some (save_from text state rows)) = text_file text ∷ state_file state ∷ rows_file rows ∷ []
files_read (Some (resume text state rows)) = text_file text ∷ state_file state ∷ rows_file rows ∷ []
files_read (Some (face source faces)) = source_file source ∷ map source_file faces
files_read (Some (link sources)) = map source_file sources

-- the files are read one after the other, each within its limit, and no other file is
abbrev pub Reads : List FileRead → (Word → Option (List ℕ)) → (Word → Option (List ℕ)) → Type 0
Reads [] before after = (name : Word) → IsKept (before name) (after name)
Reads (file ∷ files) before after =
    (between : Word → Option (List ℕ)) × StandsWithin file.limit (before file.name) (between file.name) × KeepsOthers file.name before between
    × Reads files between after

-- what is left of each file once the first one was read to its end or to the limit
pub record LeftBehind (limit : ℕ) (first : Word) (before between : Word → Option (List ℕ)) : Type 0 where
  pub rest : IfSome (before first) (λ bytes. between first ≡ Some (drop limit bytes))
  pub others : KeepsOthers first before between
