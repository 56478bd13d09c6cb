-- How commands with one value, with two and with three are read, whatever their names.
use Rattle.std.proofs.Common.{◌≡◌, ◌∙◌, ◌==◌, false, true, inl, inr, ℕ, refl, sym, ap, ap₂, List, [], ◌∷◌, Option, Some, None, codes, true≢false}
use Rattle.std.specs.List.{list_all}
use Rattle.clap.specs.Faults.{level_fault}
use Rattle.clap.specs.Simple.{Shape, rows_at}
use Rattle.clap.specs.Walk.{Text, first_of, nothing_held}
use Rattle.clap.specs.declared.error.kind.ErrorKind.TheVariants.{MissingRequiredArgument, UnknownArgument}
use Rattle.clap.proofs.OnLiterals.{clap_on_literals}
use Rattle.bl_top_args.specs.inner.CommandLine.{named_read, one_command, one_if_read, one_read, three_command, three_read, two_command}
use Rattle.bl_top_args.specs.inner.CommandLine.{two_or_three_command, two_or_three_read, two_read}
use Rattle.bl_top_args.specs.Jobs.{JobSpec, Word, is_plain_word, of_one, of_one_if, of_three, of_two, of_two_or_three}
use Rattle.bl_top_args.proofs.Program.{TakesAs, built_command, no_hyphen, others_plain}

-- the commands as the parser builds them
abbrev pub one : Text → Shape
one name = built_command (one_command name)

abbrev pub two : Text → Shape
two name = built_command (two_command name)

abbrev pub three : Text → Shape
three name = built_command (three_command name)

abbrev pub two_or_three : Text → Shape
two_or_three name = built_command (two_or_three_command name)

-- ---- one value

one_fine : (name : Text) (byte : ℕ) (rest : Text) → (byte == 45) ≡ false →
    level_fault (one name) [] nothing_held ((byte ∷ rest) ∷ []) false [] ≡ []
unfolding clap_on_literals
one_fine name byte rest plain = rw (plain, plain) refl

one_value : (name : Text) (byte : ℕ) (rest : Text) → (byte == 45) ≡ false →
    first_of (codes "first") (rows_at (one name) ((byte ∷ rest) ∷ [])).1 ≡ Some (byte ∷ rest)
unfolding clap_on_literals
one_value name byte rest plain = rw (plain, plain) refl

one_too_many : (name : Text) (byte : ℕ) (rest : Text) (next : ℕ) (others : Text) (more : List Text) → (byte == 45) ≡ false → (next == 45) ≡ false
    → level_fault (one name) [] nothing_held ((byte ∷ rest) ∷ ((next ∷ others) ∷ more)) false [] ≡ UnknownArgument ∷ []
unfolding clap_on_literals
one_too_many name byte rest next others more first second = rw (first, first, second, second) refl

module _ (name : Text) (job : Word → JobSpec) (read : (first second third : Option Text) → named_read name first second third ≡ one_read job first) where
  pub one_taken : (values : List Text) → list_all is_plain_word values ≡ true → TakesAs (one name) (of_one job values) values
  unfolding clap_on_literals
  one_taken [] plain = inr (λ none. cc, refl)
  one_taken ([] ∷ more) plain = absurd (true≢false (sym plain))
  one_taken ((byte ∷ rest) ∷ []) plain =
      let first = no_hyphen byte rest [] plain in
      let rows = (rows_at (one name) ((byte ∷ rest) ∷ [])).1 in
      inl (
        one_fine name byte rest first,
        read (first_of (codes "first") rows) (first_of (codes "second") rows) (first_of (codes "third") rows)
            ∙ ap (one_read job) (one_value name byte rest first),
      )
  one_taken ((byte ∷ rest) ∷ ([] ∷ more)) plain = absurd (true≢false (sym (others_plain (byte ∷ rest) ([] ∷ more) plain)))
  one_taken ((byte ∷ rest) ∷ ((next ∷ others) ∷ more)) plain =
      let first = no_hyphen byte rest ((next ∷ others) ∷ more) plain in
      let second = no_hyphen next others more (others_plain (byte ∷ rest) ((next ∷ others) ∷ more) plain) in
      let refused = one_too_many name byte rest next others more first second in
      inr (λ none. let bad : UnknownArgument ∷ [] ≡ [] = sym refused ∙ none in cc, refl)

module _ (name : Text) (job : Word → Option JobSpec)
    (read : (first second third : Option Text) → named_read name first second third ≡ one_if_read job first) where
  pub one_if_taken : (values : List Text) → list_all is_plain_word values ≡ true → TakesAs (one name) (of_one_if job values) values
  unfolding clap_on_literals
  one_if_taken [] plain = inr (λ none. cc, refl)
  one_if_taken ([] ∷ more) plain = absurd (true≢false (sym plain))
  one_if_taken ((byte ∷ rest) ∷ []) plain =
      let first = no_hyphen byte rest [] plain in
      let rows = (rows_at (one name) ((byte ∷ rest) ∷ [])).1 in
      inl (
        one_fine name byte rest first,
        read (first_of (codes "first") rows) (first_of (codes "second") rows) (first_of (codes "third") rows)
            ∙ ap (one_if_read job) (one_value name byte rest first),
      )
  one_if_taken ((byte ∷ rest) ∷ ([] ∷ more)) plain = absurd (true≢false (sym (others_plain (byte ∷ rest) ([] ∷ more) plain)))
  one_if_taken ((byte ∷ rest) ∷ ((next ∷ others) ∷ more)) plain =
      let first = no_hyphen byte rest ((next ∷ others) ∷ more) plain in
      let second = no_hyphen next others more (others_plain (byte ∷ rest) ((next ∷ others) ∷ more) plain) in
      let refused = one_too_many name byte rest next others more first second in
      inr (λ none. let bad : UnknownArgument ∷ [] ≡ [] = sym refused ∙ none in cc, refl)

-- ---- two values

two_missing : (name : Text) (byte : ℕ) (rest : Text) → (byte == 45) ≡ false →
    level_fault (two name) [] nothing_held ((byte ∷ rest) ∷ []) false [] ≡ MissingRequiredArgument ∷ []
unfolding clap_on_literals
two_missing name byte rest plain = rw (plain, plain) refl

two_fine : (name : Text) (byte : ℕ) (rest : Text) (next : ℕ) (others : Text) → (byte == 45) ≡ false → (next == 45) ≡ false
    → level_fault (two name) [] nothing_held ((byte ∷ rest) ∷ ((next ∷ others) ∷ [])) false [] ≡ []
unfolding clap_on_literals
two_fine name byte rest next others first second = rw (first, first, second, second) refl

two_first : (name : Text) (byte : ℕ) (rest : Text) (next : ℕ) (others : Text) → (byte == 45) ≡ false → (next == 45) ≡ false
    → first_of (codes "first") (rows_at (two name) ((byte ∷ rest) ∷ ((next ∷ others) ∷ []))).1 ≡ Some (byte ∷ rest)
unfolding clap_on_literals
two_first name byte rest next others first second = rw (first, first, second, second) refl

two_second : (name : Text) (byte : ℕ) (rest : Text) (next : ℕ) (others : Text) → (byte == 45) ≡ false → (next == 45) ≡ false
    → first_of (codes "second") (rows_at (two name) ((byte ∷ rest) ∷ ((next ∷ others) ∷ []))).1 ≡ Some (next ∷ others)
unfolding clap_on_literals
two_second name byte rest next others first second = rw (first, first, second, second) refl

two_too_many : (name : Text) (byte : ℕ) (rest : Text) (next : ℕ) (others : Text) (last : ℕ) (end : Text) (more : List Text) →
    (byte == 45) ≡ false → (next == 45) ≡ false
    → (last == 45) ≡ false
    → level_fault (two name) [] nothing_held ((byte ∷ rest) ∷ ((next ∷ others) ∷ ((last ∷ end) ∷ more))) false [] ≡ UnknownArgument ∷ []
unfolding clap_on_literals
two_too_many name byte rest next others last end more first second third = rw (first, first, second, second, third, third) refl

module _ (name : Text) (job : Word → Word → JobSpec)
    (read : (first second third : Option Text) → named_read name first second third ≡ two_read job first second) where
  two_taken_more : (byte : ℕ) (rest : Text) (next : ℕ) (others : Text) (more : List Text) → (byte == 45) ≡ false → (next == 45) ≡ false
      → list_all is_plain_word more ≡ true → TakesAs (two name) (of_two job ((byte ∷ rest) ∷ ((next ∷ others) ∷ more)))
      ((byte ∷ rest) ∷ ((next ∷ others) ∷ more))
  two_taken_more byte rest next others [] first second plain =
      let rows = (rows_at (two name) ((byte ∷ rest) ∷ ((next ∷ others) ∷ []))).1 in
      inl (
        two_fine name byte rest next others first second,
        read (first_of (codes "first") rows) (first_of (codes "second") rows) (first_of (codes "third") rows)
            ∙ ap₂ (two_read job) (two_first name byte rest next others first second) (two_second name byte rest next others first second),
      )
  two_taken_more byte rest next others ([] ∷ more) first second plain = absurd (true≢false (sym plain))
  two_taken_more byte rest next others ((last ∷ end) ∷ more) first second plain =
      let refused = two_too_many name byte rest next others last end more first second (no_hyphen last end more plain) in
      inr (λ none. let bad : UnknownArgument ∷ [] ≡ [] = sym refused ∙ none in cc, refl)

  pub two_taken : (values : List Text) → list_all is_plain_word values ≡ true → TakesAs (two name) (of_two job values) values
  unfolding clap_on_literals
  two_taken [] plain = inr (λ none. cc, refl)
  two_taken ([] ∷ more) plain = absurd (true≢false (sym plain))
  two_taken ((byte ∷ rest) ∷ []) plain =
      let refused = two_missing name byte rest (no_hyphen byte rest [] plain) in
      inr (λ none. let bad : MissingRequiredArgument ∷ [] ≡ [] = sym refused ∙ none in cc, refl)
  two_taken ((byte ∷ rest) ∷ ([] ∷ more)) plain = absurd (true≢false (sym (others_plain (byte ∷ rest) ([] ∷ more) plain)))
  two_taken ((byte ∷ rest) ∷ ((next ∷ others) ∷ more)) plain =
      let first = no_hyphen byte rest ((next ∷ others) ∷ more) plain in
      let after = others_plain (byte ∷ rest) ((next ∷ others) ∷ more) plain in
      two_taken_more byte rest next others more first (no_hyphen next others more after) (others_plain (next ∷ others) more after)

-- ---- three values

three_missing_two : (name : Text) (byte : ℕ) (rest : Text) → (byte == 45) ≡ false →
    level_fault (three name) [] nothing_held ((byte ∷ rest) ∷ []) false [] ≡ MissingRequiredArgument ∷ []
unfolding clap_on_literals
three_missing_two name byte rest plain = rw (plain, plain) refl

three_missing : (name : Text) (byte : ℕ) (rest : Text) (next : ℕ) (others : Text) → (byte == 45) ≡ false → (next == 45) ≡ false
    → level_fault (three name) [] nothing_held ((byte ∷ rest) ∷ ((next ∷ others) ∷ [])) false [] ≡ MissingRequiredArgument ∷ []
unfolding clap_on_literals
three_missing name byte rest next others first second = rw (first, first, second, second) refl

-- three words, none of which begins with a hyphen
module _ (name : Text) (byte : ℕ) (rest : Text) (next : ℕ) (others : Text) (last : ℕ) (end : Text) (first : (byte == 45) ≡ false)
    (second : (next == 45) ≡ false) (third : (last == 45) ≡ false) where
  abbrev three_words : List Text
  three_words = (byte ∷ rest) ∷ ((next ∷ others) ∷ ((last ∷ end) ∷ []))

  three_fine : level_fault (three name) [] nothing_held three_words false [] ≡ []
  unfolding clap_on_literals
  three_fine = rw (first, first, second, second, third, third) refl

  three_first : first_of (codes "first") (rows_at (three name) three_words).1 ≡ Some (byte ∷ rest)
  unfolding clap_on_literals
  three_first = rw (first, first, second, second, third, third) refl

  three_second : first_of (codes "second") (rows_at (three name) three_words).1 ≡ Some (next ∷ others)
  unfolding clap_on_literals
  three_second = rw (first, first, second, second, third, third) refl

  three_third : first_of (codes "third") (rows_at (three name) three_words).1 ≡ Some (last ∷ end)
  unfolding clap_on_literals
  three_third = rw (first, first, second, second, third, third) refl

  three_too_many : (byte' : ℕ) (behind : Text) (more : List Text) → (byte' == 45) ≡ false →
      level_fault (three name) [] nothing_held ((byte ∷ rest) ∷ ((next ∷ others) ∷ ((last ∷ end) ∷ ((byte' ∷ behind) ∷ more)))) false []
      ≡ UnknownArgument ∷ []
  unfolding clap_on_literals
  three_too_many byte' behind more fourth = rw (first, first, second, second, third, third, fourth, fourth) refl

module _ (name : Text) (job : Word → Word → Word → Option JobSpec)
    (read : (first second third : Option Text) → named_read name first second third ≡ three_read job first second third) where
  three_taken_all : (byte : ℕ) (rest : Text) (next : ℕ) (others : Text) (last : ℕ) (end : Text) (more : List Text) → (byte == 45) ≡ false →
      (next == 45) ≡ false → (last == 45) ≡ false → list_all is_plain_word more ≡ true →
      TakesAs (three name) (of_three job ((byte ∷ rest) ∷ ((next ∷ others) ∷ ((last ∷ end) ∷ more))))
      ((byte ∷ rest) ∷ ((next ∷ others) ∷ ((last ∷ end) ∷ more)))
  three_taken_all byte rest next others last end [] first second third plain =
      let rows = (rows_at (three name) ((byte ∷ rest) ∷ ((next ∷ others) ∷ ((last ∷ end) ∷ [])))).1 in
      inl (
        three_fine name byte rest next others last end first second third,
        read (first_of (codes "first") rows) (first_of (codes "second") rows) (first_of (codes "third") rows)
            ∙ ap₂ (λ a b. three_read job a b (first_of (codes "third") rows)) (three_first name byte rest next others last end first second third)
            (three_second name byte rest next others last end first second third)
            ∙ ap (three_read job (Some (byte ∷ rest)) (Some (next ∷ others))) (three_third name byte rest next others last end first second third),
      )
  three_taken_all byte rest next others last end ([] ∷ more) first second third plain = absurd (true≢false (sym plain))
  three_taken_all byte rest next others last end ((byte' ∷ behind) ∷ more) first second third plain =
      let refused = three_too_many name byte rest next others last end first second third byte' behind more (no_hyphen byte' behind more plain) in
      inr (λ none. let bad : UnknownArgument ∷ [] ≡ [] = sym refused ∙ none in cc, refl)

  three_taken_more : (byte : ℕ) (rest : Text) (next : ℕ) (others : Text) (more : List Text) → (byte == 45) ≡ false → (next == 45) ≡ false
      → list_all is_plain_word more ≡ true → TakesAs (three name) (of_three job ((byte ∷ rest) ∷ ((next ∷ others) ∷ more)))
      ((byte ∷ rest) ∷ ((next ∷ others) ∷ more))
  three_taken_more byte rest next others [] first second plain =
      let refused = three_missing name byte rest next others first second in
      inr (λ none. let bad : MissingRequiredArgument ∷ [] ≡ [] = sym refused ∙ none in cc, refl)
  three_taken_more byte rest next others ([] ∷ more) first second plain = absurd (true≢false (sym plain))
  three_taken_more byte rest next others ((last ∷ end) ∷ more) first second plain =
      three_taken_all byte rest next others last end more first second (no_hyphen last end more plain) (others_plain (last ∷ end) more plain)

  pub three_taken : (values : List Text) → list_all is_plain_word values ≡ true → TakesAs (three name) (of_three job values) values
  unfolding clap_on_literals
  three_taken [] plain = inr (λ none. cc, refl)
  three_taken ([] ∷ more) plain = absurd (true≢false (sym plain))
  three_taken ((byte ∷ rest) ∷ []) plain =
      let refused = three_missing_two name byte rest (no_hyphen byte rest [] plain) in
      inr (λ none. let bad : MissingRequiredArgument ∷ [] ≡ [] = sym refused ∙ none in cc, refl)
  three_taken ((byte ∷ rest) ∷ ([] ∷ more)) plain = absurd (true≢false (sym (others_plain (byte ∷ rest) ([] ∷ more) plain)))
  three_taken ((byte ∷ rest) ∷ ((next ∷ others) ∷ more)) plain =
      let first = no_hyphen byte rest ((next ∷ others) ∷ more) plain in
      let after = others_plain (byte ∷ rest) ((next ∷ others) ∷ more) plain in
      three_taken_more byte rest next others more first (no_hyphen next others more after) (others_plain (next ∷ others) more after)

-- ---- two values, and a third that may be left out

either_missing : (name : Text) (byte : ℕ) (rest : Text) → (byte == 45) ≡ false →
    level_fault (two_or_three name) [] nothing_held ((byte ∷ rest) ∷ []) false [] ≡ MissingRequiredArgument ∷ []
unfolding clap_on_literals
either_missing name byte rest plain = rw (plain, plain) refl

-- two words, none of which begins with a hyphen
module _ (name : Text) (byte : ℕ) (rest : Text) (next : ℕ) (others : Text) (first : (byte == 45) ≡ false) (second : (next == 45) ≡ false) where
  abbrev shorter : List Text
  shorter = (byte ∷ rest) ∷ ((next ∷ others) ∷ [])

  shorter_fine : level_fault (two_or_three name) [] nothing_held shorter false [] ≡ []
  unfolding clap_on_literals
  shorter_fine = rw (first, first, second, second) refl

  shorter_first : first_of (codes "first") (rows_at (two_or_three name) shorter).1 ≡ Some (byte ∷ rest)
  unfolding clap_on_literals
  shorter_first = rw (first, first, second, second) refl

  shorter_second : first_of (codes "second") (rows_at (two_or_three name) shorter).1 ≡ Some (next ∷ others)
  unfolding clap_on_literals
  shorter_second = rw (first, first, second, second) refl

  shorter_third : first_of (codes "third") (rows_at (two_or_three name) shorter).1 ≡ None
  unfolding clap_on_literals
  shorter_third = rw (first, first, second, second) refl

-- three words, none of which begins with a hyphen
module _ (name : Text) (byte : ℕ) (rest : Text) (next : ℕ) (others : Text) (last : ℕ) (end : Text) (first : (byte == 45) ≡ false)
    (second : (next == 45) ≡ false) (third : (last == 45) ≡ false) where
  abbrev longer : List Text
  longer = (byte ∷ rest) ∷ ((next ∷ others) ∷ ((last ∷ end) ∷ []))

  longer_fine : level_fault (two_or_three name) [] nothing_held longer false [] ≡ []
  unfolding clap_on_literals
  longer_fine = rw (first, first, second, second, third, third) refl

  longer_first : first_of (codes "first") (rows_at (two_or_three name) longer).1 ≡ Some (byte ∷ rest)
  unfolding clap_on_literals
  longer_first = rw (first, first, second, second, third, third) refl

  longer_second : first_of (codes "second") (rows_at (two_or_three name) longer).1 ≡ Some (next ∷ others)
  unfolding clap_on_literals
  longer_second = rw (first, first, second, second, third, third) refl

  longer_third : first_of (codes "third") (rows_at (two_or_three name) longer).1 ≡ Some (last ∷ end)
  unfolding clap_on_literals
  longer_third = rw (first, first, second, second, third, third) refl

  longer_too_many : (byte' : ℕ) (behind : Text) (more : List Text) → (byte' == 45) ≡ false →
      level_fault (two_or_three name) [] nothing_held ((byte ∷ rest) ∷ ((next ∷ others) ∷ ((last ∷ end) ∷ ((byte' ∷ behind) ∷ more)))) false []
      ≡ UnknownArgument ∷ []
  unfolding clap_on_literals
  longer_too_many byte' behind more fourth = rw (first, first, second, second, third, third, fourth, fourth) refl

module _ (name : Text) (job : Word → Word → JobSpec) (further : Word → Word → Word → JobSpec)
    (read : (first second third : Option Text) → named_read name first second third ≡ two_or_three_read job further first second third) where
  abbrev asked : List Word → Option JobSpec
  asked = of_two_or_three job further

  shorter_taken : (byte : ℕ) (rest : Text) (next : ℕ) (others : Text) → (byte == 45) ≡ false → (next == 45) ≡ false →
      TakesAs (two_or_three name) (asked ((byte ∷ rest) ∷ ((next ∷ others) ∷ []))) ((byte ∷ rest) ∷ ((next ∷ others) ∷ []))
  shorter_taken byte rest next others first second =
      let rows = (rows_at (two_or_three name) ((byte ∷ rest) ∷ ((next ∷ others) ∷ []))).1 in
      inl (
        shorter_fine name byte rest next others first second,
        read (first_of (codes "first") rows) (first_of (codes "second") rows) (first_of (codes "third") rows)
            ∙ ap₂ (λ a b. two_or_three_read job further a b (first_of (codes "third") rows)) (shorter_first name byte rest next others first second)
            (shorter_second name byte rest next others first second)
            ∙ ap (two_or_three_read job further (Some (byte ∷ rest)) (Some (next ∷ others))) (shorter_third name byte rest next others first second),
      )

  longer_taken : (byte : ℕ) (rest : Text) (next : ℕ) (others : Text) (last : ℕ) (end : Text) (more : List Text) → (byte == 45) ≡ false →
      (next == 45) ≡ false → (last == 45) ≡ false → list_all is_plain_word more ≡ true →
      TakesAs (two_or_three name) (asked ((byte ∷ rest) ∷ ((next ∷ others) ∷ ((last ∷ end) ∷ more))))
      ((byte ∷ rest) ∷ ((next ∷ others) ∷ ((last ∷ end) ∷ more)))
  longer_taken byte rest next others last end [] first second third plain =
      let rows = (rows_at (two_or_three name) ((byte ∷ rest) ∷ ((next ∷ others) ∷ ((last ∷ end) ∷ [])))).1 in
      inl (
        longer_fine name byte rest next others last end first second third,
        read (first_of (codes "first") rows) (first_of (codes "second") rows) (first_of (codes "third") rows)
            ∙ ap₂ (λ a b. two_or_three_read job further a b (first_of (codes "third") rows))
            (longer_first name byte rest next others last end first second third)
            (longer_second name byte rest next others last end first second third)
            ∙ ap (two_or_three_read job further (Some (byte ∷ rest)) (Some (next ∷ others)))
            (longer_third name byte rest next others last end first second third),
      )
  longer_taken byte rest next others last end ([] ∷ more) first second third plain = absurd (true≢false (sym plain))
  longer_taken byte rest next others last end ((byte' ∷ behind) ∷ more) first second third plain =
      let refused = longer_too_many name byte rest next others last end first second third byte' behind more (no_hyphen byte' behind more plain) in
      inr (λ none. let bad : UnknownArgument ∷ [] ≡ [] = sym refused ∙ none in cc, refl)

  either_taken_more : (byte : ℕ) (rest : Text) (next : ℕ) (others : Text) (more : List Text) → (byte == 45) ≡ false → (next == 45) ≡ false
      → list_all is_plain_word more ≡ true → TakesAs (two_or_three name) (asked ((byte ∷ rest) ∷ ((next ∷ others) ∷ more)))
      ((byte ∷ rest) ∷ ((next ∷ others) ∷ more))
  either_taken_more byte rest next others [] first second plain = shorter_taken byte rest next others first second
  either_taken_more byte rest next others ([] ∷ more) first second plain = absurd (true≢false (sym plain))
  either_taken_more byte rest next others ((last ∷ end) ∷ more) first second plain =
      longer_taken byte rest next others last end more first second (no_hyphen last end more plain) (others_plain (last ∷ end) more plain)

  pub two_or_three_taken : (values : List Text) → list_all is_plain_word values ≡ true → TakesAs (two_or_three name) (asked values) values
  unfolding clap_on_literals
  two_or_three_taken [] plain = inr (λ none. cc, refl)
  two_or_three_taken ([] ∷ more) plain = absurd (true≢false (sym plain))
  two_or_three_taken ((byte ∷ rest) ∷ []) plain =
      let refused = either_missing name byte rest (no_hyphen byte rest [] plain) in
      inr (λ none. let bad : MissingRequiredArgument ∷ [] ≡ [] = sym refused ∙ none in cc, refl)
  two_or_three_taken ((byte ∷ rest) ∷ ([] ∷ more)) plain = absurd (true≢false (sym (others_plain (byte ∷ rest) ([] ∷ more) plain)))
  two_or_three_taken ((byte ∷ rest) ∷ ((next ∷ others) ∷ more)) plain =
      let first = no_hyphen byte rest ((next ∷ others) ∷ more) plain in
      let after = others_plain (byte ∷ rest) ((next ∷ others) ∷ more) plain in
      either_taken_more byte rest next others more first (no_hyphen next others more after) (others_plain (next ∷ others) more after)
