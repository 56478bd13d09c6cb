-- What is judged of the fronts that were read holds of the whole texts.
use Rattle.std.proofs.Common.{◌≡◌, ◌∙◌, ℕ, ◌+◌, ◌<◌, ◌≤◌, zero, suc, List, [], ◌∷◌, ◌++◌, length, length-append, take, drop, refl, sym, ap, ap₂, subst}
use Rattle.std.proofs.Common.{arith}
use Rattle.std.proofs.lemmas.List.{append_assoc, length-take-le, take-append-drop}
use Rattle.std.proofs.lemmas.Option.{same_Some, slice_get_within}
use Rattle.std.specs.Prelude.{Some, slice_get}
use Rattle.bl_tree.proofs.Basics.{get_taken, some_within}
use Rattle.bl_io.specs.declared.fault.IoFault.{IoFault}
use Rattle.bl_io.specs.declared.fault.IoFault.TheVariants as io
use Rattle.bl_face.specs.declared.face.Face.{Face}
use Rattle.bl_link.proofs.Lists.{take-take}
use Rattle.bl_link.specs.Files.{AreFilesOf, FailsAtFile}
use Rattle.bl_link_files.proofs.Fronts.{count_of}
use Rattle.bl_link_files.specs.declared.fault.ProgramFault.{ProgramFault}
use Rattle.bl_link_files.specs.declared.fault.ProgramFault.TheVariants as fault
use Rattle.bl_link_files.specs.inner.Fronts.{AreFirstTexts, AreFronts, FrontsRead, StopsUnread}
use Rattle.bl_link_files.specs.inner.Judged.{IsStopOf, TextsStop}
use Rattle.bl_link_files.specs.Programs.{FailsInTurn, HaveNoProgram, IsProgramOfFiles}
use Rattle.bl_module.specs.declared.behind.Behind.{Behind}
use Rattle.bl_module.specs.declared.taken.Taken.{Taken}
use Rattle.bl_module.specs.Faces.{behind_faces}
use Rattle.bl_module.specs.Rules.{PassesIn}
use Rattle.bl_module_files.specs.Told.{FrontsFailAsWholes, FrontsThatPassAreWhole}
use Rattle.bl_module_files.specs.Turns.{Left, WereRead, file_limit, next, none}
use Rattle.bl_module_laws.specs.Files.{AreGoodFiles, taken_at}
use Rattle.bl_tree.specs.declared.place.Place.{Place}
use Rattle.bl_tree.specs.declared.program.Program.{Program}
use Rattle.bl_tree.specs.declared.rule.Rule.{Rule}

-- ---- fronts

fronts_take : (texts gots : List (List ℕ)) (n : ℕ) → AreFronts texts gots → AreFronts (take n texts) (take n gots)
fronts_take texts gots zero fronts = tt
fronts_take [] [] (suc n) fronts = tt
fronts_take [] (got ∷ gots) (suc n) fronts = absurd fronts
fronts_take (text ∷ texts) [] (suc n) fronts = absurd fronts
fronts_take (text ∷ texts) (got ∷ gots) (suc n) fronts = (fronts.0, fronts_take texts gots n fronts.1)

-- the text of the front at a position
pub record TextAt (texts : List (List ℕ)) (k : ℕ) (got : List ℕ) : Type 0 where
  pub text : List ℕ
  pub is_there : slice_get texts k ≡ Some text
  pub front : got ≡ take file_limit text

text_at : (texts gots : List (List ℕ)) (k : ℕ) (got : List ℕ) → AreFronts texts gots → slice_get gots k ≡ Some got → TextAt texts k got
text_at [] [] k got fronts at = absurd (let within = slice_get_within [] k got at in omega (arith, within))
text_at [] (other ∷ gots) k got fronts at = absurd fronts
text_at (text ∷ texts) [] k got fronts at = absurd fronts
text_at (text ∷ texts) (other ∷ gots) zero got fronts at =
    record { text = text; is_there = refl; front = sym (same_Some other got at) ∙ fronts.0 }
text_at (text ∷ texts) (other ∷ gots) (suc k) got fronts at =
    let behind = text_at texts gots k got fronts.1 at in
    record { text = behind.text; is_there = behind.is_there; front = behind.front }

-- ---- good files

-- no rule fails for the text behind some faces
abbrev PassesSomewhere : List ℕ → Type 0
PassesSomewhere text = (behind : Behind) × ((taken : Taken) × PassesIn behind taken text)

good_pass : (count : ℕ) (texts : List (List ℕ)) (faces : List Face) → AreGoodFiles count texts faces → (k : ℕ) (text : List ℕ) →
    slice_get texts k ≡ Some text → PassesSomewhere text
good_pass count texts faces good k text at =
    let within = slice_get_within texts k text at in
    let counted = good.counted in
    let less : k < length faces = omega (arith, within, counted) in
    let here = some_within faces k less in
    (behind_faces (take k faces), (taken_at count k, (good.each k text here.0 at here.1).passes))

same_all : FrontsThatPassAreWhole → (texts gots : List (List ℕ)) → AreFronts texts gots →
    ((k : ℕ) (got : List ℕ) → slice_get gots k ≡ Some got → PassesSomewhere got) → texts ≡ gots
same_all law [] [] fronts pass = refl
same_all law [] (got ∷ gots) fronts pass = absurd fronts
same_all law (text ∷ texts) [] fronts pass = absurd fronts
same_all law (text ∷ texts) (got ∷ gots) fronts pass =
    let here = pass 0 got refl in
    ap₂ (λ (x : List ℕ) (xs : List (List ℕ)). x ∷ xs) (law here.0 here.1.0 text got fronts.0 here.1.1)
    (same_all law texts gots fronts.1 (λ k it at. pass (suc k) it at))

-- good files were read whole
pub good_whole : FrontsThatPassAreWhole → (count : ℕ) (texts gots : List (List ℕ)) (faces : List Face) → AreFronts texts gots →
    AreGoodFiles count gots faces → texts ≡ gots
good_whole law count texts gots faces fronts good = same_all law texts gots fronts (good_pass count gots faces good)

-- ---- a file for which a rule fails

module _ (passing : FrontsThatPassAreWhole) (failing : FrontsFailAsWholes) where
  fails_whole : (count : ℕ) (texts gots : List (List ℕ)) (file : ℕ) (rule : Rule) (place : Place) (also : List Place) → AreFronts texts gots →
      FailsAtFile count (take file gots) file rule place also → FailsAtFile count (take file texts) file rule place also
  fails_whole count texts gots file rule place also fronts is =
      let counted = is.counted in
      let less : is.position < file = omega (arith, counted) in
      let most : is.position ≤ file = omega (arith, counted) in
      let here = text_at texts gots is.position is.text fronts (sym (get_taken gots file is.position less) ∙ is.is_there) in
      let before : AreGoodFiles count (take is.position gots) is.faces =
      subst (λ ts. AreGoodFiles count ts is.faces) (take-take gots file is.position most) is.before in
      let same : take is.position texts ≡ take is.position gots =
      good_whole passing count (take is.position texts) (take is.position gots) is.faces (fronts_take texts gots is.position fronts) before in
      record {
        position = is.position;
        counted = is.counted;
        text = here.text;
        is_there = get_taken texts file is.position less ∙ here.is_there;
        faces = is.faces;
        before = subst (λ ts. AreGoodFiles count ts is.faces) (sym (take-take texts file is.position most ∙ same)) before;
        fails = record {
          stand = is.fails.stand;
          first = failing (behind_faces is.faces) (taken_at count is.position) here.text is.text rule place also here.front is.fails.first;
        };
      }

  -- the first files alone
  first_reads : (before after : Left) (names texts : List (List ℕ)) (n : ℕ) → WereRead before names texts after →
      (now : Left) × WereRead before (take n names) (take n texts) now
  first_reads before _ _ _ zero read = (before, none)
  first_reads before _ _ _ (suc n) none = (before, none)
  first_reads _ _ _ _ (suc n) (next {before} {between} {after} {name} {text} {names} {texts} read more) =
      let behind = first_reads between after names texts n more in
      (behind.0, next read behind.1)

  file_there : (count : ℕ) (gots : List (List ℕ)) (file : ℕ) (rule : Rule) (place : Place) (also : List Place) →
      FailsAtFile count (take file gots) file rule place also → file ≤ length gots
  file_there count gots file rule place also is =
      let counted = is.counted in
      let less : is.position < file = omega (arith, counted) in
      let within = slice_get_within gots is.position is.text (sym (get_taken gots file is.position less) ∙ is.is_there) in
      omega (arith, counted, within)

  module _ (left now : Left) (names earlier behind gots : List (List ℕ)) (names_are : names ≡ earlier ++ behind)
      (read : FrontsRead left earlier gots now) where
    pub fails_in_turn : (file : ℕ) (rule : Rule) (place : Place) (also : List Place) → FailsAtFile (length names) (take file gots) file rule place also →
        FailsInTurn left names file rule place also
    fails_in_turn file rule place also is =
        let first = first_reads left now earlier read.texts file read.read in
        let within = file_there (length names) gots file rule place also is in
        let counted = count_of left now earlier gots read in
        record {
          earlier = take file earlier;
          later = drop file earlier ++ behind;
          names_are = names_are ∙ ap (λ ns. ns ++ behind) (sym (take-append-drop file earlier))
              ∙ append_assoc (take file earlier) (drop file earlier) behind;
          counted = sym (length-take-le file earlier (omega (arith, within, counted)));
          texts = take file read.texts;
          now = first.0;
          read = first.1;
          fails = fails_whole (length names) read.texts gots file rule place also read.fronts is;
        }

  nil_behind : (xs : List (List ℕ)) → xs ≡ xs ++ []
  nil_behind [] = refl
  nil_behind (x ∷ xs) = ap (λ rest. x ∷ rest) (nil_behind xs)

  module _ (left rest : Left) (names gots : List (List ℕ)) (read : FrontsRead left names gots rest) where
    whole_read : (count : ℕ) (faces : List Face) → AreGoodFiles count gots faces → WereRead left names gots rest
    whole_read count faces good =
        subst (λ ts. WereRead left names ts rest) (good_whole passing count read.texts gots faces read.fronts good) read.read

    -- the program of all files
    pub program_is : (program : Program) → AreFilesOf gots program → IsProgramOfFiles left names program
    program_is program are =
        record { texts = gots; after = rest; read = whole_read (length gots) are.faces are.good; are = are }

    -- why all files have none
    pub texts_stop : (first last : List ℕ → ℕ) (told : ProgramFault) → TextsStop gots told → HaveNoProgram left first last names told
    texts_stop first last fault.Unread why = absurd why
    texts_stop first last (fault.InTurn file rule place also) fails =
        fails_in_turn left rest names names [] gots (nil_behind names) read file rule place also
        (subst (λ n. FailsAtFile n (take file gots) file rule place also) (count_of left rest names gots read) fails)
    texts_stop first last (fault.Together file rule place) fail =
        record { texts = gots; after = rest; read = whole_read (length gots) fail.faces fail.good; fail = fail }
    texts_stop first last fault.NoMemory why = tt

  -- why files have none of which one can't be read
  pub unread_stops : (left : Left) (first last : List ℕ → ℕ) (names gots : List (List ℕ)) (told : ProgramFault) → StopsUnread left first last names gots →
      IsStopOf (length names) gots told → HaveNoProgram left first last names told
  unread_stops left first last names gots fault.Unread stops good = record {
    earlier = stops.earlier;
    name = stops.name;
    later = stops.later;
    names_are = stops.names_are;
    texts = gots;
    now = stops.now;
    read = whole_read left stops.now stops.earlier gots stops.read (length names) good.faces good.good;
    faces = good.faces;
    good = good.good;
    rose = stops.rose;
  }
  unread_stops left first last names gots (fault.InTurn file rule place also) stops fails =
      fails_in_turn left stops.now names stops.earlier (stops.name ∷ stops.later) gots stops.names_are stops.read file rule place also fails
  unread_stops left first last names gots (fault.Together file rule place) stops why = absurd why
  unread_stops left first last names gots fault.NoMemory stops why = tt

-- not all files were read of which one can't be
pub unread_count : (left : Left) (first last : List ℕ → ℕ) (names gots : List (List ℕ)) → StopsUnread left first last names gots →
    length gots ≤ length names
unread_count left first last names gots stops =
    let counted = count_of left stops.now stops.earlier gots stops.read in
    let all : length names ≡ length stops.earlier + length (stops.name ∷ stops.later) = ap length stops.names_are
    ∙ length-append stops.earlier (stops.name ∷ stops.later) in
    omega (arith, counted, all)

-- so many were read at most, where a read failed
pub unread_within : (left rest : Left) (first last : List ℕ → ℕ) (names gots : List (List ℕ)) (stop : IoFault) →
    AreFirstTexts left rest first last names gots (Some stop) → stop ≡ io.Failed → length gots ≤ length names
unread_within left rest first last names gots io.Failed stops failed = unread_count left first last names gots stops
unread_within left rest first last names gots io.NoMemory stops failed = absurd (cc)

-- why files have no program once a read came to nothing
pub stop_ends : FrontsThatPassAreWhole → FrontsFailAsWholes → (left rest : Left) (first last : List ℕ → ℕ) (names gots : List (List ℕ)) (stop : IoFault)
    (told : ProgramFault) → AreFirstTexts left rest first last names gots (Some stop) → (stop ≡ io.Failed → IsStopOf (length names) gots told) →
    (stop ≡ io.NoMemory → told ≡ fault.NoMemory) → HaveNoProgram left first last names told
stop_ends passing failing left rest first last names gots io.Failed told stops failed memory =
    unread_stops passing failing left first last names gots told stops (failed refl)
stop_ends passing failing left rest first last names gots io.NoMemory told stops failed memory = rw (memory refl) tt
