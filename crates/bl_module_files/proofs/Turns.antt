-- Files that were read in turn.
use Rattle.std.proofs.Common.{◌≡◌, ◌∙◌, ℕ, ◌+◌, ◌<◌, ◌≤◌, suc, List, [], ◌∷◌, ◌++◌, map, take, drop, length, min, get_or, refl, sym, ap, subst, inl, inr, arith}
use Rattle.std.proofs.Math.Seq.{split_at, take-suc}
use Rattle.std.proofs.lemmas.Bool.{cases_lt}
use Rattle.std.proofs.lemmas.List.{length-take, length-take-le, take_all}
use Rattle.std.specs.Prelude.{◌⊎◌, Option, Some, None, IfSome}
use Rattle.bl_io.specs.Count.{NeverFell, Rose}
use Rattle.bl_io.specs.declared.fault.IoFault.TheVariants as io
use Rattle.bl_io.specs.Left.{GivesUpTo, IsKept, KeepsOthers, StandsFurther}
use Rattle.bl_face.specs.declared.face.Face.{Face}
use Rattle.bl_face.specs.Reading.{NotFaceAt, ReadsAs, stops, too_long}
use Rattle.bl_module_files.specs.declared.fault.FilesFault.{FilesFault}
use Rattle.bl_module_files.specs.declared.fault.FilesFault.TheVariants as fault
use Rattle.bl_module_files.specs.Faces.{AreFaces, AreSpelled, ComesTo, FacesStop, IsNoFace}
use Rattle.bl_module_files.specs.Turns.{IsText, Left, StandFurther, WasRead, WereRead, file_limit, next, none}
use Rattle.bl_module_files.specs.inner.Read.{FaceStops, IsFaceIn, IsNoFaceIn}

-- ---- the text of a file of which a front was read

abbrev pub text_of : Option (List ℕ) → List ℕ → List ℕ
text_of None got = got
text_of (Some whole) got = whole

pub is_text_of : (left : Option (List ℕ)) (got : List ℕ) → IsText left (text_of left got)
is_text_of None got = tt
is_text_of (Some whole) got = refl

-- a front is the whole, or both have more bytes than may be
pub whole_or_long : (whole got : List ℕ) → got ≡ take file_limit whole → (whole ≡ got) ⊎ ((1_048_576 < length got) × (1_048_576 < length whole))
whole_or_long whole got front = elim (cases_lt file_limit (length whole)) [
  | inl beyond ↦ inr (let e : length got ≡ min file_limit (length whole) = ap length front ∙ length-take file_limit whole in
      (omega (arith, e, beyond), omega (arith, beyond)))
  | inr within ↦ elim (cases_lt (length whole) file_limit) [
    | inl short ↦ inl (sym (front ∙ take_all file_limit whole within))
    | inr full ↦ inr (let e : length got ≡ min file_limit (length whole) = ap length front ∙ length-take file_limit whole in
        (omega (arith, e, within, full), omega (arith, within, full)))
  ]
]

pub text_or_long : (left : Option (List ℕ)) (got : List ℕ) (after : Option (List ℕ)) → GivesUpTo file_limit left got after →
    (text_of left got ≡ got) ⊎ ((1_048_576 < length got) × (1_048_576 < length (text_of left got)))
text_or_long None got after read = inl refl
text_or_long (Some whole) got after read = whole_or_long whole got read.front

rest_of : (left : Option (List ℕ)) (got : List ℕ) (after : Option (List ℕ)) → GivesUpTo file_limit left got after →
    IfSome left (λ bytes. after ≡ Some (drop file_limit bytes))
rest_of None got after read = tt
rest_of (Some whole) got after read = read.rest

pub was_read : (name got : List ℕ) (before after : Left) → GivesUpTo file_limit (before name) got (after name) → KeepsOthers name before after →
    WasRead name (text_of (before name) got) before after
was_read name got before after read others = record {
  is_text = is_text_of (before name) got;
  rest = rest_of (before name) got (after name) read;
  others = others;
}

-- ---- faces

spells_whole : (left : Option (List ℕ)) (got : List ℕ) (after : Option (List ℕ)) (face : Face) → GivesUpTo file_limit left got after → ReadsAs got face →
    ReadsAs (text_of left got) face
spells_whole left got after face read spells = elim (text_or_long left got after read) [
  | inl same ↦ subst (λ text. ReadsAs text face) (sym same) spells
  | inr long ↦ absurd (let short : length got ≤ 1_048_576 = spells.short in omega (arith, long.0, short))
]

long_stops : (got whole : List ℕ) (at : ℕ) → 1_048_576 < length got → 1_048_576 < length whole → NotFaceAt got at → NotFaceAt whole at
long_stops got whole at long whole_long (too_long more is) = too_long whole_long is
long_stops got whole at long whole_long (stops short where_it) = absurd (let few : length got ≤ 1_048_576 = short in omega (arith, long, few))

stops_whole : (left : Option (List ℕ)) (got : List ℕ) (after : Option (List ℕ)) (at : ℕ) → GivesUpTo file_limit left got after → NotFaceAt got at →
    NotFaceAt (text_of left got) at
stops_whole left got after at read shows = elim (text_or_long left got after read) [
  | inl same ↦ subst (λ text. NotFaceAt text at) (sym same) shows
  | inr long ↦ long_stops got (text_of left got) at long.0 long.1 shows
]

-- the face of a file
pub face_read : (name got : List ℕ) (face : Face) (before after : Left) → GivesUpTo file_limit (before name) got (after name) →
    KeepsOthers name before after → ReadsAs got face → IsFaceIn name face before after
face_read name got face before after read others spells = record {
  text = text_of (before name) got;
  read = was_read name got before after read others;
  spells = spells_whole (before name) got (after name) face read spells;
}

-- a file that is no face
pub no_face_read : (left : Option (List ℕ)) (got : List ℕ) (after : Option (List ℕ)) (at : ℕ) → GivesUpTo file_limit left got after → NotFaceAt got at →
    IsNoFaceIn left at
no_face_read left got after at read shows =
    record { text = text_of left got; is_text = is_text_of left got; shows = stops_whole left got after at read shows }

-- ---- what is left of files

pub kept_same : (held : Option (List ℕ)) → IsKept held held
kept_same None = tt
kept_same (Some bytes) = refl

further_same : (left : Option (List ℕ)) → StandsFurther file_limit left left
further_same None = tt
further_same (Some bytes) = (0, omega arith, refl)

-- no file was read
pub none_further : (names : List (List ℕ)) (left : Left) → StandFurther names left left
none_further [] left = λ name. kept_same (left name)
none_further (name ∷ names) left = (left, further_same (left name), (λ other differs. kept_same (left other)), none_further names left)

-- the first file was read, perhaps in part, and no other was
pub one_further : (name : List ℕ) (names : List (List ℕ)) (before after : Left) → StandsFurther file_limit (before name) (after name) →
    KeepsOthers name before after → StandFurther (name ∷ names) before after
one_further name names before after further others = (after, further, others, none_further names after)

pub further_read : (left : Option (List ℕ)) (got : List ℕ) (after : Option (List ℕ)) → GivesUpTo file_limit left got after →
    StandsFurther file_limit left after
further_read None got after read = tt
further_read (Some bytes) got after read = (file_limit, omega arith, read.rest)

rest_further : (left after : Option (List ℕ)) → IfSome left (λ bytes. after ≡ Some (drop file_limit bytes)) → StandsFurther file_limit left after
rest_further None after rest = tt
rest_further (Some bytes) after rest = (file_limit, omega arith, rest)

-- some files were read, and then others
pub read_further : (before now after : Left) (names texts others : List (List ℕ)) → WereRead before names texts now →
    StandFurther others now after → StandFurther (names ++ others) before after
read_further _ _ last _ _ others none further = further
read_further _ _ last _ _ others (next {before} {between} {after} {name} {text} {names} {texts} read more) further =
    (between, rest_further (before name) (between name) read.rest, read.others, read_further between after last names texts others more further)

-- ---- one file after another

-- one file more behind others
pub read_more : (before now after : Left) (names texts : List (List ℕ)) (name text : List ℕ) → WereRead before names texts now →
    WasRead name text now after → WereRead before (names ++ name ∷ []) (texts ++ text ∷ []) after
read_more _ _ last _ _ behind bytes none read = next read none
read_more _ _ last _ _ behind bytes (next {before} {between} {after} {name} {text} {names} {texts} earlier more) read =
    next earlier (read_more between after last names texts behind bytes more read)

spelled_more : (texts : List (List ℕ)) (faces : List Face) (text : List ℕ) (face : Face) → AreSpelled texts faces → ReadsAs text face →
    AreSpelled (texts ++ text ∷ []) (faces ++ face ∷ [])
spelled_more [] [] text face spelled reads = (reads, tt)
spelled_more [] (one ∷ faces) text face spelled reads = absurd spelled
spelled_more (first ∷ texts) [] text face spelled reads = absurd spelled
spelled_more (first ∷ texts) (one ∷ faces) text face spelled reads = (spelled.0, spelled_more texts faces text face spelled.1 reads)

pub no_faces : (left : Left) → AreFaces left [] [] left
no_faces left = record { texts = []; read = none; spelled = tt }

-- one face more behind others
faces_more : (before now after : Left) (names : List (List ℕ)) (faces : List Face) (name text : List ℕ) (face : Face) → AreFaces before names faces now →
    WasRead name text now after → ReadsAs text face → AreFaces before (names ++ name ∷ []) (faces ++ face ∷ []) after
faces_more before now after names faces name text face are read reads = record {
  texts = are.texts ++ text ∷ [];
  read = read_more before now after names are.texts name text are.read read;
  spelled = spelled_more are.texts faces text face are.spelled reads;
}

module _ {A : Type 0} (f : A → List ℕ) where
  map-both : (xs ys : List A) → map f (xs ++ ys) ≡ map f xs ++ map f ys
  map-both [] ys = refl
  map-both (x ∷ xs) ys = ap (λ rest. f x ∷ rest) (map-both xs ys)

  pub length-mapped : (xs : List A) → length (map f xs) ≡ length xs
  length-mapped [] = refl
  length-mapped (x ∷ xs) = ap suc (length-mapped xs)

  one_more : (k : ℕ) → k + 1 ≡ suc k
  one_more k = omega arith

  module _ (names : List A) (k : ℕ) (one : A) (within : k < length names) (is : one ≡ get_or names k one) where
    -- the names up to one are those before it and that one
    pub names_next : map f (take (k + 1) names) ≡ map f (take k names) ++ f one ∷ []
    names_next =
        ap (λ n. map f (take n names)) (one_more k) ∙ ap (map f) (take-suc names k one within) ∙ map-both (take k names) (get_or names k one ∷ [])
        ∙ ap (λ it. map f (take k names) ++ f it ∷ []) (sym is)

    pub names_split : map f names ≡ map f (take k names) ++ f one ∷ map f (drop (suc k) names)
    names_split =
        ap (map f) (split_at names k one within) ∙ map-both (take k names) (get_or names k one ∷ drop (suc k) names)
        ∙ ap (λ it. map f (take k names) ++ f it ∷ map f (drop (suc k) names)) (sym is)

    number_of : k + 1 ≡ length (map f (take k names)) + 1
    number_of = ap (λ n. n + 1) (sym (length-mapped (take k names) ∙ length-take-le k names (omega (arith, within))))

    module _ (before now : Left) (faces : List Face) (are : AreFaces before (map f (take k names)) faces now) where
      -- one face more
      pub next_face : (name : List ℕ) (face : Face) (after : Left) (more : List Face) → name ≡ f one → more ≡ faces ++ face ∷ [] →
          IsFaceIn name face now after → AreFaces before (map f (take (k + 1) names)) more after
      next_face name face after more same grew has =
          subst (λ fs. AreFaces before (map f (take (k + 1) names)) fs after) (sym grew)
          (subst (λ ns. AreFaces before ns (faces ++ face ∷ []) after) (sym names_next)
          (subst (λ n. AreFaces before (map f (take k names) ++ n ∷ []) (faces ++ face ∷ []) after) same
          (faces_more before now after (map f (take k names)) faces name has.text face are has.read has.spells)))

      comes_to : (name : List ℕ) → name ≡ f one → ComesTo before (map f names) (k + 1) name now
      comes_to name same = record {
        earlier = map f (take k names);
        later = map f (drop (suc k) names);
        names_are = names_split ∙ ap (λ it. map f (take k names) ++ it ∷ map f (drop (suc k) names)) (sym same);
        number_is = number_of;
        faces = faces;
        are_faces = are;
      }

      rose_from : (first second last : ℕ) → first ≤ second → Rose second last → Rose first last
      rose_from first second last below rose = λ differs. let above = rose differs in omega (arith, below, above)

      -- the next file has no face
      pub stops_next : (name : List ℕ) (first second last : List ℕ → ℕ) (told : FilesFault) → name ≡ f one → NeverFell first second →
          FaceStops (k + 1) (now name) (second name) (last name) told → FacesStop before first last (map f names) told
      stops_next name first second last fault.Unread same below rose = record {
        number = k + 1;
        name = name;
        now = now;
        comes = comes_to name same;
        rose = rose_from (first name) (second name) (last name) (below name) rose;
      }
      stops_next name first second last (fault.NotFace file at) same below stands =
          subst (λ n. IsNoFace before (map f names) n at) (sym stands.0)
          (record {
            name = name;
            now = now;
            comes = comes_to name same;
            text = stands.1.text;
            is_text = stands.1.is_text;
            shows = stands.1.shows;
          })
      stops_next name first second last (fault.NoPart part) same below no_part = absurd no_part
      stops_next name first second last fault.NoMemory same below why = tt

      -- the next file was read, perhaps in part, and no other behind it
      pub next_further : (name : List ℕ) (after : Left) → name ≡ f one → StandsFurther file_limit (now name) (after name) → KeepsOthers name now after →
          StandFurther (map f names) before after
      next_further name after same further others =
          subst (λ ns. StandFurther ns before after) (sym names_split)
          (subst (λ n. StandFurther (map f (take k names) ++ n ∷ map f (drop (suc k) names)) before after) same
          (read_further before now after (map f (take k names)) are.texts (name ∷ map f (drop (suc k) names)) are.read
          (one_further name (map f (drop (suc k) names)) now after further others)))

  -- all files are faces
  pub faces_all : (names : List A) (k : ℕ) (before now : Left) (faces : List Face) → length names ≤ k → AreFaces before (map f (take k names)) faces now →
      AreFaces before (map f names) faces now
  faces_all names k before now faces over are = subst (λ ns. AreFaces before (map f ns) faces now) (take_all k names over) are

pub nil_behind : (xs : List (List ℕ)) → xs ++ [] ≡ xs
nil_behind [] = refl
nil_behind (x ∷ xs) = ap (λ rest. x ∷ rest) (nil_behind xs)

-- they were read, and nothing else
pub all_further : (names : List (List ℕ)) (before now : Left) (faces : List Face) → AreFaces before names faces now → StandFurther names before now
all_further names before now faces are =
    subst (λ ns. StandFurther ns before now) (nil_behind names)
    (read_further before now now names are.texts [] are.read (λ name. kept_same (now name)))
