-- One file after another, each read as far as it is asked for.
use Rattle.std.proofs.Common.{◌≡◌, ◌∙◌, ℕ, ◌+◌, ◌<◌, ◌≤◌, suc, false, List, [], ◌∷◌, ◌++◌, map, take, drop, length, get_or, refl, sym, ap, subst, arith}
use Rattle.std.proofs.lemmas.List.{take_all}
use Rattle.std.specs.Prelude.{OnOk, Option, Result, Some, None, Ok, Err, is_err}
use Rattle.bl_io.specs.Count.{NeverFell, Rose}
use Rattle.bl_io.specs.declared.fault.IoFault.{IoFault}
use Rattle.bl_io.specs.declared.fault.IoFault.TheVariants as io
use Rattle.bl_io.specs.Left.{GivesUpTo, KeepsOthers, StandsFurther}
use Rattle.bl_link_files.specs.inner.Fronts.{AreFirstTexts, AreFronts, FrontsRead}
use Rattle.bl_module_files.proofs.Turns.{kept_same, names_next, names_split, one_further, read_further, read_more, text_of, was_read}
use Rattle.bl_module_files.specs.Turns.{Left, StandFurther, WereRead, file_limit, next, none}
use Rattle.bl_module_files.proofs.Sizes.{rose_from}
use Rattle.bl_module_files.proofs.Turns.{nil_behind}

pub none_read : (left : Left) (gots : List (List ℕ)) → gots ≡ [] → FrontsRead left [] gots left
none_read left gots is = record { texts = []; read = none; fronts = subst (AreFronts []) (sym is) tt }

-- what was read of a file is a front of its text
front_of : (left : Option (List ℕ)) (got : List ℕ) (after : Option (List ℕ)) → length got ≤ file_limit → GivesUpTo file_limit left got after →
    got ≡ take file_limit (text_of left got)
front_of None got after bound read = sym (take_all file_limit got bound)
front_of (Some text) got after bound read = read.front

fronts_more : (texts gots : List (List ℕ)) (text got : List ℕ) → AreFronts texts gots → got ≡ take file_limit text →
    AreFronts (texts ++ text ∷ []) (gots ++ got ∷ [])
fronts_more [] [] text got fronts front = (front, tt)
fronts_more [] (other ∷ gots) text got fronts front = absurd fronts
fronts_more (one ∷ texts) [] text got fronts front = absurd fronts
fronts_more (one ∷ texts) (other ∷ gots) text got fronts front = (fronts.0, fronts_more texts gots text got fronts.1 front)

pub fronts_count : (texts gots : List (List ℕ)) → AreFronts texts gots → length gots ≡ length texts
fronts_count [] [] fronts = refl
fronts_count [] (other ∷ gots) fronts = absurd fronts
fronts_count (one ∷ texts) [] fronts = absurd fronts
fronts_count (one ∷ texts) (other ∷ gots) fronts = ap suc (fronts_count texts gots fronts.1)

pub read_count : (before after : Left) (names texts : List (List ℕ)) → WereRead before names texts after → length texts ≡ length names
read_count _ _ _ _ none = refl
read_count _ _ _ _ (next {before} {between} {after} {name} {text} {names} {texts} read more) = ap suc (read_count between after names texts more)

-- there are as many fronts as files
pub count_of : (before after : Left) (names gots : List (List ℕ)) → FrontsRead before names gots after → length gots ≡ length names
count_of before after names gots read = fronts_count read.texts gots read.fronts ∙ read_count before after names read.texts read.read

module _ {A : Type 0} (f : A → List ℕ) (names : List A) where
  module _ (k : ℕ) (one : A) (within : k < length names) (is : one ≡ get_or names k one) (before now : Left) (gots : List (List ℕ))
      (read : FrontsRead before (map f (take k names)) gots now) where
    -- one file more
    pub next_fronts : (name got : List ℕ) (more : List (List ℕ)) (after : Left) → name ≡ f one → more ≡ gots ++ got ∷ [] → length got ≤ file_limit →
        GivesUpTo file_limit (now name) got (after name) → KeepsOthers name now after → FrontsRead before (map f (take (k + 1) names)) more after
    next_fronts name got more after same grown bound given others = record {
      texts = read.texts ++ text_of (now name) got ∷ [];
      read = subst (λ ns. WereRead before ns (read.texts ++ text_of (now name) got ∷ []) after) (sym (names_next f names k one within is))
          (subst (λ n. WereRead before (map f (take k names) ++ n ∷ []) (read.texts ++ text_of (now name) got ∷ []) after) same
          (read_more before now after (map f (take k names)) read.texts name (text_of (now name) got) read.read
          (was_read name got now after given others)));
      fronts = subst (AreFronts (read.texts ++ text_of (now name) got ∷ [])) (sym grown)
          (fronts_more read.texts gots (text_of (now name) got) got read.fronts (front_of (now name) got (after name) bound given));
    }

    -- the names are those before one, this one, and those behind it
    split : (name : List ℕ) → name ≡ f one → map f names ≡ map f (take k names) ++ name ∷ map f (drop (suc k) names)
    split name same =
        names_split f names k one within is ∙ ap (λ n. map f (take k names) ++ n ∷ map f (drop (suc k) names)) (sym same)

    -- the next file can't be read
    pub stops_at : (name : List ℕ) (rest : Left) (first second last : List ℕ → ℕ) (fault : IoFault) → name ≡ f one → NeverFell first second →
        (fault ≡ io.Failed → Rose (second name) (last name)) → AreFirstTexts before rest first last (map f names) gots (Some fault)
    stops_at name rest first second last io.Failed same below rose = record {
      earlier = map f (take k names);
      name = name;
      later = map f (drop (suc k) names);
      names_are = split name same;
      now = now;
      read = read;
      rose = rose_from (first name) (second name) (last name) (below name) (rose refl);
    }
    stops_at name rest first second last io.NoMemory same below rose = tt

    -- the next file was read, perhaps in part, and no other behind it
    pub next_further : (name : List ℕ) (after : Left) → name ≡ f one → StandsFurther file_limit (now name) (after name) → KeepsOthers name now after →
        StandFurther (map f names) before after
    next_further name after same further others =
        subst (λ ns. StandFurther ns before after) (sym (split name same))
        (read_further before now after (map f (take k names)) read.texts (name ∷ map f (drop (suc k) names)) read.read
        (one_further name (map f (drop (suc k) names)) now after further others))

  -- all files were read
  module _ (k : ℕ) (before now : Left) (gots : List (List ℕ)) (over : length names ≤ k) (part : FrontsRead before (map f (take k names)) gots now) where
    pub all_read : FrontsRead before (map f names) gots now
    all_read = subst (λ ns. FrontsRead before (map f ns) gots now) (take_all k names over) part

    pub all_further : StandFurther (map f names) before now
    all_further =
        subst (λ ns. StandFurther ns before now) (nil_behind (map f names))
        (read_further before now now (map f names) all_read.texts [] all_read.read (λ name. kept_same (now name)))

-- what comes of a read that stopped
pub stopped_as : (left rest : Left) (first last : List ℕ → ℕ) (names gots others : List (List ℕ)) (stop other : Option IoFault) → others ≡ gots →
    other ≡ stop → AreFirstTexts left rest first last names gots stop → AreFirstTexts left rest first last names others other
stopped_as left rest first last names gots others stop other same is stops =
    subst (AreFirstTexts left rest first last names others) (sym is) (subst (λ gs. AreFirstTexts left rest first last names gs stop) (sym same) stops)

-- what holds where a call gave no error
pub given : {X E : Type 0} {P : Type 0} (r : Result X E) → is_err r ≡ false → OnOk r P → P
given (Ok x) no_error holds = holds
given (Err e) no_error holds = absurd (cc)
