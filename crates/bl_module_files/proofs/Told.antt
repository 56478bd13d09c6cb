-- Files whose texts are told.
use Rattle.std.proofs.Common.{◌≡◌, ◌∙◌, ℕ, Bool, true, false, ◌&&◌, List, [], ◌∷◌, ◌++◌, take, drop, length, refl, suc, sym, ap, ap₂, subst, inl, inr, arith}
use Rattle.std.proofs.Common.{if◌then◌else◌}
use Rattle.std.proofs.lemmas.Slice.Eq.{bytes_eq-Decides}
use Rattle.std.proofs.lemmas.List.{take-append-drop}
use Rattle.std.specs.Prelude.{◌≢◌, Option, Some, None, IfSome}
use Rattle.std.specs.Str.{bytes_eq}
use Rattle.bl_io.specs.Left.{IsKept}
use Rattle.bl_face.specs.declared.face.Face.{Face}
use Rattle.bl_face.specs.declared.item.FaceItem.{FaceItem}
use Rattle.bl_face.specs.Lexemes.{lexemes}
use Rattle.bl_face.specs.Reading.{NotFaceAt, ReadsAs, stops, too_long}
use Rattle.bl_face.specs.Spells.{SpellsItems}
use Rattle.bl_lex.specs.Tokens.{FrontOf, Lexes}
use Rattle.bl_tree.specs.declared.token.Token.{Token}
use Rattle.bl_module.proofs.FaceLemmas.{items-append, stand-append}
use Rattle.bl_module.specs.Behind.{after_items, before_items, items_stand}
use Rattle.bl_module.specs.Faces.{all_items, items_of}
use Rattle.bl_tree.proofs.ReduceLemmas.{joined-append}
use Rattle.bl_tree.specs.Reduce.{joined}
use Rattle.bl_module_files.specs.Faces.{AreSpelled}
use Rattle.bl_module_files.specs.Told.{AreTold, BadFacesDontStand, FirstToldTextsAreRead, SpelledFacesAreTaken, TextsHaveOneFaceEach, ToldFilesAreRead}
use Rattle.bl_module_files.specs.Told.{ToldFilesHaveATextEach, ToldTextsAreRead}
use Rattle.bl_module_files.specs.Turns.{IsText, Left, WasRead, WereRead, file_limit, next, none}
use Rattle.bl_module_files.proofs.Turns.{kept_same}
use Rattle.bl_face.proofs.Reading.{lexemes_append}

-- ---- texts

-- a text that is told is the one that was read
told_text : (left : Option (List ℕ)) (text other : List ℕ) → left ≡ Some text → IsText left other → other ≡ text
told_text None text other is read = absurd (cc)
told_text (Some whole) text other is read = let same : whole ≡ text = cc in sym read ∙ same

told_read : (name text other : List ℕ) (before after : Left) → before name ≡ Some text → WasRead name other before after → WasRead name text before after
told_read name text other before after is read =
    subst (λ t. WasRead name t before after) (told_text (before name) text other is read.is_text) read

-- ---- faces

-- a text has at most one list of tokens, which ends with the text
abbrev OneFront : Type 0
OneFront = (text : List ℕ) (tokens others : List Token) (stop elsewhere : ℕ) → FrontOf text tokens stop → FrontOf text others elsewhere → tokens ≡ others

abbrev OneStop : Type 0
OneStop = (text : List ℕ) (tokens others : List Token) (stop elsewhere : ℕ) → FrontOf text tokens stop → FrontOf text others elsewhere → stop ≡ elsewhere

abbrev WholeFront : Type 0
WholeFront = (text : List ℕ) (tokens : List Token) → Lexes text tokens → FrontOf text tokens (length text)

behind_one : (xs : List Token) (y : Token) (ys : List Token) → xs ++ y ∷ ys ≡ (xs ++ y ∷ []) ++ ys
behind_one [] y ys = refl
behind_one (x ∷ xs) y ys = ap (λ (ts : List Token). x ∷ ts) (behind_one xs y ys)

module _ (tokens_one : OneFront) (stop_one : OneStop) (whole : WholeFront) where
  -- a text that spells a face stops nowhere
  never_stops : (text : List ℕ) (face : Face) (at : ℕ) → ReadsAs text face → ¬ NotFaceAt text at
  never_stops text face at reads (too_long long is) = let short = reads.short in omega (arith, long, short)
  never_stops text face at reads (stops short where_it) = elim where_it.stops [
    | inl token ↦
        let behind : List Token = token.before ++ token.token ∷ [] in
        let spelled : SpellsItems face.items (lexemes text where_it.tokens) =
        subst (λ ts. SpellsItems face.items (lexemes text ts)) (sym same_tokens) reads.spelled in
        token.ends (
          lexemes text token.after,
          face.items,
          subst (SpellsItems face.items) (ap (lexemes text) (token.stands ∙ behind_one token.before token.token token.after)
              ∙ lexemes_append text behind token.after) spelled,
        )
    | inr end ↦ elim end.ends [
      | inl before ↦ let same = same_stop in omega (arith, before, same)
      | inr no_items ↦ no_items face.items (subst (λ ts. SpellsItems face.items (lexemes text ts)) (sym same_tokens) reads.spelled)
    ]
  ]
    where
      full : FrontOf text reads.tokens (length text)
      full = whole text reads.tokens reads.lexed

      same_tokens : where_it.tokens ≡ reads.tokens
      same_tokens = tokens_one text where_it.tokens reads.tokens where_it.stop (length text) where_it.front full

      same_stop : where_it.stop ≡ length text
      same_stop = stop_one text where_it.tokens reads.tokens where_it.stop (length text) where_it.front full

  -- no file is told that stops being a face
  none_stops : (left now : Left) (earlier found : List (List ℕ)) (wanted : List ℕ) (later told : List (List ℕ)) (faces : List Face) (shown : List ℕ) (at : ℕ) →
      AreTold left (earlier ++ wanted ∷ later) told → AreSpelled told faces → WereRead left earlier found now → IsText (now wanted) shown →
      ¬ NotFaceAt shown at
  none_stops _ _ _ _ wanted later [] faces shown at are_told spelled none is shows = are_told
  none_stops _ _ _ _ wanted later (first ∷ told) [] shown at are_told spelled none is shows = spelled
  none_stops _ _ _ _ wanted later (first ∷ told) (face ∷ faces) shown at are_told spelled (none {left}) is shows =
      never_stops first face at spelled.0 (subst (λ t. NotFaceAt t at) (told_text (left wanted) first shown are_told.0 is) shows)
  none_stops _ _ _ _ wanted later [] faces shown at are_told spelled (next {before} {between} {after} {name} {text} {names} {texts} read more) is shows =
      are_told
  none_stops _ _ _ _ wanted later (first ∷ told) [] shown at are_told spelled
      (next {before} {between} {after} {name} {text} {names} {texts} read more) is shows = spelled
  none_stops _ _ _ _ wanted later (first ∷ told) (face ∷ faces) shown at are_told spelled
      (next {before} {between} {after} {name} {text} {names} {texts} read more) is shows =
      none_stops between after names texts wanted later told faces shown at
      (are_told.1 between (told_read name first text before between are_told.0 read)) spelled.1 more is shows

  pub faces_taken : SpelledFacesAreTaken
  faces_taken left source text names texts faces number at told spelled stopped =
      let stands = stopped.no_face in
      none_stops stopped.between stands.now stands.comes.earlier stands.comes.are_faces.texts stands.name stands.comes.later texts faces stands.text at
      (subst (λ ns. AreTold stopped.between ns texts) stands.comes.names_are
      (told.1 stopped.between (told_read source text stopped.text left stopped.between told.0 stopped.source_read)))
      spelled stands.comes.are_faces.read stands.is_text stands.shows

-- ---- files

pub texts_read : ToldTextsAreRead
texts_read _ _ _ [] _ are_told none = refl
texts_read _ _ _ (first ∷ told) _ are_told none = absurd are_told
texts_read _ _ _ [] _ are_told (next {before} {between} {after} {name} {text} {names} {texts} read more) = absurd are_told
texts_read _ _ _ (first ∷ told) _ are_told (next {before} {between} {after} {name} {text} {names} {texts} read more) =
    ap₂ (λ (x : List ℕ) (xs : List (List ℕ)). x ∷ xs) (told_text (before name) first text are_told.0 read.is_text)
    (texts_read between after names told texts (are_told.1 between (told_read name first text before between are_told.0 read)) more)

pub first_read : FirstToldTextsAreRead
first_read _ _ _ later told _ are_told none = (told, refl)
first_read _ _ _ later [] _ are_told (next {before} {between} {after} {name} {text} {names} {texts} read more) = absurd are_told
first_read _ _ _ later (first ∷ told) _ are_told (next {before} {between} {after} {name} {text} {names} {texts} read more) =
    let behind = first_read between after names later told texts
    (are_told.1 between (told_read name first text before between are_told.0 read)) more in
    (behind.0, ap₂ (λ (x : List ℕ) (xs : List (List ℕ)). x ∷ xs) (sym (told_text (before name) first text are_told.0 read.is_text)) behind.1)

-- what is left once a file was read
abbrev left_once : Left → List ℕ → List ℕ → Left
left_once left name text other = if bytes_eq name other then Some (drop file_limit text) else left other

once_read : (left : Left) (name text : List ℕ) → left_once left name text name ≡ Some (drop file_limit text)
once_read left name text = ap (λ b. if b then Some (drop file_limit text) else left name) ((bytes_eq-Decides name name).1 refl)

once_kept : (left : Left) (name text other : List ℕ) (b : Bool) → bytes_eq name other ≡ b → other ≢ name →
    IsKept (left other) (left_once left name text other)
once_kept left name text other true same differs = absurd (differs (sym ((bytes_eq-Decides name other).0 same)))
once_kept left name text other false same differs = rw same (kept_same (left other))

read_once : (left : Left) (name text : List ℕ) → left name ≡ Some text → WasRead name text left (left_once left name text)
read_once left name text told = record {
  is_text = subst (λ held. IsText held text) (sym told) refl;
  rest = subst (λ held. IfSome held (λ bytes. left_once left name text name ≡ Some (drop file_limit bytes))) (sym told) (once_read left name text);
  others = λ other differs. once_kept left name text other (bytes_eq name other) refl differs;
}

pub texts_counted : ToldFilesHaveATextEach
texts_counted left [] [] told = refl
texts_counted left [] (text ∷ texts) told = absurd told
texts_counted left (name ∷ names) [] told = absurd told
texts_counted left (name ∷ names) (text ∷ texts) told =
    ap suc (texts_counted (left_once left name text) names texts (told.1 (left_once left name text) (read_once left name text told.0)))

pub files_read : ToldFilesAreRead
files_read left source text names texts told read =
    let same = told_text (left source) text read.text told.0 read.source_read.is_text in
    let others = texts_read read.between read.after names texts read.are_faces.texts
    (told.1 read.between (told_read source text read.text left read.between told.0 read.source_read)) read.are_faces.read in
    (same, subst (λ ts. AreSpelled ts read.faces) others read.are_faces.spelled)

-- ---- faces of texts

pub faces_one : ((text : List ℕ) (face other : Face) → ReadsAs text face → ReadsAs text other → face.items ≡ other.items) → TextsHaveOneFaceEach
faces_one one [] [] [] first second = refl
faces_one one [] [] (other ∷ others) first second = absurd second
faces_one one [] (face ∷ faces) others first second = absurd first
faces_one one (text ∷ texts) [] others first second = absurd first
faces_one one (text ∷ texts) (face ∷ faces) [] first second = absurd second
faces_one one (text ∷ texts) (face ∷ faces) (other ∷ others) first second =
    ap₂ (λ (x : List FaceItem) (xs : List (List FaceItem)). x ∷ xs) (one text face other first.0 second.0) (faces_one one texts faces others first.1 second.1)

-- ---- faces that don't stand

all_items-append : (xs ys : List Face) → all_items (xs ++ ys) ≡ all_items xs ++ all_items ys
all_items-append xs ys = ap joined (items-append xs ys) ∙ joined-append (items_of xs) (items_of ys)

none_of_both : (a b : Bool) → a ≡ false → (a && b) ≡ true → ⊥
none_of_both false b e both = cc
none_of_both true b e both = cc

pub bad_dont_stand : BadFacesDontStand
bad_dont_stand faces number bad stand =
    let first = take number faces in
    let parts : all_items faces ≡ all_items first ++ all_items (drop number faces) =
    ap all_items (sym (take-append-drop number faces)) ∙ all_items-append first (drop number faces) in
    none_of_both (items_stand before_items (all_items first)) (items_stand (after_items before_items (all_items first)) (all_items (drop number faces)))
    bad.fails
    (sym (stand-append before_items (all_items first) (all_items (drop number faces))) ∙ sym (ap (items_stand before_items) parts) ∙ stand)
