-- The first of files that were read in turn.
use Rattle.std.proofs.Common.{◌≡◌, ◌++◌, List, [], ◌∷◌, ℕ, refl, ap, subst}
use Rattle.bl_face.specs.declared.face.Face.{Face}
use Rattle.bl_module_files.specs.Faces.{AreSpelled}
use Rattle.bl_module_files.specs.Judged.{AreRead}
use Rattle.bl_module_files.specs.Turns.{Left, WereRead, next, none}

-- files were read in turn, and their texts are the first of these
pub record FirstWereRead (left : Left) (names texts : List (List ℕ)) : Type 0 where
  pub found : List (List ℕ)
  pub rest : List (List ℕ)
  pub now : Left
  pub read : WereRead left names found now
  pub texts_are : texts ≡ found ++ rest

pub first_were_read : (left after : Left) (names texts earlier later : List (List ℕ)) → names ≡ earlier ++ later → WereRead left names texts after →
    FirstWereRead left earlier texts
first_were_read left after names texts [] later are read = record { found = []; rest = texts; now = left; read = none; texts_are = refl }
first_were_read _ _ _ _ (one ∷ earlier) later are none = absurd (cc)
first_were_read _ _ _ _ (one ∷ earlier) later are (next {before} {between} {after} {name} {text} {names} {texts} read more) =
    let head : name ≡ one = cc in
    let tail : names ≡ earlier ++ later = cc in
    let behind = first_were_read between after names texts earlier later tail more in
    record {
      found = text ∷ behind.found;
      rest = behind.rest;
      now = behind.now;
      read = subst (λ n. WereRead before (n ∷ earlier) (text ∷ behind.found) behind.now) head (next read behind.read);
      texts_are = ap (λ (ts : List (List ℕ)). text ∷ ts) behind.texts_are;
    }

first_spelled : (found rest : List (List ℕ)) (faces : List Face) → AreSpelled (found ++ rest) faces → (first : List Face) × AreSpelled found first
first_spelled [] rest faces spelled = ([], tt)
first_spelled (text ∷ found) rest [] spelled = absurd spelled
first_spelled (text ∷ found) rest (face ∷ faces) spelled =
    let behind = first_spelled found rest faces spelled.1 in
    (face ∷ behind.0, (spelled.0, behind.1))

-- where interface files were read as faces, the first of them were
pub first_are_read : (left : Left) (source : List ℕ) (names earlier later : List (List ℕ)) → names ≡ earlier ++ later → AreRead left source names →
    AreRead left source earlier
first_are_read left source names earlier later are read =
    let been = first_were_read read.between read.after names read.are_faces.texts earlier later are read.are_faces.read in
    let faces = first_spelled been.found been.rest read.faces (subst (λ ts. AreSpelled ts read.faces) been.texts_are read.are_faces.spelled) in
    record {
      text = read.text;
      between = read.between;
      source_read = read.source_read;
      faces = faces.0;
      after = been.now;
      are_faces = record { texts = been.found; read = been.read; spelled = faces.1 };
    }
