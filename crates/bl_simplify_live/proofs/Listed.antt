-- Lists that grow by one part after the other, where nothing failed.
use Rattle.std.proofs.Common.{◌≡◌, List, ◌++◌, map, ap, sym, ◌∙◌}
use Rattle.std.proofs.lemmas.List.{append_assoc}
use Rattle.std.specs.Prelude.{Result, Ok, Err, OnOk}
use Rattle.bl_tree.specs.Reduce.{joined}
use Rattle.bl_tree.specs.declared.c.CStep.{CStep}
use Rattle.bl_tree.specs.declared.c.CPlace.{CPlace, out-CPlace}
use Rattle.bl_ctext_places.specs.Lists.{inside_step}
use Rattle.bl_ctext_places.specs.Places.{CPaths}
use Rattle.bl_ctext_places.proofs.Joining.{place_is}
use Rattle.bl_simplify_live.specs.Reads.{inside_place, rest_paths}

-- the whole is one part
pub one_listed : {A R E : Type 0} (r : Result R E) (before part after whole : List A) → whole ≡ part → OnOk r (after ≡ before ++ part) →
    OnOk r (after ≡ before ++ whole)
one_listed (Ok x) before part after whole is h = h ∙ ap (λ l. before ++ l) (sym is)
one_listed (Err e) before part after whole is h = h

-- the whole is two parts
pub two_listed : {A R E : Type 0} (r : Result R E) (before first middle second after whole : List A) → middle ≡ before ++ first → whole ≡ first ++ second →
    OnOk r (after ≡ middle ++ second) → OnOk r (after ≡ before ++ whole)
two_listed (Ok x) before first middle second after whole one is h =
    h ∙ (ap (λ l. l ++ second) one ∙ (append_assoc before first second ∙ ap (λ l. before ++ l) (sym is)))
two_listed (Err e) before first middle second after whole one is h = h

-- the whole is three parts
pub three_listed : {A R E : Type 0} (r : Result R E) (before first middle second further third after whole : List A) → middle ≡ before ++ first →
    further ≡ middle ++ second → whole ≡ first ++ (second ++ third) → OnOk r (after ≡ further ++ third) → OnOk r (after ≡ before ++ whole)
three_listed r before first middle second further third after whole one two is h =
    two_listed r before (first ++ second) further third after whole
    (two ∙ (ap (λ l. l ++ second) one ∙ append_assoc before first second)) (is ∙ sym (append_assoc first second third)) h

-- the places in the indices of a place
pub inside_is : (p : CPlace) (steps : List CStep) → steps ≡ (out-CPlace p).steps → inside_place p ≡ joined (map inside_step steps)
inside_is p steps is = ap rest_paths (place_is p) ∙ ap (λ (l : List CStep). joined (map inside_step l)) (sym is)
