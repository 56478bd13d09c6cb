-- Lists all of whose places are so.
use Rattle.std.proofs.Common.{◌≡◌, zero, suc, List, [], ◌∷◌, ◌++◌, Contains, map, sym, subst, arith}
use Rattle.bl_tree.specs.Reduce.{joined}
use Rattle.bl_ctext_places.specs.Places.{CPath, CPaths}

module _ (P : CPath → Type 0) where
  -- each of these places is so
  abbrev pub Fine : CPaths → Type 0
  Fine [] = Unit {0}
  Fine (place ∷ rest) = P place × Fine rest

  pub append-fine : (xs ys : CPaths) → Fine xs → Fine ys → Fine (xs ++ ys)
  append-fine [] ys one more = more
  append-fine (x ∷ xs) ys one more = (one.0, append-fine xs ys one.1 more)

  pub same-fine : (xs ys : CPaths) → xs ≡ ys → Fine ys → Fine xs
  same-fine xs ys is all = subst Fine (sym is) all

  pub none-fine : (xs : CPaths) → xs ≡ [] → Fine xs
  none-fine xs is = same-fine xs [] is tt

  front-fine : (xs ys : CPaths) → Fine (xs ++ ys) → Fine xs
  front-fine [] ys all = tt
  front-fine (x ∷ xs) ys all = (all.0, front-fine xs ys all.1)

  back-fine : (xs ys : CPaths) → Fine (xs ++ ys) → Fine ys
  back-fine [] ys all = all
  back-fine (x ∷ xs) ys all = back-fine xs ys all.1

  -- what is so of the places in two lists of parts
  pub both-fine : {B : Type 0} (parts : B → CPaths) (xs ys : List B) → Fine (joined (map parts xs)) → Fine (joined (map parts ys)) →
      Fine (joined (map parts (xs ++ ys)))
  both-fine parts [] ys one more = more
  both-fine parts (x ∷ xs) ys one more =
      append-fine (parts x) (joined (map parts (xs ++ ys))) (front-fine (parts x) (joined (map parts xs)) one)
      (both-fine parts xs ys (back-fine (parts x) (joined (map parts xs)) one) more)

  pub each-fine : (xs : CPaths) (place : CPath) → Fine xs → Contains xs place → P place
  each-fine [] place all at = absurd (let within = at.1 in omega arith)
  each-fine (x ∷ xs) place all (zero, within, is) = subst P is all.0
  each-fine (x ∷ xs) place all (suc k, within, is) = each-fine xs place all.1 (k, omega arith, is)
