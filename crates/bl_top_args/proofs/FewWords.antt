-- Words that are too few for `drive` and `face`.
use Rattle.std.proofs.Common.{◌≡◌, ◌<◌, refl, arith, List, [], ◌∷◌, length, map, None}
use Rattle.bl_top_args.specs.Jobs.{Word, driven, faced}
use Rattle.bl_top_args.specs.inner.FirstWords.{behind_first}

-- no job of `drive` is asked for by fewer than four words
pub too_few : {A : Type 0} (f : A → Word) (xs : List A) → length xs < 4 → None ≡ driven (behind_first (map f xs))
too_few f [] low = refl
too_few f (a ∷ []) low = refl
too_few f (a ∷ b ∷ []) low = refl
too_few f (a ∷ b ∷ c ∷ []) low = refl
too_few f (a ∷ b ∷ c ∷ d ∷ more) low = absurd (grind (arith))

-- no job of `face` is asked for by fewer than two words
pub too_few_to_face : {A : Type 0} (f : A → Word) (xs : List A) → length xs < 2 → None ≡ faced (behind_first (map f xs))
too_few_to_face f [] low = refl
too_few_to_face f (a ∷ []) low = refl
too_few_to_face f (a ∷ b ∷ more) low = absurd (grind (arith))
