-- Tests with two answers, and when one answers yes only where another does.
use Rattle.std.proofs.Common.{◌≡◌, Bool, true, false, ◌&&◌, ◌||◌, List, [], ◌∷◌, refl, sym, ◌∙◌}
use Rattle.std.specs.List.{list_any}
use Rattle.std.proofs.lemmas.Bool.{and_from, or_left, or_right}

pub or_le : (a b c d : Bool) → (a ≡ true → c ≡ true) → (b ≡ true → d ≡ true) → (a || b) ≡ true → (c || d) ≡ true
or_le true b c d f g e = or_left c d (f refl)
or_le false b c d f g e = or_right c d (g e)

pub and_le : (a b c d : Bool) → (a ≡ true → c ≡ true) → (b ≡ true → d ≡ true) → (a && b) ≡ true → (c && d) ≡ true
and_le true b c d f g e = and_from c d (f refl) (g e)
and_le false b c d f g e = absurd cc

pub or_of : (a b c : Bool) → (a ≡ true → c ≡ true) → (b ≡ true → c ≡ true) → (a || b) ≡ true → c ≡ true
or_of true b c f g e = f refl
or_of false b c f g e = g e

-- where a test answers yes only where another does, it is no where that is no
pub not_less : (a b : Bool) → (a ≡ true → b ≡ true) → b ≡ false → a ≡ false
not_less true b f e = sym (f refl) ∙ e
not_less false b f e = refl

pub any_less : {A : Type 0} (one other : A → Bool) → ((x : A) → one x ≡ true → other x ≡ true) → (xs : List A) →
    list_any one xs ≡ true → list_any other xs ≡ true
any_less one other f [] e = absurd cc
any_less one other f (x ∷ xs) e = or_le (one x) (list_any one xs) (other x) (list_any other xs) (f x) (any_less one other f xs) e
