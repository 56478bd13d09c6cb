-- Variables by name.
use Rattle.std.proofs.Common.{◌≡◌, Bool, true, false, List, [], ◌∷◌, ◌++◌, Option, Some, refl, ap, ◌∙◌}
use Rattle.std.specs.Prelude.{bytes_eq, if◌then◌else◌}
use Rattle.std.specs.Option.{option_or}
use Rattle.bl_tree.specs.declared.text.Text.{Text}
use Rattle.bl_ctext_semantics.specs.Tables.{found}

later : {A : Type 0} (same : Bool) (value : A) (first rest : Option A) →
    (if same then Some value else option_or first rest) ≡ option_or (if same then Some value else first) rest
later true value first rest = refl
later false value first rest = refl

-- an entry of two lists
pub found-append : {A : Type 0} (asked : Text) (xs ys : List (Text × A)) → found asked (xs ++ ys) ≡ option_or (found asked xs) (found asked ys)
found-append asked [] ys = refl
found-append asked (x ∷ xs) ys =
    ap (λ o. if bytes_eq x.0 asked then Some x.1 else o) (found-append asked xs ys) ∙ later (bytes_eq x.0 asked) x.1 (found asked xs) (found asked ys)

pub ruleset variables = (found-append)
