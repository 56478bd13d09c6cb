-- Lists that are made element by element.
use Rattle.std.proofs.Common.{◌≡◌, ℕ, ◌+◌, ◌<◌, List, [], ◌∷◌, ◌++◌, length, get_or, drop, map, sym, ap, ◌∙◌}
use Rattle.std.proofs.lemmas.List.{append_assoc, get_or_default, map_push}
use Rattle.bl_tree.proofs.Basics.{drop_next}

-- one more element was made of the next one
pub mapped_next : {X Y Z : Type 0} (seen : X → Z) (made : Y → Z) (all : List Y) (i : ℕ) (list more : List X) (x : X) (d : Y) → i < length all →
    more ≡ list ++ x ∷ [] → seen x ≡ made (get_or all i d) → map seen list ++ map made (drop i all) ≡ map made all →
    map seen more ++ map made (drop (i + 1) all) ≡ map made all
mapped_next seen made all i list more x d within pushed same so_far =
    let rest = drop (i + 1) all in
    let next : drop i all ≡ get_or all i d ∷ rest = drop_next all i (get_or all i d) within (sym (get_or_default all i (get_or all i d) d within)) in
    ap (λ l. map seen l ++ map made rest) pushed
    ∙ ap (λ l. l ++ map made rest) (map_push seen list x)
    ∙ append_assoc (map seen list) (seen x ∷ []) (map made rest)
    ∙ ap (λ y. map seen list ++ (y ∷ map made rest)) same
    ∙ ap (λ l. map seen list ++ map made l) (sym next)
    ∙ so_far
