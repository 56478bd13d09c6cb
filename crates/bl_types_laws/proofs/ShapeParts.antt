-- Statements that are no more, and what is made of one part after another.
use Rattle.std.proofs.Common.{◌≡◌, ℕ, ◌&&◌, List, [], ◌∷◌, ◌++◌, map, Option, Some, None, refl, ap, subst, sym, ◌∙◌}
use Rattle.std.specs.Prelude.{All, ⊤}
use Rattle.std.specs.List.{cons_option}
use Rattle.std.proofs.lemmas.List.Elements.{All-head, All-tail}
use Rattle.std.proofs.lemmas.Bool.{and_from}
use Rattle.bl_tree.proofs.Basics.{and_first, and_second, none_at_most}
use Rattle.bl_tree.specs.Apart.{Naming, and_naming, declares, naming, of_branches, together}
use Rattle.bl_tree.specs.Depths.{Depth, block, leaf, of_all}
use Rattle.bl_tree.specs.Reduce.{all_of, joined}
use Rattle.bl_tree.proofs.ReduceLemmas.{all_of-append, joined-append}
use Rattle.bl_types.specs.declared.environment.Environment.{Environment}
use Rattle.bl_types.specs.Statements.{Walked, in_order}
use Rattle.bl_types_laws.proofs.Orders.{DepthMost, NamingMost, NamingsMost, among_both, among_none, among_self, block_most, branches_most, depths_first}
use Rattle.bl_types_laws.proofs.Orders.{depths_none, depths_skip, leaf_most, namings_first, namings_none, namings_skip}
use Rattle.bl_types_laws.proofs.Sizes.{Size, SizeMost}

-- what a statement, an arm or a branch is by its depth, what it declares and names
pub record Shape : Type 0 where
  pub depth : Depth
  pub naming : Naming

pub record ShapeMost (one other : Shape) : Type 0 where
  pub depth : DepthMost one.depth other.depth
  pub naming : NamingMost one.naming other.naming

-- several of them
pub record Shapes : Type 0 where
  pub depths : List Depth
  pub namings : List Naming

pub record ShapesMost (ones others : Shapes) : Type 0 where
  pub depths : DepthMost (of_all ones.depths) (of_all others.depths)
  pub namings : NamingsMost ones.namings others.namings

-- what is made is no more
abbrev pub ShapeIn : {A : Type 0} → (A → Depth) → (A → Naming) → Shape → Option A → Type 0
ShapeIn depth naming shape (Some a) = ShapeMost (record { depth = depth a; naming = naming a }) shape
ShapeIn depth naming shape None = ⊤

abbrev pub shapes_of : {A : Type 0} → (A → Depth) → (A → Naming) → List A → Shapes
shapes_of depth naming xs = record { depths = map depth xs; namings = map naming xs }

abbrev shapes_first : Shape → Shapes → Shapes
shapes_first shape shapes = record { depths = shape.depth ∷ shapes.depths; namings = shape.naming ∷ shapes.namings }

shape_first : {A : Type 0} (depth : A → Depth) (naming : A → Naming) (made : Option A) (rest : List A) (first : Shape) (shapes : Shapes) →
    ShapeIn depth naming first made → ShapesMost (shapes_of depth naming rest) shapes →
    ShapesMost (shapes_of depth naming (cons_option made rest)) (shapes_first first shapes)
shape_first depth naming (Some a) rest first shapes one more = record {
  depths = depths_first (depth a) first.depth (map depth rest) shapes.depths one.depth more.depths;
  namings = namings_first (naming a) first.naming (map naming rest) shapes.namings one.naming more.namings;
}
shape_first depth naming None rest first shapes one more = record {
  depths = depths_skip first.depth (map depth rest) shapes.depths more.depths;
  namings = namings_skip first.naming (map naming rest) shapes.namings more.namings;
}

-- what is made of one part after another is no more than they are
pub in_order_in : {X A : Type 0} (depth : A → Depth) (naming : A → Naming) (before : X → Depth) (earlier : X → Naming)
    (walk : X → Environment → Walked A)
    (xs : List X) →
    All (λ x. (env : Environment) → ShapeIn depth naming (record { depth = before x; naming = earlier x }) (walk x env).made) xs → (env : Environment) →
    ShapesMost (shapes_of depth naming (in_order (map walk xs) env).made) (shapes_of before earlier xs)
in_order_in depth naming before earlier walk [] each env = record { depths = depths_none; namings = namings_none }
in_order_in depth naming before earlier walk (x ∷ xs) each env =
    shape_first depth naming (walk x env).made (in_order (map walk xs) (walk x env).env).made (record { depth = before x; naming = earlier x })
    (shapes_of before earlier xs)
    (All-head (λ x. (env : Environment) → ShapeIn depth naming (record { depth = before x; naming = earlier x }) (walk x env).made) x xs each env)
    (in_order_in depth naming before earlier walk xs (All-tail (λ x. (env : Environment) →
    ShapeIn depth naming (record { depth = before x; naming = earlier x }) (walk x env).made) x xs each) (walk x env).env)

-- ---- shapes by their parts

-- a statement without blocks
abbrev pub plain_shape : Size → Shape
plain_shape size = record { depth = leaf size.depth; naming = naming size.roots }

abbrev pub declared_shape : ℕ → Size → Shape
declared_shape k size = record { depth = leaf size.depth; naming = declares k size.roots }

-- a block with an expression beside it
abbrev pub tested_shape : Size → Shapes → Shape
tested_shape size body = record { depth = block size.depth body.depths; naming = and_naming size.roots body.namings }

abbrev pub block_shape : Shapes → Shape
block_shape body = record { depth = block 0 body.depths; naming = together body.namings }

abbrev pub choice_shape : Shapes → Shapes → Shape
choice_shape arms other = record { depth = of_all (block 0 other.depths ∷ arms.depths); naming = together (arms.namings ++ other.namings) }

abbrev pub branches_shape : Shapes → Shape
branches_shape branches = record { depth = of_all branches.depths; naming = of_branches branches.namings }

naming_most : (a b : Size) → SizeMost a b → NamingMost (naming a.roots) (naming b.roots)
naming_most a b most = record { declared = among_none []; named = most.roots; apart = λ holds. refl }

pub plain_most : (a b : Size) → SizeMost a b → ShapeMost (plain_shape a) (plain_shape b)
plain_most a b most = record { depth = leaf_most a.depth b.depth most.depth; naming = naming_most a b most }

pub declared_most : (k : ℕ) (a b : Size) → SizeMost a b → ShapeMost (declared_shape k a) (declared_shape k b)
declared_most k a b most = record {
  depth = leaf_most a.depth b.depth most.depth;
  naming = record {
    declared = among_self (k ∷ []);
    named = among_both (k ∷ []) a.roots (k ∷ []) b.roots (among_self (k ∷ [])) most.roots;
    apart =
        λ holds. refl;
  };
}

pub tested_most : (a b : Size) (ones others : Shapes) → SizeMost a b → ShapesMost ones others → ShapeMost (tested_shape a ones) (tested_shape b others)
tested_most a b ones others head most = record {
  depth = block_most a.depth b.depth ones.depths others.depths head.depth most.depths;
  naming = (namings_first (naming a.roots) (naming b.roots) ones.namings others.namings (naming_most a b head) most.namings).all;
}

pub bodies_most : (ones others : Shapes) → ShapesMost ones others → ShapeMost (block_shape ones) (block_shape others)
bodies_most ones others most = record { depth = block_most 0 0 ones.depths others.depths (none_at_most 0) most.depths; naming = most.namings.all }

pub branching_most : (ones others : Shapes) → ShapesMost ones others → ShapeMost (branches_shape ones) (branches_shape others)
branching_most ones others most = record { depth = most.depths; naming = branches_most ones.namings others.namings most.namings }

-- ---- arms, and then what stands behind `else`

abbrev pair : Naming → Naming → Naming
pair one other = record { declared = one.declared ++ other.declared; named = one.named ++ other.named; apart = one.apart && other.apart }

map_append : {A : Type 0} (of : Naming → A) (xs ys : List Naming) → map of (xs ++ ys) ≡ map of xs ++ map of ys
map_append of [] ys = refl
map_append of (x ∷ xs) ys = ap (λ rest. of x ∷ rest) (map_append of xs ys)

together_append : (xs ys : List Naming) → together (xs ++ ys) ≡ pair (together xs) (together ys)
together_append xs ys =
    let declared_is = ap joined (map_append (λ n. n.declared) xs ys) ∙ joined-append (map (λ n. n.declared) xs) (map (λ n. n.declared) ys) in
    let named_is = ap joined (map_append (λ n. n.named) xs ys) ∙ joined-append (map (λ n. n.named) xs) (map (λ n. n.named) ys) in
    let apart_is = ap all_of (map_append (λ n. n.apart) xs ys) ∙ all_of-append (map (λ n. n.apart) xs) (map (λ n. n.apart) ys) in
    λ i. record { declared = declared_is i; named = named_is i; apart = apart_is i }

pair_most : (a b c d : Naming) → NamingMost a c → NamingMost b d → NamingMost (pair a b) (pair c d)
pair_most a b c d one other = record {
  declared = among_both a.declared b.declared c.declared d.declared one.declared other.declared;
  named = among_both a.named b.named c.named d.named one.named other.named;
  apart = λ holds. and_from a.apart b.apart (one.apart (and_first c.apart d.apart holds)) (other.apart (and_second c.apart d.apart holds));
}

both_most : (a b c d : List Naming) → NamingsMost a c → NamingsMost b d → NamingMost (together (a ++ b)) (together (c ++ d))
both_most a b c d one other =
    subst (λ n. NamingMost n (together (c ++ d))) (sym (together_append a b))
    (subst (NamingMost (pair (together a) (together b))) (sym (together_append c d))
    (pair_most (together a) (together b) (together c) (together d) one.all other.all))

pub choice_most : (arms other tests last : Shapes) → ShapesMost arms tests → ShapesMost other last →
    ShapeMost (choice_shape arms other) (choice_shape tests last)
choice_most arms other tests last one more = record {
  depth = depths_first (block 0 other.depths) (block 0 last.depths) arms.depths tests.depths (block_most 0 0 other.depths last.depths (none_at_most 0) more.depths)
      one.depths;
  naming = both_most arms.namings other.namings tests.namings last.namings one.namings more.namings;
}
