-- What the definitions on expressions come to at one path.
use Rattle.std.proofs.Common.{◌≡◌, ℕ, ◌≤◌, List, [], ◌∷◌, ◌++◌, drop, length, map, refl, sym, ap, ◌∙◌, append-nil, drop_of_length-le}
use Rattle.bl_tree.specs.declared.tree.Part.{Part}
use Rattle.bl_tree.specs.declared.tree.Path.{Path, fold_out-Path, out-Path}
use Rattle.bl_tree.specs.Reduce.{joined}
use Rattle.bl_tree.specs.declared.static_path.Static.{Static}
use Rattle.bl_tree.specs.Static.{Reach, StaticStep, expr_mentions, index_mentions, kind_mentions, leading_fields, part_mentions, part_step, path_reach}
use Rattle.bl_tree.specs.Static.{reach_of, step_of}

reach_out : (path : Path) → reach_of path ≡ record {
  static = record { root = (out-Path path).root; fields = leading_fields (map step_of (out-Path path).parts) };
  indices = joined (map (λ step. step.reads) (map step_of (out-Path path).parts));
}
reach_out path = fold_out-Path (List Static) StaticStep (List Static) Reach kind_mentions part_step expr_mentions path_reach path

reads_of_steps : (parts : List Part) → map (λ step. step.reads) (map step_of parts) ≡ map part_mentions parts
reads_of_steps [] = refl
reads_of_steps (part ∷ parts) = ap (λ rest. part_mentions part ∷ rest) (reads_of_steps parts)

-- the indices of a path, one after another
pub indices_out : (path : Path) → index_mentions path ≡ joined (map part_mentions (out-Path path).parts)
indices_out path = ap (λ reach. reach.indices) (reach_out path) ∙ ap joined (reads_of_steps (out-Path path).parts)

-- the end of a loop over all parts of a tree, each of which adds to a list
pub all_done : {A : Type 0} (f : A → List Static) (xs : List A) (k : ℕ) (into before : List Static)
    → length xs ≤ k → into ++ joined (map f (drop k xs)) ≡ before ++ joined (map f xs) → into ≡ before ++ joined (map f xs)
all_done f xs k into before over is =
    sym (append-nil into) ∙ ap (λ rest. into ++ joined (map f rest)) (sym (drop_of_length-le xs over)) ∙ is
