-- Acts look at nothing but what they read and write.
use Rattle.std.proofs.Common.{◌≡◌, inl, inr, ℕ, List, [], ◌∷◌, ◌++◌, map, Option, Some, None, refl, sym, ap, ◌∙◌, subst}
use Rattle.std.specs.Prelude.{option_map, option_and_then, slice_get, unwrap_or, ⊤}
use Rattle.bl_tree.specs.declared.static_path.Static.{Static}
use Rattle.bl_tree.specs.declared.tree.Arm.{Arm, fold-Arm}
use Rattle.bl_tree.specs.declared.tree.Branch.{Branch, fold-Branch}
use Rattle.bl_tree.specs.declared.tree.Expr.{Expr}
use Rattle.bl_tree.specs.declared.tree.Path.{Path}
use Rattle.bl_tree.specs.declared.tree.Stmt.{Stmt, fold_out-Stmt, out-Stmt}
use Rattle.bl_tree.specs.declared.tree.StmtKind.{StmtKind, fold-StmtKind, fold_out-StmtKind, map-StmtKind, out-StmtKind}
use Rattle.bl_tree.specs.declared.tree.StmtKind.TheOpen.{StmtKind-F}
use Rattle.bl_tree.specs.declared.value.Value.{Value}
use Rattle.bl_tree.specs.Apart.{Naming, argument_roots, arm_naming, branch_naming, naming_of, optional_roots, roots_in, roots_in_path, stmt_kind_naming}
use Rattle.bl_tree.specs.Apart.{stmt_layer_naming}
use Rattle.bl_tree.specs.Effects.{arm_reads, arm_writes, branch_paths, kind_reads, kind_writes, optional_mentions, reads, stmt_set, writes}
use Rattle.bl_tree.specs.Reduce.{joined}
use Rattle.bl_tree.specs.Static.{index_mentions, mentions, path_mentions, set_of, static_of, whole}
use Rattle.bl_effects.proofs.SetLemmas.{In, in_set, set_in}
use Rattle.bl_eval.specs.declared.datum.Left.{Left}
use Rattle.bl_eval.specs.Functions.{acted, assigned, declared, initial_value, outcome_of_call, put_all, put_back}
use Rattle.bl_eval.specs.Meaning.{Callee, Scope, meaning_of, path_meaning_of, plain, reading, value_in, values_of}
use Rattle.bl_eval.specs.Values.{put_at}
use Rattle.bl_eval_laws.specs.Local.{ActsAreLocal, Alike, LeftAlike, SameAt, at_path, seen}
use Rattle.bl_eval_laws.proofs.OnLocal.Locality.{alike_first, alike_second, local, local_path, reading_same, same_first, same_second, values_are_local_too}
use Rattle.bl_eval_laws.proofs.OnLocal.Puts.{put_alike}

-- ---- sets of paths

alike_in : (paths : List Static) (path : Static) (xs ys : List Value) → In path paths → Alike paths xs ys → at_path xs path ≡ at_path ys path
alike_in [] path xs ys m same = elim m [ ]
alike_in (one ∷ paths) path xs ys (inl is) same = subst (λ path. at_path xs path ≡ at_path ys path) (sym is) same.0
alike_in (one ∷ paths) path xs ys (inr m) same = alike_in paths path xs ys m same.1

alike_by : (paths : List Static) (xs ys : List Value) → ((path : Static) → In path paths → at_path xs path ≡ at_path ys path) → Alike paths xs ys
alike_by [] xs ys each = tt
alike_by (path ∷ paths) xs ys each = (each path (inl refl), alike_by paths xs ys (λ one m. each one (inr m)))

alike_list : (paths : List Static) (xs ys : List Value) → Alike (set_of paths) xs ys → Alike paths xs ys
alike_list paths xs ys same = alike_by paths xs ys (λ path m. alike_in (set_of paths) path xs ys (set_in path paths m) same)

alike_set : (paths : List Static) (xs ys : List Value) → Alike paths xs ys → Alike (set_of paths) xs ys
alike_set paths xs ys same = alike_by (set_of paths) xs ys (λ path m. alike_in paths path xs ys (in_set path paths m) same)

left_set : (paths : List Static) (o o' : Option (List Value)) → LeftAlike paths o o' → LeftAlike (set_of paths) o o'
left_set paths None None left = tt
left_set paths None (Some ys) left = elim left [ ]
left_set paths (Some xs) None left = elim left [ ]
left_set paths (Some xs) (Some ys) left = alike_set paths xs ys left

-- ---- what a statement reads and writes, by its kind

abbrev pub Kind : Type 0
Kind = StmtKind-F StmtKind Arm Branch Stmt

abbrev pub Paths : Type 0
Paths = StmtKind-F (List Static) (List Static) (List Static) (List Static)

abbrev pub read_parts : Kind → Paths
read_parts = map-StmtKind StmtKind Arm Branch Stmt (List Static) (List Static) (List Static) (List Static)
    (fold-StmtKind (List Static) (List Static) (List Static) (List Static) kind_reads arm_reads branch_paths stmt_set)
    (fold-Arm (List Static) (List Static) (List Static) (List Static) kind_reads arm_reads branch_paths stmt_set)
    (fold-Branch (List Static) (List Static) (List Static) (List Static) kind_reads arm_reads branch_paths stmt_set)
    reads

abbrev pub written_parts : Kind → Paths
written_parts = map-StmtKind StmtKind Arm Branch Stmt (List Static) (List Static) (List Static) (List Static)
    (fold-StmtKind (List Static) (List Static) (List Static) (List Static) kind_writes arm_writes branch_paths stmt_set)
    (fold-Arm (List Static) (List Static) (List Static) (List Static) kind_writes arm_writes branch_paths stmt_set)
    (fold-Branch (List Static) (List Static) (List Static) (List Static) kind_writes arm_writes branch_paths stmt_set)
    writes

abbrev pub kind_of : Stmt → Kind
kind_of s = out-StmtKind (out-Stmt s).what

pub reads_out : (s : Stmt) → reads s ≡ set_of (kind_reads (read_parts (kind_of s)))
reads_out s =
    fold_out-Stmt (List Static) (List Static) (List Static) (List Static) kind_reads arm_reads branch_paths stmt_set s
    ∙ ap set_of (fold_out-StmtKind (List Static) (List Static) (List Static) (List Static) kind_reads arm_reads branch_paths stmt_set (out-Stmt s).what)

pub writes_out : (s : Stmt) → writes s ≡ set_of (kind_writes (written_parts (kind_of s)))
writes_out s =
    fold_out-Stmt (List Static) (List Static) (List Static) (List Static) kind_writes arm_writes branch_paths stmt_set s
    ∙ ap set_of (fold_out-StmtKind (List Static) (List Static) (List Static) (List Static) kind_writes arm_writes branch_paths stmt_set (out-Stmt s).what)

abbrev pub named_parts : Kind → StmtKind-F Naming Naming Naming Naming
named_parts = map-StmtKind StmtKind Arm Branch Stmt Naming Naming Naming Naming
    (fold-StmtKind Naming Naming Naming Naming stmt_kind_naming arm_naming branch_naming stmt_layer_naming)
    (fold-Arm Naming Naming Naming Naming stmt_kind_naming arm_naming branch_naming stmt_layer_naming)
    (fold-Branch Naming Naming Naming Naming stmt_kind_naming arm_naming branch_naming stmt_layer_naming) naming_of

pub naming_out : (s : Stmt) → naming_of s ≡ stmt_kind_naming (named_parts (kind_of s))
naming_out s =
    fold_out-Stmt Naming Naming Naming Naming stmt_kind_naming arm_naming branch_naming stmt_layer_naming s
    ∙ fold_out-StmtKind Naming Naming Naming Naming stmt_kind_naming arm_naming branch_naming stmt_layer_naming (out-Stmt s).what

-- ---- acts

module _ (scope : Scope) (before before' xs ys : List Value) where
  -- a value is put at a path, where what is there is alike
  placed : (path : Path) (paths : List Static) (positions : List ℕ) (value : Value) (us vs : List Value) →
      (path_meaning_of scope path).positions (seen xs before) ≡ Some positions → at_path us (static_of path) ≡ at_path vs (static_of path)
      → Alike paths us vs →
      LeftAlike paths (put_at (path_meaning_of scope path).root positions value us) (put_at (path_meaning_of scope path).root positions value vs)
  placed path paths positions value us vs e there same =
      let p = local_path scope before before' path in
      let f = p.begins xs positions e in
      subst (λ root. LeftAlike paths (put_at root positions value us) (put_at root positions value vs)) (sym p.root)
      (subst (λ ks. LeftAlike paths (put_at (static_of path).root ks value us) (put_at (static_of path).root ks value vs)) (sym f.is)
      (put_alike paths (static_of path) f.rest value us vs there same))

  assigned_there : (path : Path) (paths : List Static) (value : Option Value) (positions : Option (List ℕ)) →
      (path_meaning_of scope path).positions (seen xs before) ≡ positions → at_path xs (static_of path) ≡ at_path ys (static_of path)
      → Alike paths xs ys →
      LeftAlike paths (option_and_then (λ value. option_and_then (λ ks. put_at (path_meaning_of scope path).root ks value xs) positions) value)
      (option_and_then (λ value. option_and_then (λ ks. put_at (path_meaning_of scope path).root ks value ys) positions) value)
  assigned_there path paths None positions e there same = tt
  assigned_there path paths (Some value) None e there same = tt
  assigned_there path paths (Some value) (Some positions) e there same = placed path paths positions value xs ys e there same

  assigned_alike : (path : Path) (e : Expr) → Alike (index_mentions path ++ mentions e) xs ys → Alike (static_of path ∷ []) xs ys →
      SameAt (roots_in_path path ++ roots_in e) before before' →
      LeftAlike (static_of path ∷ []) (assigned (path_meaning_of scope path) (value_in scope e (seen xs before)) (seen xs before))
      (assigned (path_meaning_of scope path) (value_in scope e (seen ys before')) (seen ys before'))
  assigned_alike path e read written near =
      let value = values_are_local_too scope e xs ys before before' (alike_second (index_mentions path) (mentions e) xs ys read)
      (same_second (roots_in_path path) (roots_in e) before before' near) in
      let leads = (local_path scope before before' path).leads xs ys (alike_first (index_mentions path) (mentions e) xs ys read)
      (same_first (roots_in_path path) (roots_in e) before before' near) in
      subst (λ value. LeftAlike (static_of path ∷ []) (assigned (path_meaning_of scope path) (value_in scope e (seen xs before)) (seen xs before))
      (assigned (path_meaning_of scope path) value (seen ys before'))) value
      (subst (λ positions. LeftAlike (static_of path ∷ []) (assigned (path_meaning_of scope path) (value_in scope e (seen xs before)) (seen xs before))
      (option_and_then (λ value. option_and_then (λ ks. put_at (path_meaning_of scope path).root ks value ys) positions)
      (value_in scope e (seen xs before)))) leads
      (assigned_there path (static_of path ∷ []) (value_in scope e (seen xs before))
      ((path_meaning_of scope path).positions (seen xs before)) refl written.0 written))

  initial_alike : (k : ℕ) (initial : Option Expr) → Alike (optional_mentions initial) xs ys → SameAt (optional_roots initial) before before' →
      initial_value scope k initial (seen xs before) ≡ initial_value scope k initial (seen ys before')
  initial_alike k (Some e) same near = values_are_local_too scope e xs ys before before' same near
  initial_alike k None same near = refl

  declared_there : (k : ℕ) (value : Option Value) → Alike (whole k ∷ []) xs ys →
      LeftAlike (whole k ∷ []) (option_and_then (λ value. put_at k [] value xs) value) (option_and_then (λ value. put_at k [] value ys) value)
  declared_there k None same = tt
  declared_there k (Some value) same = put_alike (whole k ∷ []) (whole k) [] value xs ys same.0 same

  declared_alike : (k : ℕ) (initial : Option Expr) → Alike (optional_mentions initial) xs ys → Alike (whole k ∷ []) xs ys →
      SameAt (optional_roots initial) before before' →
      LeftAlike (whole k ∷ []) (declared scope k initial (seen xs before)) (declared scope k initial (seen ys before'))
  declared_alike k initial read written near =
      subst (λ value. LeftAlike (whole k ∷ []) (declared scope k initial (seen xs before)) (option_and_then (λ value. put_at k [] value ys) value))
      (initial_alike k initial read near) (declared_there k (initial_value scope k initial (seen xs before)) written)

  -- ---- calls

  outputs_same : (outputs : List Path) → Alike (joined (map path_mentions outputs)) xs ys → SameAt (joined (map roots_in_path outputs)) before before' →
      values_of (map reading (map (path_meaning_of scope) outputs)) (seen xs before)
      ≡ values_of (map reading (map (path_meaning_of scope) outputs)) (seen ys before')
  outputs_same [] same near = refl
  outputs_same (path ∷ rest) same near =
      let one = reading_same scope before before' path (local_path scope before before' path) xs ys
      (alike_first (path_mentions path) (joined (map path_mentions rest)) xs ys same)
      (same_first (roots_in_path path) (joined (map roots_in_path rest)) before before' near) in
      let others = outputs_same rest (alike_second (path_mentions path) (joined (map path_mentions rest)) xs ys same)
      (same_second (roots_in_path path) (joined (map roots_in_path rest)) before before' near) in
      λ i. option_and_then (λ datum. option_map (λ values. plain datum ∷ values) (others i)) (one i)

  arguments_same : (inputs : List Expr) (outputs : List Path) → Alike (joined (map mentions inputs)) xs ys →
      Alike (joined (map path_mentions outputs)) xs ys →
      SameAt (joined (map roots_in inputs)) before before' → SameAt (joined (map roots_in_path outputs)) before before' →
      values_of (map (meaning_of scope) inputs ++ map reading (map (path_meaning_of scope) outputs)) (seen xs before)
      ≡ values_of (map (meaning_of scope) inputs ++ map reading (map (path_meaning_of scope) outputs)) (seen ys before')
  arguments_same [] outputs ins outs near there = outputs_same outputs outs there
  arguments_same (e ∷ rest) outputs ins outs near there =
      let one = local scope before before' e xs ys (alike_first (mentions e) (joined (map mentions rest)) xs ys ins)
      (same_first (roots_in e) (joined (map roots_in rest)) before before' near) in
      let others = arguments_same rest outputs (alike_second (mentions e) (joined (map mentions rest)) xs ys ins) outs
      (same_second (roots_in e) (joined (map roots_in rest)) before before' near) there in
      λ i. option_and_then (λ datum. option_map (λ values. plain datum ∷ values) (others i)) (one i)

  -- the static path of each is among these
  abbrev Members : List Static → List Path → Type 0
  Members paths [] = ⊤
  Members paths (path ∷ rest) = In (static_of path) paths × Members paths rest

  members_more : (one : Static) (paths : List Static) (outputs : List Path) → Members paths outputs → Members (one ∷ paths) outputs
  members_more one paths [] m = tt
  members_more one paths (path ∷ rest) m = (inr m.0, members_more one paths rest m.1)

  members : (outputs : List Path) → Members (map static_of outputs) outputs
  members [] = tt
  members (path ∷ rest) = (inl refl, members_more (static_of path) (map static_of rest) rest (members rest))

  or_as_before : (paths : List Static) (us vs : List Value) (o o' : Option (List Value)) → LeftAlike paths o o' → Alike paths us vs →
      Alike paths (unwrap_or o us) (unwrap_or o' vs)
  or_as_before paths us vs None None left same = same
  or_as_before paths us vs None (Some b) left same = elim left [ ]
  or_as_before paths us vs (Some a) None left same = elim left [ ]
  or_as_before paths us vs (Some a) (Some b) left same = left

  back_there : (path : Path) (paths : List Static) (value : Value) (us vs : List Value) (positions : Option (List ℕ)) →
      (path_meaning_of scope path).positions (seen xs before) ≡ positions → In (static_of path) paths → Alike paths us vs →
      LeftAlike paths (option_and_then (λ ks. put_at (path_meaning_of scope path).root ks value us) positions)
      (option_and_then (λ ks. put_at (path_meaning_of scope path).root ks value vs) positions)
  back_there path paths value us vs None e m same = tt
  back_there path paths value us vs (Some positions) e m same =
      placed path paths positions value us vs e (alike_in paths (static_of path) us vs m same) same

  back_alike : (path : Path) (paths : List Static) (value : Value) (us vs : List Value) → Alike (path_mentions path) xs ys →
      SameAt (roots_in_path path) before before' →
      In (static_of path) paths → Alike paths us vs →
      Alike paths (put_back (path_meaning_of scope path) value (seen xs before) us) (put_back (path_meaning_of scope path) value (seen ys before') vs)
  back_alike path paths value us vs read near m same =
      let leads = (local_path scope before before' path).leads xs ys read.1 near in
      or_as_before paths us vs
      (option_and_then (λ ks. put_at (path_meaning_of scope path).root ks value us) ((path_meaning_of scope path).positions (seen xs before)))
      (option_and_then (λ ks. put_at (path_meaning_of scope path).root ks value vs) ((path_meaning_of scope path).positions (seen ys before')))
      (subst (λ positions. LeftAlike paths
      (option_and_then (λ ks. put_at (path_meaning_of scope path).root ks value us) ((path_meaning_of scope path).positions (seen xs before)))
      (option_and_then (λ ks. put_at (path_meaning_of scope path).root ks value vs) positions)) leads
      (back_there path paths value us vs ((path_meaning_of scope path).positions (seen xs before)) refl m same)) same

  all_back : (outputs : List Path) (paths : List Static) (values : List Value) (us vs : List Value) → Alike (joined (map path_mentions outputs)) xs ys →
      SameAt (joined (map roots_in_path outputs)) before before' → Members paths outputs → Alike paths us vs →
      Alike paths (put_all (map (path_meaning_of scope) outputs) values (seen xs before) us)
      (put_all (map (path_meaning_of scope) outputs) values (seen ys before') vs)
  all_back [] paths values us vs read near m same = same
  all_back (path ∷ rest) paths [] us vs read near m same = same
  all_back (path ∷ rest) paths (value ∷ values) us vs read near m same =
      all_back rest paths values (put_back (path_meaning_of scope path) value (seen xs before) us)
      (put_back (path_meaning_of scope path) value (seen ys before') vs)
      (alike_second (path_mentions path) (joined (map path_mentions rest)) xs ys read)
      (same_second (roots_in_path path) (joined (map roots_in_path rest)) before before' near) m.1
      (back_alike path paths value us vs (alike_first (path_mentions path) (joined (map path_mentions rest)) xs ys read)
      (same_first (roots_in_path path) (joined (map roots_in_path rest)) before before' near) m.0 same)

  left_there : (outputs : List Path) (left : Option Left) → Alike (joined (map path_mentions outputs)) xs ys → Alike (map static_of outputs) xs ys →
      SameAt (joined (map roots_in_path outputs)) before before' →
      LeftAlike (map static_of outputs) (option_map (λ left. put_all (map (path_meaning_of scope) outputs) left.outputs (seen xs before) xs) left)
      (option_map (λ left. put_all (map (path_meaning_of scope) outputs) left.outputs (seen ys before') ys) left)
  left_there outputs None read same near = tt
  left_there outputs (Some left) read same near = all_back outputs (map static_of outputs) left.outputs xs ys read near (members outputs) same

  called_there : (outputs : List Path) (callee : Callee) (values : Option (List Value)) → Alike (joined (map path_mentions outputs)) xs ys →
      Alike (map static_of outputs) xs ys → SameAt (joined (map roots_in_path outputs)) before before' →
      LeftAlike (map static_of outputs)
      (option_and_then (λ values. option_map (λ left. put_all (map (path_meaning_of scope) outputs) left.outputs (seen xs before) xs) (callee values)) values)
      (option_and_then (λ values. option_map (λ left. put_all (map (path_meaning_of scope) outputs) left.outputs (seen ys before') ys)
      (callee values)) values)
  called_there outputs callee None read same near = tt
  called_there outputs callee (Some values) read same near = left_there outputs (callee values) read same near

  called_alike : (callee : Option Callee) (inputs : List Expr) (outputs : List Path) → Alike (joined (map mentions inputs)) xs ys →
      Alike (joined (map path_mentions outputs)) xs ys → Alike (map static_of outputs) xs ys → SameAt (argument_roots inputs outputs) before before' →
      LeftAlike (map static_of outputs)
      (option_and_then (outcome_of_call (map (meaning_of scope) inputs) (map (path_meaning_of scope) outputs) (seen xs before)) callee)
      (option_and_then (outcome_of_call (map (meaning_of scope) inputs) (map (path_meaning_of scope) outputs) (seen ys before')) callee)
  called_alike None inputs outputs ins outs same near = tt
  called_alike (Some callee) inputs outputs ins outs same near =
      let there = same_second (joined (map roots_in inputs)) (joined (map roots_in_path outputs)) before before' near in
      subst (λ values. LeftAlike (map static_of outputs)
      (outcome_of_call (map (meaning_of scope) inputs) (map (path_meaning_of scope) outputs) (seen xs before) callee)
      (option_and_then (λ values. option_map (λ left. put_all (map (path_meaning_of scope) outputs) left.outputs (seen ys before') ys)
      (callee values)) values))
      (arguments_same inputs outputs ins outs (same_first (joined (map roots_in inputs)) (joined (map roots_in_path outputs)) before before' near) there)
      (called_there outputs callee
      (values_of (map (meaning_of scope) inputs ++ map reading (map (path_meaning_of scope) outputs)) (seen xs before)) outs same there)

  -- ---- by kinds

  by_kind : (layer : Kind) → Alike (kind_reads (read_parts layer)) xs ys → Alike (kind_writes (written_parts layer)) xs ys →
      SameAt (stmt_kind_naming (named_parts layer)).named before before' →
      LeftAlike (kind_writes (written_parts layer)) (acted scope layer (seen xs before)) (acted scope layer (seen ys before'))
  by_kind (StmtKind-F.Declare k initial) read written near = declared_alike k initial read written near.1
  by_kind (StmtKind-F.Assign path e) read written near = assigned_alike path e read written near
  by_kind (StmtKind-F.Call f inputs outputs) read written near =
      called_alike (slice_get scope.callees f) inputs outputs (alike_first (joined (map mentions inputs)) (joined (map path_mentions outputs)) xs ys read)
      (alike_second (joined (map mentions inputs)) (joined (map path_mentions outputs)) xs ys read) written near
  by_kind (StmtKind-F.Await e) read written near = tt
  by_kind (StmtKind-F.Run target a inputs outputs) read written near = tt
  by_kind (StmtKind-F.If arms other) read written near = tt
  by_kind (StmtKind-F.Cobegin branches) read written near = tt
  by_kind (StmtKind-F.When guard e body) read written near = tt
  by_kind (StmtKind-F.Repeat body) read written near = tt
  by_kind (StmtKind-F.Until body e) read written near = tt
  by_kind (StmtKind-F.While e body) read written near = tt
  by_kind (StmtKind-F.Return e) read written near = tt

pub acts_are_local : ActsAreLocal
acts_are_local scope s xs ys before before' same near =
    let read = alike_list (kind_reads (read_parts (kind_of s))) xs ys
    (subst (λ paths. Alike paths xs ys) (reads_out s) (alike_first (reads s) (writes s) xs ys same)) in
    let written = alike_list (kind_writes (written_parts (kind_of s))) xs ys
    (subst (λ paths. Alike paths xs ys) (writes_out s) (alike_second (reads s) (writes s) xs ys same)) in
    subst (λ paths. LeftAlike paths (acted scope (kind_of s) (seen xs before)) (acted scope (kind_of s) (seen ys before'))) (sym (writes_out s))
    (left_set (kind_writes (written_parts (kind_of s))) (acted scope (kind_of s) (seen xs before)) (acted scope (kind_of s) (seen ys before'))
    (by_kind scope before before' xs ys (kind_of s) read written (subst (λ naming. SameAt naming.named before before') (naming_out s) near)))
