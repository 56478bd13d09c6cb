-- What stands in a statement reads and writes no more than the statement.
use Rattle.std.proofs.Common.{◌≡◌, List, [], ◌∷◌, ◌++◌, ◌⊎◌, ⊎_elim, map, sym, ap, ◌∙◌, subst, arith}
use Rattle.std.specs.Prelude.{Contains}
use Rattle.std.proofs.lemmas.List.Elements.{Contains-append_left, Contains-append_right, Contains-append_cases}
use Rattle.bl_tree.proofs.Basics.{contains_none, contains_one}
use Rattle.bl_tree.specs.declared.tree.Arm.{Arm, out-Arm}
use Rattle.bl_tree.specs.declared.tree.Branch.{Branch, out-Branch}
use Rattle.bl_tree.specs.declared.tree.Stmt.{Stmt, fold_out-Stmt, out-Stmt}
use Rattle.bl_tree.specs.declared.tree.StmtKind.{StmtKind, fold_out-StmtKind, out-StmtKind}
use Rattle.bl_tree.specs.declared.tree.StmtKind.TheOpen.{StmtKind-F}
use Rattle.bl_tree.specs.Reduce.{joined}
use Rattle.bl_tree.specs.declared.static_path.Static.{Static}
use Rattle.bl_tree.specs.Effects.{arm_reads, arm_writes, branch_paths, kind_reads, kind_writes, reads, stmt_set, writes}
use Rattle.bl_effects.specs.inner.Gathered.{reads_of_arm, reads_of_branch, writes_of_arm, writes_of_branch}
use Rattle.bl_tree.specs.Static.{mentions, set_of}
use Rattle.bl_tree.specs.Within.{Within, deeper, itself, kind_children}
use Rattle.bl_effects.proofs.GatherLemmas.{read_parts, reads_arm_out, reads_branch_out, writes_arm_out, writes_branch_out, written_parts}
use Rattle.bl_effects.proofs.SetLemmas.{set_members}

-- what a part of a joined list comes from is in the joined list of what the parts come to
of_part : {A B C : Type 0} (f : A → List B) (g : A → List C) (b : B) (c : C) → ((a : A) → Contains (f a) b → Contains (g a) c)
    → (xs : List A) → Contains (joined (map f xs)) b → Contains (joined (map g xs)) c
of_part f g b c gives [] there = absurd (contains_none b there)
of_part f g b c gives (x ∷ xs) there =
    ⊎_elim (λ first. Contains-append_left (g x) (joined (map g xs)) c (gives x first))
    (λ rest. Contains-append_right (g x) (joined (map g xs)) c (of_part f g b c gives xs rest))
    (Contains-append_cases (f x) (joined (map f xs)) b there)

of_one : {A C : Type 0} (g : A → List C) (a : A) (c : C) → Contains (g a) c → (xs : List A) → Contains xs a → Contains (joined (map g xs)) c
of_one g a c gives [] there = absurd (contains_none a there)
of_one g a c gives (x ∷ xs) there =
    ⊎_elim (λ first. Contains-append_left (g x) (joined (map g xs)) c (subst (λ y. Contains (g y) c) (sym (contains_one x a first)) gives))
    (λ rest. Contains-append_right (g x) (joined (map g xs)) c (of_one g a c gives xs rest))
    (Contains-append_cases (x ∷ []) xs a there)

read_child : (layer : StmtKind-F StmtKind Arm Branch Stmt) (s : Stmt) (x : Static) → Contains (kind_children layer) s →
    Contains (reads s) x → Contains (kind_reads (read_parts layer)) x
read_child (StmtKind-F.If arms other) s x there has =
    ⊎_elim
    (λ first. Contains-append_left (joined (map reads_of_arm arms)) (joined (map reads other)) x
    (of_part (λ arm. (out-Arm arm).body) reads_of_arm s x
    (λ arm inside. subst (λ r. Contains r x) (sym (reads_arm_out arm))
    (Contains-append_right (mentions (out-Arm arm).test) (joined (map reads (out-Arm arm).body)) x
    (of_one reads s x has (out-Arm arm).body inside))) arms first))
    (λ rest. Contains-append_right (joined (map reads_of_arm arms)) (joined (map reads other)) x (of_one reads s x has other rest))
    (Contains-append_cases (joined (map (λ arm. (out-Arm arm).body) arms)) other s there)
read_child (StmtKind-F.Cobegin branches) s x there has =
    of_part (λ branch. (out-Branch branch).body) reads_of_branch s x
    (λ branch inside. subst (λ r. Contains r x) (sym (reads_branch_out branch)) (of_one reads s x has (out-Branch branch).body inside)) branches there
read_child (StmtKind-F.When guard e body) s x there has = Contains-append_right (mentions e) (joined (map reads body)) x (of_one reads s x has body there)
read_child (StmtKind-F.Repeat body) s x there has = of_one reads s x has body there
read_child (StmtKind-F.Until body e) s x there has = Contains-append_left (joined (map reads body)) (mentions e) x (of_one reads s x has body there)
read_child (StmtKind-F.While e body) s x there has = Contains-append_right (mentions e) (joined (map reads body)) x (of_one reads s x has body there)
read_child _ s x there has = absurd (contains_none s there)

written_child : (layer : StmtKind-F StmtKind Arm Branch Stmt) (s : Stmt) (x : Static) → Contains (kind_children layer) s →
    Contains (writes s) x → Contains (kind_writes (written_parts layer)) x
written_child (StmtKind-F.If arms other) s x there has =
    ⊎_elim
    (λ first. Contains-append_left (joined (map writes_of_arm arms)) (joined (map writes other)) x
    (of_part (λ arm. (out-Arm arm).body) writes_of_arm s x
    (λ arm inside. subst (λ r. Contains r x) (sym (writes_arm_out arm)) (of_one writes s x has (out-Arm arm).body inside)) arms first))
    (λ rest. Contains-append_right (joined (map writes_of_arm arms)) (joined (map writes other)) x (of_one writes s x has other rest))
    (Contains-append_cases (joined (map (λ arm. (out-Arm arm).body) arms)) other s there)
written_child (StmtKind-F.Cobegin branches) s x there has =
    of_part (λ branch. (out-Branch branch).body) writes_of_branch s x
    (λ branch inside. subst (λ r. Contains r x) (sym (writes_branch_out branch)) (of_one writes s x has (out-Branch branch).body inside)) branches there
written_child (StmtKind-F.When guard e body) s x there has = of_one writes s x has body there
written_child (StmtKind-F.Repeat body) s x there has = of_one writes s x has body there
written_child (StmtKind-F.Until body e) s x there has = of_one writes s x has body there
written_child (StmtKind-F.While e body) s x there has = of_one writes s x has body there
written_child _ s x there has = absurd (contains_none s there)

reads_out : (s : Stmt) → reads s ≡ set_of (kind_reads (read_parts (out-StmtKind (out-Stmt s).what)))
reads_out s =
    fold_out-Stmt (List Static) (List Static) (List Static) (List Static) kind_reads arm_reads branch_paths stmt_set s
    ∙ ap set_of (fold_out-StmtKind (List Static) (List Static) (List Static) (List Static) kind_reads arm_reads branch_paths stmt_set (out-Stmt s).what)

writes_out : (s : Stmt) → writes s ≡ set_of (kind_writes (written_parts (out-StmtKind (out-Stmt s).what)))
writes_out s =
    fold_out-Stmt (List Static) (List Static) (List Static) (List Static) kind_writes arm_writes branch_paths stmt_set s
    ∙ ap set_of (fold_out-StmtKind (List Static) (List Static) (List Static) (List Static) kind_writes arm_writes branch_paths stmt_set (out-Stmt s).what)

-- what a statement reads is read by each that it stands in
pub reads_within : (s outer : Stmt) → Within s outer → (x : Static) → Contains (reads s) x → Contains (reads outer) x
reads_within s outer (itself) x has = has
reads_within s outer (deeper _ next there within) x has =
    subst (λ r. Contains r x) (sym (reads_out outer))
    ((set_members (kind_reads (read_parts (out-StmtKind (out-Stmt outer).what))) x).1
    (read_child (out-StmtKind (out-Stmt outer).what) next x there (reads_within s next within x has)))

-- and what it writes is written by each
pub writes_within : (s outer : Stmt) → Within s outer → (x : Static) → Contains (writes s) x → Contains (writes outer) x
writes_within s outer (itself) x has = has
writes_within s outer (deeper _ next there within) x has =
    subst (λ r. Contains r x) (sym (writes_out outer))
    ((set_members (kind_writes (written_parts (out-StmtKind (out-Stmt outer).what))) x).1
    (written_child (out-StmtKind (out-Stmt outer).what) next x there (writes_within s next within x has)))
