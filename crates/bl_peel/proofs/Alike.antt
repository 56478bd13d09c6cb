-- Statements and blocks whose parts have the effects of others have them too.
use Rattle.std.proofs.Common.{◌≡◌, ◌+◌, max, Bool, true, false, ◌&&◌, ◌||◌, List, [], ◌∷◌, ◌++◌, map, refl, ap, sym, ◌∙◌, append_assoc, append-nil}
use Rattle.std.specs.Prelude.{if◌then◌else◌}
use Rattle.std.proofs.lemmas.List.{map-append}
use Rattle.bl_tree.specs.declared.place.Place.{Place}
use Rattle.bl_tree.specs.declared.static_path.Static.{Static}
use Rattle.bl_tree.specs.declared.tree.Arm.{Arm}
use Rattle.bl_tree.specs.declared.tree.Branch.{Branch}
use Rattle.bl_tree.specs.declared.tree.Expr.{Expr}
use Rattle.bl_tree.specs.declared.tree.Guard.{Guard}
use Rattle.bl_tree.specs.declared.tree.Stmt.{Stmt}
use Rattle.bl_tree.specs.declared.tree.StmtKind.{StmtKind}
use Rattle.bl_tree.specs.declared.tree.StmtKind.TheOpen.{StmtKind-F}
use Rattle.bl_tree.specs.Effects.{kind_reads, kind_writes, reads, writes}
use Rattle.bl_tree.specs.Instant.{branches_instant, instant, is_instant_block, kind_instant}
use Rattle.bl_tree.specs.Reduce.{all_of, any_of, greatest, joined, total}
use Rattle.bl_tree.specs.Static.{mentions, set_of}
use Rattle.bl_tree.proofs.ReduceLemmas.{all_of-append, greatest-append, joined-append}
use Rattle.bl_effects.specs.Surface.{Surface, block_instant, block_surface, kind_surface_writes, kind_width, stmt_width, surface_of, width}
use Rattle.bl_effects.specs.inner.Gathered.{ends_of_branch, instant_of_arm, reads_of_arm, reads_of_branch, writes_of_arm, writes_of_branch}
use Rattle.bl_effects.proofs.GatherLemmas.{read_parts, written_parts}
use Rattle.bl_effects.proofs.InstantLemmas.{surface_agrees}
use Rattle.bl_peel.specs.Laws.{HasEffectsOf}
use Rattle.bl_peel.specs.Peeled.{made_arm, made_if, made_stmt, place_of_expr}
use Rattle.bl_peel.proofs.Equations.{ends_branch, instant_arm, instant_at, instant_parts, made_branch, reads_arm, reads_at, reads_branch, surface_arm}
use Rattle.bl_peel.proofs.Equations.{surface_at, surface_branch, surface_of_arm, surface_of_branch, surface_parts, width_arm, width_at, width_branch}
use Rattle.bl_peel.proofs.Equations.{width_of_arm, width_of_branch, width_parts, writes_arm, writes_at, writes_branch}
use Rattle.bl_peel.proofs.Sets.{set_alone, set_append, set_if}

-- ---- blocks

pub effects_same : (body : List Stmt) → HasEffectsOf body body
effects_same body = record { instant = refl; width = refl; reads = refl; writes = refl; surface = refl }

pub effects_then : (a b c : List Stmt) → HasEffectsOf a b → HasEffectsOf b c → HasEffectsOf a c
effects_then a b c one other = record {
  instant = other.instant ∙ one.instant;
  width = other.width ∙ one.width;
  reads = other.reads ∙ one.reads;
  writes = other.writes ∙ one.writes;
  surface = other.surface ∙ one.surface;
}

-- what a list of statements writes before it pauses, and what follows it where it may end at once
pub surface_append : (xs ys : List Surface) → block_surface (xs ++ ys) ≡ block_surface xs ++ (if block_instant xs then block_surface ys else [])
surface_append [] ys = refl
surface_append (s ∷ xs) ys =
    ap (λ rest. s.writes ++ (if s.instant then rest else [])) (surface_append xs ys) ∙ by_flag s.instant
  where
    by_flag : (c : Bool) → s.writes ++ (if c then block_surface xs ++ (if block_instant xs then block_surface ys else []) else [])
        ≡ (s.writes ++ (if c then block_surface xs else [])) ++ (if c && block_instant xs then block_surface ys else [])
    by_flag true = sym (append_assoc s.writes (block_surface xs) (if block_instant xs then block_surface ys else []))
    by_flag false = sym (append-nil (s.writes ++ []))

-- the surfaces of a block tell whether it may end at once
pub surface_ends : (body : List Stmt) → block_instant (map surface_of body) ≡ is_instant_block body
surface_ends [] = refl
surface_ends (s ∷ body) = λ i. surface_agrees s i && surface_ends body i

pub instant_append : (xs ys : List Stmt) → is_instant_block (xs ++ ys) ≡ (is_instant_block xs && is_instant_block ys)
instant_append xs ys = ap all_of (map-append instant xs ys) ∙ all_of-append (map instant xs) (map instant ys)

pub width_append : (xs ys : List Stmt) → width (xs ++ ys) ≡ max (width xs) (width ys)
width_append xs ys = ap greatest (map-append stmt_width xs ys) ∙ greatest-append (map stmt_width xs) (map stmt_width ys)

pub paths_append : (f : Stmt → List Static) (xs ys : List Stmt) → joined (map f (xs ++ ys)) ≡ joined (map f xs) ++ joined (map f ys)
paths_append f xs ys = ap joined (map-append f xs ys) ∙ joined-append (map f xs) (map f ys)

pub writes_first : (xs ys : List Stmt) → block_surface (map surface_of (xs ++ ys))
    ≡ block_surface (map surface_of xs) ++ (if is_instant_block xs then block_surface (map surface_of ys) else [])
writes_first xs ys =
    ap block_surface (map-append surface_of xs ys)
    ∙ surface_append (map surface_of xs) (map surface_of ys)
    ∙ ap (λ c. block_surface (map surface_of xs) ++ (if c then block_surface (map surface_of ys) else [])) (surface_ends xs)

pub effects_append : (a b c d : List Stmt) → HasEffectsOf a b → HasEffectsOf c d → HasEffectsOf (a ++ c) (b ++ d)
effects_append a b c d one other = record {
  instant = instant_append b d ∙ (λ i. one.instant i && other.instant i) ∙ sym (instant_append a c);
  width = width_append b d ∙ (λ i. max (one.width i) (other.width i)) ∙ sym (width_append a c);
  reads = both reads one.reads other.reads;
  writes = both writes one.writes other.writes;
  surface = ap set_of (writes_first b d)
      ∙ set_append (block_surface (map surface_of b)) (block_surface (map surface_of a)) _ _ one.surface
      (ap (λ ends. set_of (if ends then block_surface (map surface_of d) else [])) one.instant
      ∙ set_if (is_instant_block a) (block_surface (map surface_of d)) (block_surface (map surface_of c)) other.surface)
      ∙ sym (ap set_of (writes_first a c));
}
  where
    both : (f : Stmt → List Static) → set_of (joined (map f b)) ≡ set_of (joined (map f a)) → set_of (joined (map f d)) ≡ set_of (joined (map f c)) →
        set_of (joined (map f (b ++ d))) ≡ set_of (joined (map f (a ++ c)))
    both f first second =
        ap set_of (paths_append f b d)
        ∙ set_append (joined (map f b)) (joined (map f a)) (joined (map f d)) (joined (map f c)) first second
        ∙ sym (ap set_of (paths_append f a c))

-- ---- statements

-- a statement has the effects of another, wherever they stand
pub record Alike (source made : Stmt) : Type 0 where
  pub ends : instant made ≡ instant source
  pub rests : stmt_width made ≡ stmt_width source
  pub read : reads made ≡ reads source
  pub written : writes made ≡ writes source
  pub first : set_of (surface_of made).writes ≡ set_of (surface_of source).writes

pub alike_same : (s : Stmt) → Alike s s
alike_same s = record { ends = refl; rests = refl; read = refl; written = refl; first = refl }

pub effects_alone : (s t : Stmt) → Alike s t → HasEffectsOf (s ∷ []) (t ∷ [])
effects_alone s t same = record {
  instant = ap (λ b. b && true) same.ends;
  width = ap (λ n. max n 0) same.rests;
  reads = ap (λ paths. set_of (paths ++ [])) same.read;
  writes = ap (λ paths. set_of (paths ++ [])) same.written;
  surface = set_alone (surface_of t).instant (surface_of s).instant (surface_of t).writes (surface_of s).writes same.first;
}

-- two statements by their kinds
pub alike_kinds : (p q : Place) (source made : StmtKind-F StmtKind Arm Branch Stmt) →
    kind_instant (instant_parts made) ≡ kind_instant (instant_parts source) → kind_width (width_parts made) ≡ kind_width (width_parts source) →
    set_of (kind_reads (read_parts made)) ≡ set_of (kind_reads (read_parts source)) →
    set_of (kind_writes (written_parts made)) ≡ set_of (kind_writes (written_parts source)) →
    set_of (kind_surface_writes (surface_parts made)) ≡ set_of (kind_surface_writes (surface_parts source)) →
    Alike (made_stmt p source) (made_stmt q made)
alike_kinds p q source made ends rests read written first = record {
  ends = instant_at q made ∙ ends ∙ sym (instant_at p source);
  rests = width_at q made ∙ rests ∙ sym (width_at p source);
  read = reads_at q made ∙ read ∙ sym (reads_at p source);
  written = writes_at q made ∙ written ∙ sym (writes_at p source);
  first = ap (λ surface. set_of surface.writes) (surface_at q made) ∙ first ∙ sym (ap (λ surface. set_of surface.writes) (surface_at p source));
}

pub alike_when : (place : Place) (guard : Guard) (e : Expr) (a b : List Stmt) → HasEffectsOf a b →
    Alike (made_stmt place (StmtKind-F.When guard e a)) (made_stmt place (StmtKind-F.When guard e b))
alike_when place guard e a b same =
    alike_kinds place place (StmtKind-F.When guard e a) (StmtKind-F.When guard e b) same.instant same.width
    (set_append (mentions e) (mentions e) (joined (map reads b)) (joined (map reads a)) refl same.reads) same.writes same.surface

pub alike_repeat : (place : Place) (a b : List Stmt) → HasEffectsOf a b →
    Alike (made_stmt place (StmtKind-F.Repeat a)) (made_stmt place (StmtKind-F.Repeat b))
alike_repeat place a b same =
    alike_kinds place place (StmtKind-F.Repeat a) (StmtKind-F.Repeat b) refl same.width same.reads same.writes same.surface

pub alike_until : (place : Place) (e : Expr) (a b : List Stmt) → HasEffectsOf a b →
    Alike (made_stmt place (StmtKind-F.Until a e)) (made_stmt place (StmtKind-F.Until b e))
alike_until place e a b same =
    alike_kinds place place (StmtKind-F.Until a e) (StmtKind-F.Until b e) same.instant same.width
    (set_append (joined (map reads b)) (joined (map reads a)) (mentions e) (mentions e) same.reads refl) same.writes same.surface

pub alike_while : (place : Place) (e : Expr) (a b : List Stmt) → HasEffectsOf a b →
    Alike (made_stmt place (StmtKind-F.While e a)) (made_stmt place (StmtKind-F.While e b))
alike_while place e a b same =
    alike_kinds place place (StmtKind-F.While e a) (StmtKind-F.While e b) refl same.width
    (set_append (mentions e) (mentions e) (joined (map reads b)) (joined (map reads a)) refl same.reads) same.writes same.surface

-- ---- arms

-- an arm has the effects of another
pub record ArmAlike (source made : Arm) : Type 0 where
  pub ends : instant_of_arm made ≡ instant_of_arm source
  pub rests : width_of_arm made ≡ width_of_arm source
  pub read : set_of (reads_of_arm made) ≡ set_of (reads_of_arm source)
  pub written : set_of (writes_of_arm made) ≡ set_of (writes_of_arm source)
  pub first : set_of (surface_of_arm made).writes ≡ set_of (surface_of_arm source).writes

pub arm_alike : (e : Expr) (a b : List Stmt) → HasEffectsOf a b → ArmAlike (made_arm e a) (made_arm e b)
arm_alike e a b same = record {
  ends = instant_arm e b ∙ same.instant ∙ sym (instant_arm e a);
  rests = width_arm e b ∙ same.width ∙ sym (width_arm e a);
  read = ap set_of (reads_arm e b)
      ∙ set_append (mentions e) (mentions e) (joined (map reads b)) (joined (map reads a)) refl same.reads ∙ sym (ap set_of (reads_arm e a));
  written = ap set_of (writes_arm e b) ∙ same.writes ∙ sym (ap set_of (writes_arm e a));
  first = ap set_of (surface_arm e b) ∙ same.surface ∙ sym (ap set_of (surface_arm e a));
}

-- arms together have the effects of others
pub record ArmsAlike (source made : List Arm) : Type 0 where
  pub ends : any_of (map instant_of_arm made) ≡ any_of (map instant_of_arm source)
  pub rests : greatest (map width_of_arm made) ≡ greatest (map width_of_arm source)
  pub read : set_of (joined (map reads_of_arm made)) ≡ set_of (joined (map reads_of_arm source))
  pub written : set_of (joined (map writes_of_arm made)) ≡ set_of (joined (map writes_of_arm source))
  pub first : set_of (joined (map (λ arm. arm.writes) (map surface_of_arm made))) ≡ set_of (joined (map (λ arm. arm.writes) (map surface_of_arm source)))

pub no_arms : ArmsAlike [] []
no_arms = record { ends = refl; rests = refl; read = refl; written = refl; first = refl }

pub more_arms : (arm made : Arm) (arms others : List Arm) → ArmAlike arm made → ArmsAlike arms others → ArmsAlike (arm ∷ arms) (made ∷ others)
more_arms arm made arms others one more = record {
  ends = λ i. one.ends i || more.ends i;
  rests = λ i. max (one.rests i) (more.rests i);
  read = set_append (reads_of_arm made) (reads_of_arm arm) (joined (map reads_of_arm others)) (joined (map reads_of_arm arms)) one.read more.read;
  written = set_append (writes_of_arm made) (writes_of_arm arm) (joined (map writes_of_arm others)) (joined (map writes_of_arm arms))
      one.written more.written;
  first = set_append (surface_of_arm made).writes (surface_of_arm arm).writes (joined (map (λ arm. arm.writes) (map surface_of_arm others)))
      (joined (map (λ arm. arm.writes) (map surface_of_arm arms))) one.first more.first;
}

pub alike_if : (p q : Place) (arms others : List Arm) (a b : List Stmt) → ArmsAlike arms others → HasEffectsOf a b →
    Alike (made_stmt p (StmtKind-F.If arms a)) (made_stmt q (StmtKind-F.If others b))
alike_if p q arms others a b tested same =
    alike_kinds p q (StmtKind-F.If arms a) (StmtKind-F.If others b)
    (λ i. tested.ends i || same.instant i)
    (λ i. max (tested.rests i) (same.width i))
    (set_append (joined (map reads_of_arm others)) (joined (map reads_of_arm arms)) (joined (map reads b)) (joined (map reads a)) tested.read same.reads)
    (set_append (joined (map writes_of_arm others)) (joined (map writes_of_arm arms)) (joined (map writes b)) (joined (map writes a))
    tested.written same.writes)
    (set_append (joined (map (λ arm. arm.writes) (map surface_of_arm others))) (joined (map (λ arm. arm.writes) (map surface_of_arm arms)))
    (block_surface (map surface_of b)) (block_surface (map surface_of a)) tested.first same.surface)

-- an `if` that is made for the first turn of a loop
pub alike_test : (e : Expr) (a b c d : List Stmt) → HasEffectsOf a b → HasEffectsOf c d → Alike (made_if e a c) (made_if e b d)
alike_test e a b c d body other =
    alike_if (place_of_expr e) (place_of_expr e) (made_arm e a ∷ []) (made_arm e b ∷ []) c d
    (more_arms (made_arm e a) (made_arm e b) [] [] (arm_alike e a b body) no_arms) other

-- ---- branches

-- a branch has the effects of another
pub record BranchAlike (source made : Branch) : Type 0 where
  pub ends : ends_of_branch made ≡ ends_of_branch source
  pub rests : width_of_branch made ≡ width_of_branch source
  pub read : set_of (reads_of_branch made) ≡ set_of (reads_of_branch source)
  pub written : set_of (writes_of_branch made) ≡ set_of (writes_of_branch source)
  pub first : set_of (surface_of_branch made).writes ≡ set_of (surface_of_branch source).writes

pub branch_alike : (weak : Bool) (a b : List Stmt) → HasEffectsOf a b → BranchAlike (made_branch weak a) (made_branch weak b)
branch_alike weak a b same = record {
  ends = ends_branch weak b ∙ (λ i. record { weak = weak; instant = same.instant i }) ∙ sym (ends_branch weak a);
  rests = width_branch weak b ∙ ap (λ n. max 1 n) same.width ∙ sym (width_branch weak a);
  read = ap set_of (reads_branch weak b) ∙ same.reads ∙ sym (ap set_of (reads_branch weak a));
  written = ap set_of (writes_branch weak b) ∙ same.writes ∙ sym (ap set_of (writes_branch weak a));
  first = ap set_of (surface_branch weak b) ∙ same.surface ∙ sym (ap set_of (surface_branch weak a));
}

-- branches together have the effects of others
pub record BranchesAlike (source made : List Branch) : Type 0 where
  pub ends : map ends_of_branch made ≡ map ends_of_branch source
  pub rests : total (map width_of_branch made) ≡ total (map width_of_branch source)
  pub read : set_of (joined (map reads_of_branch made)) ≡ set_of (joined (map reads_of_branch source))
  pub written : set_of (joined (map writes_of_branch made)) ≡ set_of (joined (map writes_of_branch source))
  pub first : set_of (joined (map (λ branch. branch.writes) (map surface_of_branch made)))
      ≡ set_of (joined (map (λ branch. branch.writes) (map surface_of_branch source)))

pub no_branches : BranchesAlike [] []
no_branches = record { ends = refl; rests = refl; read = refl; written = refl; first = refl }

pub more_branches : (branch made : Branch) (branches others : List Branch) → BranchAlike branch made → BranchesAlike branches others →
    BranchesAlike (branch ∷ branches) (made ∷ others)
more_branches branch made branches others one more = record {
  ends = λ i. one.ends i ∷ more.ends i;
  rests = λ i. one.rests i + more.rests i;
  read = set_append (reads_of_branch made) (reads_of_branch branch) (joined (map reads_of_branch others)) (joined (map reads_of_branch branches))
      one.read more.read;
  written = set_append (writes_of_branch made) (writes_of_branch branch) (joined (map writes_of_branch others)) (joined (map writes_of_branch branches))
      one.written more.written;
  first = set_append (surface_of_branch made).writes (surface_of_branch branch).writes
      (joined (map (λ branch. branch.writes) (map surface_of_branch others)))
      (joined (map (λ branch. branch.writes) (map surface_of_branch branches))) one.first more.first;
}

pub alike_cobegin : (place : Place) (branches others : List Branch) → BranchesAlike branches others →
    Alike (made_stmt place (StmtKind-F.Cobegin branches)) (made_stmt place (StmtKind-F.Cobegin others))
alike_cobegin place branches others same =
    alike_kinds place place (StmtKind-F.Cobegin branches) (StmtKind-F.Cobegin others) (ap branches_instant same.ends) same.rests same.read same.written
    same.first
