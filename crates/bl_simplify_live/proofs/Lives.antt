-- Blocks that live as others, by how they are put together.
use Rattle.std.proofs.Common.{◌≡◌, ℕ, ◌+◌, ◌<◌, Bool, true, false, ◌||◌, List, [], ◌∷◌, ◌++◌, map, take, length, get_or, refl, ap, sym, subst, ◌∙◌, Option, Some, None}
use Rattle.std.specs.Prelude.{bytes_eq, is_some}
use Rattle.std.specs.List.{list_any}
use Rattle.std.proofs.lemmas.List.{append_assoc, append-nil, map-append, take_more}
use Rattle.bl_tree.specs.Reduce.{joined}
use Rattle.bl_tree.specs.declared.text.Text.{Text}
use Rattle.bl_tree.specs.declared.place.Place.{Place}
use Rattle.bl_tree.specs.declared.c.CExpr.{CExpr}
use Rattle.bl_tree.specs.declared.c.CPlace.{CPlace}
use Rattle.bl_tree.specs.declared.c.CStmt.{CStmt, fold-roll-CStmt}
use Rattle.bl_tree.specs.declared.c.CStmtKind.{fold-roll-CStmtKind}
use Rattle.bl_ctext_places.specs.Names.{HasNames}
use Rattle.bl_simplify_laws.specs.Known.{told}
use Rattle.bl_simplify_laws.specs.Live.{LiveBlocks, LiveCleared, LiveDead, LiveEither, LiveEmpty, LiveIf, LiveItself, LiveLoop, NamesWithin, SameLive}
use Rattle.bl_simplify_laws.specs.Live.{clear_stmt, read_by, read_in_expr}
use Rattle.bl_simplify_laws.specs.Splits.{branch, if_stmt}
use Rattle.bl_simplify_laws.specs.Spots.{spot_of_place}
use Rattle.bl_simplify_laws.specs.Steps.{set_stmt}
use Rattle.bl_simplify_laws.specs.Tables.{has_name}
use Rattle.bl_simplify_laws.specs.Written.{loop_stmt}
use Rattle.bl_simplify_live.specs.Forms.{IsDeadPlace}
use Rattle.bl_simplify_live.specs.Reads.{HasAll, LivesAs, SameAside, if_there, read_in}
use Rattle.bl_simplify_walk.specs.Forms.{else_of}

-- ---- names

has_left : (xs ys : List Text) (name : Text) → has_name xs name ≡ true → has_name (xs ++ ys) name ≡ true
has_left [] ys name h = absurd (cc)
has_left (x ∷ xs) ys name h = one (bytes_eq x name) (has_name xs name) _ h (has_left xs ys name)
  where
    one : (b c d : Bool) → (b || c) ≡ true → (c ≡ true → d ≡ true) → (b || d) ≡ true
    one true c d h f = refl
    one false c d h f = f h

has_right : (xs ys : List Text) (name : Text) → has_name ys name ≡ true → has_name (xs ++ ys) name ≡ true
has_right [] ys name h = h
has_right (x ∷ xs) ys name h = one (bytes_eq x name) _ (has_right xs ys name h)
  where
    one : (b d : Bool) → d ≡ true → (b || d) ≡ true
    one true d h = refl
    one false d h = h

within_left : (xs ys names : List Text) → NamesWithin (xs ++ ys) names → NamesWithin xs names
within_left xs ys names h name there = h name (has_left xs ys name there)

within_right : (xs ys names : List Text) → NamesWithin (xs ++ ys) names → NamesWithin ys names
within_right xs ys names h name there = h name (has_right xs ys name there)

within_itself : (names : List Text) → NamesWithin names names
within_itself names name there = there

same_within : (xs ys names : List Text) → xs ≡ ys → NamesWithin xs names → NamesWithin ys names
same_within xs ys names same h = subst (λ l. NamesWithin l names) same h

-- ---- what blocks read

joined-append : {A : Type 0} (xs ys : List (List A)) → joined (xs ++ ys) ≡ joined xs ++ joined ys
joined-append [] ys = refl
joined-append (x ∷ xs) ys = ap (λ l. x ++ l) (joined-append xs ys) ∙ sym (append_assoc x (joined xs) (joined ys))

reads-append : (a c : List CStmt) → read_in (a ++ c) ≡ read_in a ++ read_in c
reads-append a c = ap joined (map-append read_by a c) ∙ joined-append (map read_by a) (map read_by c)

reads_one : (s : CStmt) → read_in (s ∷ []) ≡ read_by s
reads_one s = append-nil (read_by s)

if_reads : (at : Place) (c : CExpr) (block : List CStmt) (other : Option (List CStmt)) →
    read_by (if_stmt at c block other) ≡ read_in_expr c ++ (read_in block ++ read_in (branch other))
if_reads at c block None = rw (fold-roll-CStmt, fold-roll-CStmtKind) refl
if_reads at c block (Some other) = rw (fold-roll-CStmt, fold-roll-CStmtKind) refl

loop_reads : (at : Place) (turn : Text) (c : CExpr) (body : List CStmt) → read_by (loop_stmt at turn c body) ≡ read_in_expr c ++ read_in body
loop_reads at turn c body = rw (fold-roll-CStmt, fold-roll-CStmtKind) refl

-- ---- blocks

pub lives_empty : LiveEmpty → (t : Text → Option (Unit {0})) → LivesAs t [] []
lives_empty empty t = record { same = λ names has within. empty names names }

pub lives_append : LiveBlocks → (t : Text → Option (Unit {0})) (a b c d : List CStmt) → LivesAs t a b → LivesAs t c d → LivesAs t (a ++ c) (b ++ d)
lives_append blocks t a b c d h k =
    record {
      same = λ names has within.
          let both : NamesWithin (read_in b ++ read_in d) names = same_within _ _ names (reads-append b d) within in
          blocks names names names names a b c d (h.same names has (within_left _ _ names both)) (k.same names has (within_right (read_in b) _ names both));
    }

pub lives_itself : LiveItself → (t : Text → Option (Unit {0})) (s : CStmt) → LivesAs t (s ∷ []) (s ∷ [])
lives_itself itself t s =
    record {
      same = λ names has within.
          itself names names names s (same_within _ _ names (reads_one s) within) (within_itself names) (within_itself names);
    }

pub lives_copied : LiveEmpty → LiveBlocks → LiveItself → (t : Text → Option (Unit {0})) (block : List CStmt) → LivesAs t block block
lives_copied empty blocks itself t [] = lives_empty empty t
lives_copied empty blocks itself t (s ∷ block) =
    lives_append blocks t (s ∷ []) (s ∷ []) block block (lives_itself itself t s) (lives_copied empty blocks itself t block)

-- ---- statements

not_named : (t : Text → Option (Unit {0})) (names : List Text) (name : Text) → HasNames t names → t name ≡ None → has_name names name ≡ false
not_named t names name has absent = has name ∙ ap is_some absent

pub lives_dead : LiveDead → (t : Text → Option (Unit {0})) (at : Place) (place : CPlace) (e : CExpr) → IsDeadPlace t place → (told e).total ≡ true →
    LivesAs t (set_stmt at place e ∷ []) []
lives_dead dead t at place e is total =
    record {
      same = λ names has within. dead names names at place e is.local (not_named t names (spot_of_place place).name has is.unread) is.steady total;
    }

pub lives_cleared : LiveCleared → (t : Text → Option (Unit {0})) (at : Place) (place : CPlace) (struct : Text) → IsDeadPlace t place →
    LivesAs t (clear_stmt at place struct ∷ []) []
lives_cleared cleared t at place struct is =
    record {
      same = λ names has within. cleared names names at place struct is.local (not_named t names (spot_of_place place).name has is.unread) is.steady;
    }

branch_is : (others : List CStmt) → branch (else_of others) ≡ others
branch_is [] = refl
branch_is (s ∷ rest) = refl

pub lives_if : LiveIf → (t : Text → Option (Unit {0})) (at to : Place) (c : CExpr) (old block : List CStmt) (more : Option (List CStmt)) (other : List CStmt) →
    LivesAs t old block → LivesAs t (branch more) other → LivesAs t (if_stmt at c old more ∷ []) (if_stmt to c block (else_of other) ∷ [])
lives_if branches t at to c old block more other h k =
    record {
      same = λ names has within.
          let all : NamesWithin (read_in_expr c ++ (read_in block ++ read_in (branch (else_of other)))) names =
          same_within _ _ names (reads_one (if_stmt to c block (else_of other)) ∙ if_reads to c block (else_of other)) within in
          let both : NamesWithin (read_in block ++ read_in (branch (else_of other))) names = within_right (read_in_expr c) _ names all in
          let others : NamesWithin (read_in other) names = same_within _ _ names (ap read_in (branch_is other)) (within_right (read_in block) _ names both) in
          branches names names names at to c old block more (else_of other) (within_left _ _ names all) (h.same names has (within_left _ _ names both))
          (subst (λ o. SameLive names (branch more) o names names) (sym (branch_is other)) (k.same names has others));
    }

pub lives_nothing : LiveEither → (t : Text → Option (Unit {0})) (at : Place) (c : CExpr) (old : List CStmt) (more : Option (List CStmt)) →
    (told c).total ≡ true → LivesAs t old [] → LivesAs t (branch more) [] → LivesAs t (if_stmt at c old more ∷ []) []
lives_nothing either t at c old more total h k =
    record {
      same = λ names has within. either names names names at c old [] more total (h.same names has within) (k.same names has within);
    }

pub lives_loop : LiveLoop → (t : Text → Option (Unit {0})) (at to : Place) (turn turned : Text) (c : CExpr) (old body : List CStmt) → LivesAs t old body →
    LivesAs t (loop_stmt at turn c old ∷ []) (loop_stmt to turned c body ∷ [])
lives_loop turns t at to turn turned c old body h =
    record {
      same = λ names has within.
          let all : NamesWithin (read_in_expr c ++ read_in body) names =
          same_within _ _ names (reads_one (loop_stmt to turned c body) ∙ loop_reads to turned c body) within in
          turns names names names at to turn turned c old body (within_left _ _ names all) (within_itself names)
          (h.same names has (within_right (read_in_expr c) _ names all));
    }

-- where all names are there that a new body reads
pub lives_aside : (t : Text → Option (Unit {0})) (names : List Text) (body new : List CStmt) → HasNames t names → HasAll t (read_in new) → LivesAs t body new →
    SameAside body new
lives_aside t names body new has all h = record { names = names; same = h.same names has (λ name there. has name ∙ all name there) }

-- a body that stays as it is
same_itself : LiveEmpty → LiveBlocks → LiveItself → (names : List Text) (block : List CStmt) → NamesWithin (read_in block) names →
    SameLive names block block names names
same_itself empty blocks itself names [] within = empty names names
same_itself empty blocks itself names (s ∷ block) within =
    blocks names names names names (s ∷ []) (s ∷ []) block block
    (itself names names names s (within_left (read_by s) (read_in block) names within) (within_itself names) (within_itself names))
    (same_itself empty blocks itself names block (within_right (read_by s) (read_in block) names within))

pub aside_itself : LiveEmpty → LiveBlocks → LiveItself → (block copy : List CStmt) → copy ≡ block → SameAside block copy
aside_itself empty blocks itself block copy is =
    subst (SameAside block) (sym is)
    (record { names = read_in block; same = same_itself empty blocks itself (read_in block) block (within_itself (read_in block)) })

-- one more statement of a block
pub lives_next : LiveBlocks → (t : Text → Option (Unit {0})) (block : List CStmt) (k : ℕ) (s : CStmt) (new more : List CStmt) (kept : Option CStmt) →
    k < length block → s ≡ get_or block k s → LivesAs t (take k block) new → LivesAs t (s ∷ []) (if_there kept) → more ≡ new ++ if_there kept →
    LivesAs t (take (k + 1) block) more
lives_next blocks t block k s new more kept small is so_far here added =
    let split : take (k + 1) block ≡ take k block ++ s ∷ [] = take_more block k s small ∙ ap (λ x. take k block ++ x ∷ []) (sym is) in
    subst (λ b. LivesAs t b more) (sym split)
    (subst (LivesAs t (take k block ++ s ∷ [])) (sym added) (lives_append blocks t (take k block) new (s ∷ []) (if_there kept) so_far here))
