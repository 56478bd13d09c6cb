-- Blocks that do the same but for locals that nothing reads any more.
use Rattle.std.proofs.Common.{◌≡◌, ℕ, ◌+◌, pos, Bool, true, false, ◌==◌, ◌&&◌, ◌||◌, List, [], ◌∷◌, ◌++◌, Option, Some, None}
use Rattle.std.proofs.Common.{refl, ap, sym, subst, ◌∙◌, arith}
use Rattle.std.proofs.lemmas.Grind.{common_steps}
use Rattle.std.specs.Prelude.{bytes_eq, unwrap_or, if◌then◌else◌}
use Rattle.bl_tree.specs.Numbers.{is_one}
use Rattle.bl_tree.specs.declared.text.Text.{Text}
use Rattle.bl_tree.specs.declared.c.CParam.{CParam}
use Rattle.bl_tree.specs.declared.c.CStmt.{CStmt, fold-roll-CStmt}
use Rattle.bl_tree.specs.declared.c.CStmtKind.{fold-roll-CStmtKind}
use Rattle.bl_ctext_semantics.specs.Course.{Outcome, going, turn_limit, turn_or_none}
use Rattle.bl_ctext_semantics.specs.Meaning.{CStmtMeaning, Scope, block_c, executed, given, location_c, named_location, next, once_more}
use Rattle.bl_ctext_semantics.specs.Meaning.{pointers_of, runs_c, value_c, with_params}
use Rattle.bl_ctext_semantics.specs.Memory.{CValue, Location, Memory, Root, input_object, output_object, same_root, scalar_number, set_at}
use Rattle.bl_ctext_semantics.specs.Memory.{state_object, variable, with_part, without_frame, zeros}
use Rattle.bl_ctext_semantics.specs.Tables.{Table, table_of}
use Rattle.bl_ctext_semantics.proofs.Induction.{Optional}
use Rattle.bl_simplify_laws.specs.declared.facts.CSpot.{CSpot}
use Rattle.bl_simplify_laws.specs.Frames.{SameAt}
use Rattle.bl_simplify_laws.specs.Known.{HasValue, place_is}
use Rattle.bl_simplify_laws.specs.Live.{LiveBlocks, LiveCleared, LiveDead, LiveEither, LiveEmpty, LiveFunction, LiveIf, LiveItself, LiveLoop, LiveSet}
use Rattle.bl_simplify_laws.specs.Live.{LiveWeaker, SameSeenAt, NamesWithin, clear_stmt, live_at, read_by, read_in_expr, read_in_place, whole_name}
use Rattle.bl_simplify_laws.specs.Live.{whole_variable}
use Rattle.bl_simplify_laws.specs.Observed.{PointBelow, RootBelow, Observed, broke, gave, returned, observed, trapped, went_on}
use Rattle.bl_simplify_laws.specs.Splits.{branch, if_stmt}
use Rattle.bl_simplify_laws.specs.Spots.{spot_location, spot_of_place}
use Rattle.bl_simplify_laws.specs.Steps.{set_stmt}
use Rattle.bl_simplify_laws.specs.Tables.{has_name}
use Rattle.bl_simplify_laws.specs.Written.{loop_stmt}
use Rattle.bl_simplify_laws.proofs.OnKnown.{place-sound, told-holds}
use Rattle.bl_simplify_laws.proofs.OnMemories.{ended-at, expr-at, following-at, loop-at, seen-moved, set-keeps, set-stmt-at, stmt-at}
use Rattle.bl_simplify_laws.proofs.OnSplits.{alone, block-append, if-is}
use Rattle.bl_simplify_laws.proofs.OnSpots.{InSpot, depth-itself, place-in-spot, same-name, some-of}
use Rattle.bl_simplify_laws.proofs.OnTables.{leaving, left-seen, point-below}
use Rattle.bl_simplify_laws.proofs.OnWritten.{loop-is}

-- ---- what counts

-- each root that counts for one counts for the other
abbrev Less : (Root → Bool) → (Root → Bool) → Type 0
Less few many = (root : Root) → few root ≡ true → many root ≡ true

live-less : (depth : ℕ) (names others : List Text) → NamesWithin names others → Less (live_at depth names) (live_at depth others)
live-less depth names others within state_object h = refl
live-less depth names others within input_object h = refl
live-less depth names others within output_object h = refl
live-less depth names others within (variable d name) h = by (depth == d) h
  where
    by : (b : Bool) → (if b then has_name names name else true) ≡ true → (if b then has_name others name else true) ≡ true
    by true h = within name h
    by false h = refl

same-less : (few many : Root → Bool) (m n : Memory) → Less few many → SameAt many m n → SameAt few m n
same-less few many m n less same root is = same root (less root is)

seen-less : (after breaking gone fewer broken left : Root → Bool) (s t : Observed Memory) → Less fewer after → Less broken breaking → Less left gone →
    SameSeenAt after breaking gone s t → SameSeenAt fewer broken left s t
seen-less after breaking gone fewer broken left trapped trapped a b g h = tt
seen-less after breaking gone fewer broken left (went_on m) (went_on n) a b g h = same-less fewer after m n a h
seen-less after breaking gone fewer broken left (broke m) (broke n) a b g h = same-less broken breaking m n b h
seen-less after breaking gone fewer broken left (returned r m) (returned q n) a b g h = (h.0, same-less left gone m n g h.1)
seen-less after breaking gone fewer broken left trapped (went_on n) a b g h = absurd h
seen-less after breaking gone fewer broken left trapped (broke n) a b g h = absurd h
seen-less after breaking gone fewer broken left trapped (returned q n) a b g h = absurd h
seen-less after breaking gone fewer broken left (went_on m) trapped a b g h = absurd h
seen-less after breaking gone fewer broken left (went_on m) (broke n) a b g h = absurd h
seen-less after breaking gone fewer broken left (went_on m) (returned q n) a b g h = absurd h
seen-less after breaking gone fewer broken left (broke m) trapped a b g h = absurd h
seen-less after breaking gone fewer broken left (broke m) (went_on n) a b g h = absurd h
seen-less after breaking gone fewer broken left (broke m) (returned q n) a b g h = absurd h
seen-less after breaking gone fewer broken left (returned r m) trapped a b g h = absurd h
seen-less after breaking gone fewer broken left (returned r m) (went_on n) a b g h = absurd h
seen-less after breaking gone fewer broken left (returned r m) (broke n) a b g h = absurd h

none-within : (names : List Text) → NamesWithin [] names
none-within names name h = cc

all-within : (names : List Text) → NamesWithin names names
all-within names name h = h

-- roots that are there before a function count in it
below-lives : (depth : ℕ) (live : List Text) (root : Root) → RootBelow depth root → live_at depth live root ≡ true
below-lives depth live state_object h = refl
below-lives depth live input_object h = refl
below-lives depth live output_object h = refl
below-lives depth live (variable d name) h = by (depth == d) refl
  where
    by : (b : Bool) → (depth == d) ≡ b → (if b then has_name live name else true) ≡ true
    by true e = let same : depth ≡ d = grind (arith, common_steps) in let no : ⊥ = omega arith in absurd no
    by false e = refl

own-lives : (depth : ℕ) (live : List Text) (name : Text) → has_name live name ≡ true → live_at depth live (variable depth name) ≡ true
own-lives depth live name h = ap (λ b. if b then has_name live name else true) (depth-itself depth) ∙ h

-- all that live names lead to counts
names-live : (scope : Scope) → PointBelow scope.depth scope.pointers → (names live : List Text) → NamesWithin names live → (name : Text) →
    has_name names name ≡ true →
    (through : Bool) → live_at scope.depth live (named_location scope through name).root ≡ true
names-live scope below names live within name is false = own-lives scope.depth live name (within name is)
names-live scope below names live within name is true = by (scope.pointers name) refl
  where
    by : (o : Option Location) → scope.pointers name ≡ o →
        live_at scope.depth live (unwrap_or o (record { root = variable scope.depth name; parts = [] })).root ≡ true
    by None e = own-lives scope.depth live name (within name is)
    by (Some l) e = below-lives scope.depth live l.root (below name l e)

-- ---- blocks

pub live-empty : LiveEmpty
live-empty live breaking = record { same = λ scope depends below m n same. same }

pub live-blocks : LiveBlocks
live-blocks before middle after breaking a b c d first second = record {
  same = λ scope depends below m n same.
      seen-moved (live_at scope.depth after) (live_at scope.depth breaking) (live_at scope.depth []) _ _ _ _ (block-append scope a c m)
      (block-append scope b d n)
      (following-at (live_at scope.depth middle) (live_at scope.depth after) (live_at scope.depth breaking) (live_at scope.depth []) (block_c a scope m)
      (block_c b scope n) (block_c c scope) (block_c d scope) (first.same scope depends below m n same) (second.same scope depends below));
}

pub live-weaker : LiveWeaker
live-weaker before more after fewer breaking broken one other within few stopped same = record {
  same = λ scope depends below m n alike.
      seen-less (live_at scope.depth after) (live_at scope.depth breaking) (live_at scope.depth []) (live_at scope.depth fewer) (live_at scope.depth broken)
      (live_at scope.depth []) (observed (block_c one scope m)) (observed (block_c other scope n)) (live-less scope.depth fewer after few)
      (live-less scope.depth broken breaking stopped) (live-less scope.depth [] [] (all-within []))
      (same.same scope depends below m n
      (same-less (live_at scope.depth before) (live_at scope.depth more) m n (live-less scope.depth before more within) alike));
}

-- ---- statements

-- one statement for another
one-stmt : (after breaking gone : Root → Bool) (scope : Scope) (s t : CStmt) (m n : Memory) →
    SameSeenAt after breaking gone (observed (runs_c s scope m)) (observed (runs_c t scope n)) →
    SameSeenAt after breaking gone (observed (block_c (s ∷ []) scope m)) (observed (block_c (t ∷ []) scope n))
one-stmt after breaking gone scope s t m n h = seen-moved after breaking gone _ _ _ _ (alone scope s m) (alone scope t n) h

pub live-itself : LiveItself
live-itself before after breaking s reads later broken = record {
  same = λ scope depends below m n same.
      let counts : Root → Bool = live_at scope.depth before in
      one-stmt (live_at scope.depth after) (live_at scope.depth breaking) (live_at scope.depth []) scope s s m n
      (seen-less counts counts counts (live_at scope.depth after) (live_at scope.depth breaking) (live_at scope.depth []) (observed (runs_c s scope m))
      (observed (runs_c s scope n)) (live-less scope.depth after before later) (live-less scope.depth breaking before broken)
      (live-less scope.depth [] before (none-within before))
      (stmt-at counts scope depends s (names-live scope below (read_by s) before reads) m n same));
}

-- ---- assignments

-- a variable that is set whole is the same from both memories
set-variable : (depth : ℕ) (name : Text) (before after : List Text) (m n : Memory) (v : CValue) → NamesWithin after (name ∷ before) →
    SameAt (live_at depth before) m n →
    SameAt (live_at depth after) (set_at m (record { root = variable depth name; parts = [] }) v)
    (set_at n (record { root = variable depth name; parts = [] }) v)
set-variable depth name before after m n v within same root is = by (same_root (variable depth name) root) refl
  where
    lives : (root : Root) → same_root (variable depth name) root ≡ false → live_at depth after root ≡ true → live_at depth before root ≡ true
    lives state_object other is = refl
    lives input_object other is = refl
    lives output_object other is = refl
    lives (variable d asked) other is = at (depth == d) other is
      where
        or-right : (b c : Bool) → (b || c) ≡ true → b ≡ false → c ≡ true
        or-right true c h e = cc
        or-right false c h e = h

        at : (b : Bool) → (b && bytes_eq name asked) ≡ false → (if b then has_name after asked else true) ≡ true →
            (if b then has_name before asked else true) ≡ true
        at true other is = or-right (bytes_eq name asked) (has_name before asked) (within asked is) other
        at false other is = refl

    by : (b : Bool) → same_root (variable depth name) root ≡ b → (if b then with_part (m root) [] v else m root) ≡
        (if b then with_part (n root) [] v else n root)
    by true e = refl
    by false e = same root (lives root e is)

pub live-set : LiveSet
live-set before after breaking at place e reads later = record {
  same = λ scope depends below m n same.
      let counts : Root → Bool = live_at scope.depth before in
      one-stmt (live_at scope.depth after) (live_at scope.depth breaking) (live_at scope.depth []) scope (set_stmt at place e) (set_stmt at place e) m n
      (set-stmt-at counts scope depends at place e (live_at scope.depth after) (live_at scope.depth breaking) (live_at scope.depth [])
      (names-live scope below ((read_in_place place).inside ++ read_in_expr e) before reads) m n same
      (λ l v is. keeps scope m n same l v is (place_is place).spot refl later));
}
  where
    keeps : (scope : Scope) (m n : Memory) → SameAt (live_at scope.depth before) m n → (l : Location) (v : CValue) →
        (location_c place scope m).answer ≡ Some l → (o : Option CSpot) → (place_is place).spot ≡ o → NamesWithin after (whole_name o ++ before) →
        SameAt (live_at scope.depth after) (set_at m l v) (set_at n l v)
    keeps scope m n same l v leads None is within =
        same-less (live_at scope.depth after) (live_at scope.depth before) (set_at m l v) (set_at n l v) (live-less scope.depth after before within)
        (set-keeps (live_at scope.depth before) m n l v same)
    keeps scope m n same l v leads (Some spot) is within = by spot.through spot.first refl refl within
      where
        same_place : (through : Bool) (first : Option Text) → spot.through ≡ through → spot.first ≡ first →
            (location_c place scope m).answer ≡ Some (spot_location scope (record { through = through; name = spot.name; first = first }))
        same_place through first t f =
            (place-sound scope m place).1 spot is
            ∙ (λ i. Some (spot_location scope (record { through = t i; name = spot.name; first = f i })))

        less : NamesWithin after before → SameAt (live_at scope.depth after) (set_at m l v) (set_at n l v)
        less within =
            same-less (live_at scope.depth after) (live_at scope.depth before) (set_at m l v) (set_at n l v) (live-less scope.depth after before within)
            (set-keeps (live_at scope.depth before) m n l v same)

        by : (through : Bool) (first : Option Text) → spot.through ≡ through → spot.first ≡ first →
            NamesWithin after (whole_variable through spot.name first ++ before) →
            SameAt (live_at scope.depth after) (set_at m l v) (set_at n l v)
        by false None t f within =
            subst (λ x. SameAt (live_at scope.depth after) (set_at m x v) (set_at n x v))
            (some-of (record { root = variable scope.depth spot.name; parts = [] }) l (sym (same_place false None t f) ∙ leads))
            (set-variable scope.depth spot.name before after m n v within same)
        by false (Some member) t f within = less within
        by true first t f within = less within

-- ---- assignments to what isn't live

-- nothing that counts is in a local that isn't live
dead-apart : (scope : Scope) (live : List Text) (spot : CSpot) (l : Location) → spot.through ≡ false → has_name live spot.name ≡ false → InSpot scope spot l →
    (root : Root) → live_at scope.depth live root ≡ true → same_root l.root root ≡ false
dead-apart scope live spot l local dead inside root lives = ap (λ x. same_root x root) is ∙ by root lives
  where
    is : l.root ≡ variable scope.depth spot.name
    is = ap (λ (x : Location). x.root) inside.is ∙ ap (λ through. (named_location scope through spot.name).root) local

    by : (root : Root) → live_at scope.depth live root ≡ true → same_root (variable scope.depth spot.name) root ≡ false
    by state_object lives = refl
    by input_object lives = refl
    by output_object lives = refl
    by (variable d name) lives = at (scope.depth == d) lives
      where
        named : (b : Bool) → bytes_eq spot.name name ≡ b → has_name live name ≡ true → b ≡ false
        named true e has = sym (ap (has_name live) (same-name spot.name name e) ∙ has) ∙ dead
        named false e has = refl

        at : (b : Bool) → (if b then has_name live name else true) ≡ true → (b && bytes_eq spot.name name) ≡ false
        at true has = named (bytes_eq spot.name name) refl has
        at false has = refl

-- a local that isn't live may be set
set-dead : (scope : Scope) (live : List Text) (spot : CSpot) (l : Location) (v : CValue) (m n : Memory) → spot.through ≡ false →
    has_name live spot.name ≡ false → InSpot scope spot l → SameAt (live_at scope.depth live) m n → SameAt (live_at scope.depth live) (set_at m l v) n
set-dead scope live spot l v m n local dead inside same root lives =
    ap (λ b. if b then with_part (m root) l.parts v else m root) (dead-apart scope live spot l local dead inside root lives) ∙ same root lives

-- a statement that goes on for nothing
for-nothing : (after breaking gone : Root → Bool) (scope : Scope) (s : CStmt) (m n : Memory) →
    SameSeenAt after breaking gone (observed (runs_c s scope m)) (went_on n) →
    SameSeenAt after breaking gone (observed (block_c (s ∷ []) scope m)) (observed (block_c [] scope n))
for-nothing after breaking gone scope s m n h = subst (λ x. SameSeenAt after breaking gone x (went_on n)) (sym (alone scope s m)) h

pub live-dead : LiveDead
live-dead live breaking at place e local dead steady total = record {
  same = λ scope depends below m n same.
      for-nothing (live_at scope.depth live) (live_at scope.depth breaking) (live_at scope.depth []) scope (set_stmt at place e) m n
      (rw (fold-roll-CStmt, fold-roll-CStmtKind)
      (by scope m n same (location_c place scope m).count (value_c e scope m).count (location_c place scope m).answer (value_c e scope m).answer
      (place-in-spot scope place m) ((place-sound scope m place).0 steady) ((told-holds scope m e).0 total)));
}
  where
    by : (scope : Scope) (m n : Memory) → SameAt (live_at scope.depth live) m n → (j k : ℕ) (o : Option Location) (p : Option CValue) →
        Optional (InSpot scope (spot_of_place place)) o → HasValue o → HasValue p →
        SameSeenAt (live_at scope.depth live) (live_at scope.depth breaking) (live_at scope.depth [])
        (observed (executed m (next (record { count = j; answer = o }) (λ l. next (record { count = k; answer = p }) (λ v. given (Some (set_at m l v)))))
        going))
        (went_on n)
    by scope m n same j k (Some l) (Some v) inside has also = set-dead scope live (spot_of_place place) l v m n local dead inside same
    by scope m n same j k (Some l) None inside has also = absurd also
    by scope m n same j k None p inside has also = absurd has

pub live-cleared : LiveCleared
live-cleared live breaking at place struct local dead steady = record {
  same = λ scope depends below m n same.
      for-nothing (live_at scope.depth live) (live_at scope.depth breaking) (live_at scope.depth []) scope (clear_stmt at place struct) m n
      (rw (fold-roll-CStmt, fold-roll-CStmtKind)
      (by scope m n same (location_c place scope m).count (location_c place scope m).answer (place-in-spot scope place m)
      ((place-sound scope m place).0 steady)));
}
  where
    by : (scope : Scope) (m n : Memory) → SameAt (live_at scope.depth live) m n → (j : ℕ) (o : Option Location) →
        Optional (InSpot scope (spot_of_place place)) o → HasValue o →
        SameSeenAt (live_at scope.depth live) (live_at scope.depth breaking) (live_at scope.depth [])
        (observed (executed m (record { count = j; answer = o }) (λ l. going (set_at m l zeros)))) (went_on n)
    by scope m n same j (Some l) inside has = set-dead scope live (spot_of_place place) l zeros m n local dead inside same
    by scope m n same j None inside has = absurd has

-- ---- branches

-- what is chosen by a value
abbrev chosen : Scope → Memory → CStmtMeaning → CStmtMeaning → CValue → Outcome Memory
chosen scope memory f g v = (if is_one (scalar_number v) then f else g) scope memory

module _ (after breaking gone : Root → Bool) (scope : Scope) (m n : Memory) where
  both-at : (b : Bool) (f g h i : CStmtMeaning) → SameSeenAt after breaking gone (observed (f scope m)) (observed (g scope n)) →
      SameSeenAt after breaking gone (observed (h scope m)) (observed (i scope n)) →
      SameSeenAt after breaking gone (observed ((if b then f else h) scope m)) (observed ((if b then g else i) scope n))
  both-at true f g h i p q = p
  both-at false f g h i p q = q

  either-at : (b : Bool) (f h : CStmtMeaning) (t : Observed Memory) → SameSeenAt after breaking gone (observed (f scope m)) t →
      SameSeenAt after breaking gone (observed (h scope m)) t → SameSeenAt after breaking gone (observed ((if b then f else h) scope m)) t
  either-at true f h t p q = p
  either-at false f h t p q = q

pub live-if : LiveIf
live-if before after breaking at to condition block new other others reads taken left = record {
  same = λ scope depends below m n same.
      let a : Root → Bool = live_at scope.depth after in
      let b : Root → Bool = live_at scope.depth breaking in
      let g : Root → Bool = live_at scope.depth [] in
      one-stmt a b g scope (if_stmt at condition block other) (if_stmt to condition new others) m n
      (seen-moved a b g _ _ _ _ (ap observed (if-is at condition block other scope m)) (ap observed (if-is to condition new others scope n))
      (ended-at a b g m n (1 + (value_c condition scope m).count) (1 + (value_c condition scope n).count) (value_c condition scope m).answer
      (value_c condition scope n).answer (chosen scope m (block_c block) (block_c (branch other))) (chosen scope n (block_c new) (block_c (branch others)))
      (expr-at (live_at scope.depth before) scope depends condition (names-live scope below (read_in_expr condition) before reads) m n same)
      (λ v. both-at a b g scope m n (is_one (scalar_number v)) (block_c block) (block_c new) (block_c (branch other)) (block_c (branch others))
      (taken.same scope depends below m n same) (left.same scope depends below m n same))));
}

pub live-either : LiveEither
live-either before after breaking at condition block new other total taken left = record {
  same = λ scope depends below m n same.
      let a : Root → Bool = live_at scope.depth after in
      let b : Root → Bool = live_at scope.depth breaking in
      let g : Root → Bool = live_at scope.depth [] in
      subst (λ x. SameSeenAt a b g x (observed (block_c new scope n)))
      (sym (alone scope (if_stmt at condition block other) m ∙ ap observed (if-is at condition block other scope m)))
      (by scope m (value_c condition scope m).count (value_c condition scope m).answer ((told-holds scope m condition).0 total) (observed (block_c new scope n))
      (taken.same scope depends below m n same) (left.same scope depends below m n same));
}
  where
    by : (scope : Scope) (m : Memory) (j : ℕ) (o : Option CValue) → HasValue o → (t : Observed Memory) →
        SameSeenAt (live_at scope.depth after) (live_at scope.depth breaking) (live_at scope.depth []) (observed (block_c block scope m)) t →
        SameSeenAt (live_at scope.depth after) (live_at scope.depth breaking) (live_at scope.depth []) (observed (block_c (branch other) scope m)) t →
        SameSeenAt (live_at scope.depth after) (live_at scope.depth breaking) (live_at scope.depth [])
        (observed (executed m (record { count = j; answer = o }) (chosen scope m (block_c block) (block_c (branch other))))) t
    by scope m j None has t p q = absurd has
    by scope m j (Some v) has t p q =
        either-at (live_at scope.depth after) (live_at scope.depth breaking) (live_at scope.depth []) scope m m (is_one (scalar_number v)) (block_c block)
        (block_c (branch other)) t p q

-- ---- loops

pub live-loop : LiveLoop
live-loop turns after breaking at to turn turned condition body new reads later body_same = record {
  same = λ scope depends below m n same.
      let t : Root → Bool = live_at scope.depth turns in
      let a : Root → Bool = live_at scope.depth after in
      let b : Root → Bool = live_at scope.depth breaking in
      let g : Root → Bool = live_at scope.depth [] in
      one-stmt a b g scope (loop_stmt at turn condition body) (loop_stmt to turned condition new) m n
      (seen-moved a b g _ _ _ _ (ap observed (loop-is at turn condition body scope m)) (ap observed (loop-is to turned condition new scope n))
      (loop-at t a b g turn_limit (once_more (value_c condition) scope) (once_more (value_c condition) scope) (block_c body scope) (block_c new scope)
      (λ f h like k l also. ended-at a b g k l (value_c condition scope k).count (value_c condition scope l).count (value_c condition scope k).answer
      (value_c condition scope l).answer (λ v. turn_or_none (is_one (scalar_number v)) k f) (λ v. turn_or_none (is_one (scalar_number v)) l h)
      (expr-at t scope depends condition (names-live scope below (read_in_expr condition) turns reads) k l also)
      (λ v. once scope (is_one (scalar_number v)) f h k l (like k l also) also))
      (body_same.same scope depends below) m n same));
}
  where
    once : (scope : Scope) (c : Bool) (f h : Memory → Outcome Memory) (k l : Memory) →
        SameSeenAt (live_at scope.depth after) (live_at scope.depth breaking) (live_at scope.depth []) (observed (f k)) (observed (h l)) →
        SameAt (live_at scope.depth turns) k l →
        SameSeenAt (live_at scope.depth after) (live_at scope.depth breaking) (live_at scope.depth []) (observed (turn_or_none c k f))
        (observed (turn_or_none c l h))
    once scope true f h k l like also = like
    once scope false f h k l like also =
        same-less (live_at scope.depth after) (live_at scope.depth turns) k l (live-less scope.depth after turns later) also

-- ---- functions

-- all locals are gone at a function's end
frames-same : (depth : ℕ) (live : List Text) (m n : Memory) → SameAt (live_at depth live) m n → without_frame depth m ≡ without_frame depth n
frames-same depth live m n same = λ i root. each root i
  where
    each : (root : Root) → without_frame depth m root ≡ without_frame depth n root
    each state_object = same state_object refl
    each input_object = same input_object refl
    each output_object = same output_object refl
    each (variable d name) = by (depth == d) refl
      where
        by : (b : Bool) → (depth == d) ≡ b → (if b then zeros else m (variable d name)) ≡ (if b then zeros else n (variable d name))
        by true e = refl
        by false e = same (variable d name) (ap (λ b. if b then has_name live name else true) e)

leaves-alike : (depth : ℕ) (after breaking gone : List Text) (s t : Observed Memory) →
    SameSeenAt (live_at depth after) (live_at depth breaking) (live_at depth gone) s t → leaving depth s ≡ leaving depth t
leaves-alike depth after breaking gone trapped trapped h = refl
leaves-alike depth after breaking gone (went_on m) (went_on n) h = ap (gave (pos 0)) (frames-same depth after m n h)
leaves-alike depth after breaking gone (broke m) (broke n) h = ap (gave (pos 0)) (frames-same depth breaking m n h)
leaves-alike depth after breaking gone (returned r m) (returned q n) h = (λ i. gave (h.0 i) (frames-same depth gone m n h.1 i))
leaves-alike depth after breaking gone trapped (went_on n) h = absurd h
leaves-alike depth after breaking gone trapped (broke n) h = absurd h
leaves-alike depth after breaking gone trapped (returned q n) h = absurd h
leaves-alike depth after breaking gone (went_on m) trapped h = absurd h
leaves-alike depth after breaking gone (went_on m) (broke n) h = absurd h
leaves-alike depth after breaking gone (went_on m) (returned q n) h = absurd h
leaves-alike depth after breaking gone (broke m) trapped h = absurd h
leaves-alike depth after breaking gone (broke m) (went_on n) h = absurd h
leaves-alike depth after breaking gone (broke m) (returned q n) h = absurd h
leaves-alike depth after breaking gone (returned r m) trapped h = absurd h
leaves-alike depth after breaking gone (returned r m) (went_on n) h = absurd h
leaves-alike depth after breaking gone (returned r m) (broke n) h = absurd h

pub live-function : LiveFunction
live-function framed f g before after breaking params body_same = record {
  same = λ known keeps depth passed memory fine.
      let pointers : List CParam → Table Location = λ ps. table_of (pointers_of ps passed) in
      let scope : List CParam → Scope = λ ps. record { known = known; depth = depth; pointers = pointers ps } in
      let start : List CParam → Memory = λ ps. with_params depth ps passed (without_frame depth memory) in
      let o : Outcome Memory = block_c f.body (scope f.params) (start f.params) in
      let p : List CParam → Outcome Memory = λ ps. block_c g.body (scope ps) (start ps) in
      left-seen depth o.end o.memory
      ∙ leaves-alike depth after breaking [] (observed o) (observed (p f.params))
      (body_same.same (scope f.params) keeps.depends (point-below depth f.params passed fine.below) (start f.params) (start f.params) (λ root is. refl))
      ∙ ap (λ ps. leaving depth (observed (p ps))) params ∙ sym (left-seen depth (p g.params).end (p g.params).memory);
}
