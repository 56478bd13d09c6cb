-- Blocks and functions do the same over two tables that know the same where frames are as they have to be, and leave them so.
use Rattle.std.proofs.Common.{◌≡◌, ℕ, ◌+◌, ℤ, Bool, true, false, not, ◌&&◌, ◌||◌, List, [], ◌∷◌, ◌++◌, map, Option, Some, None}
use Rattle.std.proofs.Common.{refl, ap, sym, subst, ◌∙◌}
use Rattle.std.proofs.lemmas.List.Elements.{All-cons, All-head, All-nil, All-tail}
use Rattle.std.proofs.lemmas.List.Sums.{AllPass-from_list_all}
use Rattle.std.specs.List.{list_all, list_any}
use Rattle.std.specs.Prelude.{All, Contains, bytes_eq, is_some, unwrap_or, if◌then◌else◌}
use Rattle.bl_tree.specs.Numbers.{is_one}
use Rattle.bl_tree.specs.declared.text.Text.{Text}
use Rattle.bl_tree.specs.declared.place.Place.{Place}
use Rattle.bl_tree.specs.declared.c.CCall.{CCall}
use Rattle.bl_tree.specs.declared.c.CExpr.{CExpr}
use Rattle.bl_tree.specs.declared.c.CFunc.{CFunc}
use Rattle.bl_tree.specs.declared.c.CPlace.{CPlace}
use Rattle.bl_tree.specs.declared.c.CStmt.{CStmt, fold-roll-CStmt}
use Rattle.bl_tree.specs.declared.c.CStmtKind.{fold-roll-CStmtKind}
use Rattle.bl_tree.specs.declared.c.CStmtKind.TheOpen.{CStmtKind-F}
use Rattle.bl_tree.specs.declared.c.CStruct.{CStruct}
use Rattle.bl_ctext.specs.declared.builtin.Builtin.{Builtin}
use Rattle.bl_ctext_semantics.specs.Builtin.{builtin_of}
use Rattle.bl_ctext_semantics.specs.Course.{End, goes_on, breaks, returns, traps, Outcome, going, result_at, turn_limit, turn_or_none}
use Rattle.bl_ctext_semantics.specs.Meaning.{ArgumentValue, CStmtMeaning, Meaning, Scope, block_c, block_of, by_address, by_value, call_c, call_end}
use Rattle.bl_ctext_semantics.specs.Meaning.{called_after, called_as, further, function_c, given, location_c, named_location, next, once_more, pointers_of}
use Rattle.bl_ctext_semantics.specs.Meaning.{runs_c, value_c, with_params}
use Rattle.bl_ctext_semantics.specs.Memory.{CValue, Location, Memory, member, scalar_number, set_at, variable, without_frame, zeros}
use Rattle.bl_ctext_semantics.specs.Tables.{Table, table_of}
use Rattle.bl_ctext_semantics.proofs.Induction.{Optional, StmtCases, induct_stmt, stmt}
use Rattle.bl_simplify_laws.specs.declared.facts.CSpot.{CSpot}
use Rattle.bl_simplify_laws.specs.Frames.{Running, SpotApart, TableKeeps}
use Rattle.bl_simplify_laws.specs.Observed.{PointBelow, observed, seen_call}
use Rattle.bl_simplify_laws.specs.Spots.{OwnApart, lent_in, same_spot, spot_location, spot_of_place, spots_apart}
use Rattle.bl_simplify_laws.specs.Tables.{Fine, KnownAlike, TablesAlike, calls_stand_in, calls_stand_in_call, calls_stand_in_expr}
use Rattle.bl_simplify_laws.specs.Tables.{has_name, owns_first}
use Rattle.bl_simplify_laws.proofs.OnFrames.{calls-leave, set-leaves}
use Rattle.bl_simplify_laws.proofs.OnSpots.{InSpot, and-left, and-right, any, next-has, next-with, place-in-spot, same-name, spot-is, spot-lies}
use Rattle.bl_simplify_laws.proofs.OnSteps.{all-map, apart-spot, below-spot, set-value}
use Rattle.bl_simplify_laws.proofs.OnTables.{blocks-decided, call-seen, leaving, left-seen, of_call, own-apart, point-below}
use Rattle.bl_simplify_laws_frames.specs.Reached.{CallFrames, Frame, FrameHolds, FunctionsDecideIn, HoldsAt, KeepsFrames}
use Rattle.bl_simplify_laws_frames.specs.Reached.{KnownAlikeIn, LeavesReached, PartsHold, PartsHoldAfter, PassesFrame, TablesAlikeIn, TablesDecideIn, all_apart}
use Rattle.bl_simplify_laws_frames.specs.Reached.{at_location, covers, first_exact, frame_fits, frame_for, frame_spot, framed_names, is_called_with}
use Rattle.bl_simplify_laws_frames.specs.Reached.{is_plain_expr, is_spot, keeps_frames, plain_call, plain_place, whole_frame}
use Rattle.bl_simplify_laws_frames.proofs.OnEnds.{block-goes}
use Rattle.bl_simplify_laws_frames.proofs.OnFrames.{SameIn, TakesFrame, ZeroIn, all-at, any-at, end-keeps, frame-from, frame-part, frame-same}
use Rattle.bl_simplify_laws_frames.proofs.OnFrames.{frame-taken, frame-untold, frame-zero, further-none, holds-back, known-begins, no-parts, start-keeps}
use Rattle.bl_simplify_laws_frames.proofs.OnFrames.{untold-holds, zero-further}
use Rattle.bl_simplify_laws_frames.proofs.OnKept.{AlikeKept, EachKept, KeptAt, RunKept, ended-kept, loop-kept, order-kept}
use Rattle.bl_simplify_laws_frames.proofs.OnPlain.{CallParts, FirstAt, IsHere, call-parts, expr-exact, place-exact, place-here}

-- a spot that is told to be another
is-spot : (o : Option CSpot) (spot : CSpot) → is_spot o spot ≡ true → o ≡ Some spot
is-spot None spot h = cc
is-spot (Some one) spot h = ap Some (spot-is one spot h)

-- ---- tables

module _ (frames : List Frame) (one other : Table Meaning) (alike : TablesAlikeIn frames one other) where
  abbrev names : List Text
  names = framed_names frames

  -- the first table, with what the second one knows of functions that take a frame
  abbrev pub mixed : Table Meaning
  mixed name = if has_name names name then other name else one name

  pub mixed-same : (name : Text) → has_name names name ≡ false → one name ≡ mixed name
  mixed-same name h = sym (ap (λ b. if b then other name else one name) h)

  -- a call of a function that takes no frame
  pub untold-passes : (name : Text) (passed : List ArgumentValue) (m : Memory) → has_name names name ≡ false → PassesFrame frames name passed m
  untold-passes name [] m h = tt
  untold-passes name (by_value v ∷ rest) m h = tt
  untold-passes name (by_address l ∷ rest) m h = frame-untold frames name l m h

  known-itself : (name : Text) (o : Option Meaning) → KnownAlike names name o o
  known-itself name None = tt
  known-itself name (Some meaning) = λ depth passed m fine. refl

  known-plain : (name : Text) (a b : Option Meaning) → has_name names name ≡ false → KnownAlikeIn frames name a b → KnownAlike names name a b
  known-plain name None None e h = tt
  known-plain name (Some a) (Some b) e h = λ depth passed m fine. h.0 depth passed m fine (untold-passes name passed m e)
  known-plain name None (Some b) e h = absurd h
  known-plain name (Some a) None e h = absurd h

  pub mixed-alike : TablesAlike names mixed other
  mixed-alike name = by (has_name names name) refl
    where
      by : (b : Bool) → has_name names name ≡ b → KnownAlike names name (if b then other name else one name) (other name)
      by true e = known-itself name (other name)
      by false e = known-plain name (one name) (other name) e (alike name)

  known-one : (name : Text) (a b : Option Meaning) → KnownAlikeIn frames name a b → KnownAlikeIn frames name a a
  known-one name None None h = tt
  known-one name (Some a) (Some b) h = (λ depth passed m fine passes. refl, h.1)
  known-one name None (Some b) h = absurd h
  known-one name (Some a) None h = absurd h

  pub known-mixed : (name : Text) → KnownAlikeIn frames name (one name) (mixed name)
  known-mixed name = by (has_name names name)
    where
      by : (b : Bool) → KnownAlikeIn frames name (one name) (if b then other name else one name)
      by true = alike name
      by false = known-one name (one name) (other name) (alike name)

-- ---- statements

module _ (structs : List CStruct) (frames : List Frame) (fits : list_all (frame_fits structs frames) frames ≡ true) (one other : Table Meaning)
    (keeps : TableKeeps one) (alike : TablesAlikeIn frames one other) (frame : Frame) (depth : ℕ) (pointers : Table Location)
    (below : PointBelow depth pointers) (own : OwnApart pointers) where
  abbrev framed : List Text
  framed = framed_names frames

  abbrev between : Table Meaning
  between = mixed frames one other alike

  abbrev first : Scope
  first = record { known = one; depth = depth; pointers = pointers }

  abbrev second : Scope
  second = record { known = between; depth = depth; pointers = pointers }

  running : Running first
  running = record { keeps = keeps; below = below; apart = own }

  -- frames within the running function's own are as they have to be
  abbrev Parts : Memory → Type 0
  Parts m = PartsHold frames frame first m

  abbrev part_at : Text → Location
  part_at x = spot_location first (frame_spot frame x)

  -- ---- expressions

  exact_expr : (e : CExpr) → is_plain_expr framed e ≡ true → (m : Memory) → value_c e first m ≡ value_c e second m
  exact_expr e plain m = expr-exact framed one between (mixed-same frames one other alike) depth pointers below own e plain m

  exact_place : (p : CPlace) → (plain_place framed p).plain ≡ true → (m : Memory) → location_c p first m ≡ location_c p second m
  exact_place p plain m = place-exact framed one between (mixed-same frames one other alike) depth pointers below own p plain m

  -- ---- assignments

  -- the numbers of a part apart from a spot in which something is set
  set-same : (m : Memory) (spot : CSpot) (l : Location) (v : CValue) → InSpot first spot l → (x : Text) → spots_apart spot (frame_spot frame x) ≡ true →
      SameIn (part_at x) m (set_at m l v)
  set-same m spot l v inside x apart way =
      set-leaves m l v (part_at x).root ((part_at x).parts ++ way)
      (spot-lies first spot l (part_at x).root ((part_at x).parts ++ way) inside (apart-spot first running spot (frame_spot frame x) way apart))

  set-keeps : (m : Memory) (p : CPlace) (l : Location) (v : CValue) → InSpot first (spot_of_place p) l →
      list_all (λ (part : Text × Text). spots_apart (spot_of_place p) (frame_spot frame part.0)) frame.parts ≡ true → Parts m → Parts (set_at m l v)
  set-keeps m p l v inside all h x inner there =
      frame-same structs frames fits inner (part_at x) m (set_at m l v)
      (set-same m (spot_of_place p) l v inside x
      (all-at (λ (part : Text × Text). spots_apart (spot_of_place p) (frame_spot frame part.0)) frame.parts all (x, inner) there)) (h x inner there)

  -- what is 0 after something is cleared
  zero-set : (m : Memory) (l : Location) → ZeroIn l (set_at m l zeros)
  zero-set m l way = ap (λ (v : CValue). v way) (set-value m l zeros)

  abbrev Here : Option CSpot → Location → Type 0
  Here = IsHere framed one between (mixed-same frames one other alike) depth pointers below own

  covered-zero : (m : Memory) (l : Location) (o : Option CSpot) (x : Text) → covers frame o (frame_spot frame x) ≡ true → Here o l →
      ZeroIn (part_at x) (set_at m l zeros)
  covered-zero m l None x covered here = cc
  covered-zero m l (Some spot) x covered here = by (same_spot spot (frame_spot frame x)) refl covered
    where
      by : (b : Bool) → same_spot spot (frame_spot frame x) ≡ b → (b || same_spot spot (whole_frame frame)) ≡ true → ZeroIn (part_at x) (set_at m l zeros)
      by true e covered =
          subst (λ k. ZeroIn k (set_at m l zeros)) (here ∙ ap (spot_location first) (spot-is spot (frame_spot frame x) e)) (zero-set m l)
      by false e covered =
          let base : Location = named_location first true frame.pointer in
          zero-further base (set_at m l zeros) (member x ∷ [])
          (subst (λ k. ZeroIn k (set_at m l zeros))
          (here ∙ ap (spot_location first) (spot-is spot (whole_frame frame) covered) ∙ further-none base) (zero-set m l))

  abbrev left_by : CPlace → Text × Text → Bool
  left_by p part = spots_apart (spot_of_place p) (frame_spot frame part.0) || covers frame (plain_place framed p).exact (frame_spot frame part.0)

  clear-keeps : (m : Memory) (p : CPlace) (l : Location) → InSpot first (spot_of_place p) l → Here (plain_place framed p).exact l →
      list_all (left_by p) frame.parts ≡ true → Parts m → Parts (set_at m l zeros)
  clear-keeps m p l inside here all h x inner there =
      by (spots_apart (spot_of_place p) (frame_spot frame x)) refl (all-at (left_by p) frame.parts all (x, inner) there)
    where
      by : (b : Bool) → spots_apart (spot_of_place p) (frame_spot frame x) ≡ b →
          (b || covers frame (plain_place framed p).exact (frame_spot frame x)) ≡ true → FrameHolds frames inner (part_at x) (set_at m l zeros)
      by true e either =
          frame-same structs frames fits inner (part_at x) m (set_at m l zeros) (set-same m (spot_of_place p) l zeros inside x e) (h x inner there)
      by false e either =
          frame-zero structs frames fits inner (part_at x) (set_at m l zeros) (covered-zero m l (plain_place framed p).exact x either here)

  -- ---- calls

  abbrev asked : CCall → CallFrames
  asked c = plain_call framed c

  abbrev At : Option CSpot → List ArgumentValue → Type 0
  At = FirstAt framed one between (mixed-same frames one other alike) depth pointers below own

  first-passes : (name : Text) (spot : CSpot) (passed : List ArgumentValue) (m : Memory) → At (Some spot) passed →
      FrameHolds frames name (spot_location first spot) m → PassesFrame frames name passed m
  first-passes name spot [] m at h = absurd at
  first-passes name spot (by_value v ∷ rest) m at h = absurd at
  first-passes name spot (by_address l ∷ rest) m at h = subst (λ k. FrameHolds frames name k m) (sym at) h

  first-passed : (name : Text) (spot : CSpot) (passed : List ArgumentValue) (m : Memory) → At (Some spot) passed → PassesFrame frames name passed m →
      FrameHolds frames name (spot_location first spot) m
  first-passed name spot [] m at h = absurd at
  first-passed name spot (by_value v ∷ rest) m at h = absurd at
  first-passed name spot (by_address l ∷ rest) m at h = subst (λ k. FrameHolds frames name k m) at h

  called-with : (c : CCall) (x inner : Text) → is_called_with frame (asked c) (x, inner) ≡ true →
      (inner ≡ (asked c).name) × (first_exact (asked c).exact ≡ Some (frame_spot frame x))
  called-with c x inner h = (
    same-name inner (asked c).name (and-left (bytes_eq inner (asked c).name) (is_spot (first_exact (asked c).exact) (frame_spot frame x)) h),
    is-spot (first_exact (asked c).exact) (frame_spot frame x)
        (and-right (bytes_eq inner (asked c).name) (is_spot (first_exact (asked c).exact) (frame_spot frame x)) h),
  )

  -- a call passes a frame as it has to be
  call-passes : (c : CCall) → (not (has_name framed (asked c).name) || list_any (is_called_with frame (asked c)) frame.parts) ≡ true →
      (passed : List ArgumentValue) → At (first_exact (asked c).exact) passed → (m : Memory) → Parts m → PassesFrame frames (asked c).name passed m
  call-passes c either passed at m h = by (has_name framed (asked c).name) refl either
    where
      by : (b : Bool) → has_name framed (asked c).name ≡ b → (not b || list_any (is_called_with frame (asked c)) frame.parts) ≡ true →
          PassesFrame frames (asked c).name passed m
      by false e either = untold-passes frames one other alike (asked c).name passed m e
      by true e either =
          let part = any-at (is_called_with frame (asked c)) frame.parts either in
          let with_it = called-with c part.0.0 part.0.1 part.2 in
          first-passes (asked c).name (frame_spot frame part.0.0) passed m (subst (λ o. At o passed) with_it.1 at)
          (subst (λ n. FrameHolds frames n (part_at part.0.0) m) with_it.0 (h part.0.0 part.0.1 part.1))

  called-alike : (builtin : Option Builtin) (name : Text) (a b : Option Meaning) → KnownAlikeIn frames name a b → (passed : List ArgumentValue) →
      Fine framed name (depth + 1) passed → (m : Memory) → PassesFrame frames name passed m →
      (seen_call (called_as builtin a (depth + 1) passed m) ≡ seen_call (called_as builtin b (depth + 1) passed m))
      × (is_some (called_as builtin a (depth + 1) passed m).result ≡ true →
      PassesFrame frames name passed (called_as builtin a (depth + 1) passed m).memory)
  called-alike (Some builtin) name a b h passed fine m passes = (refl, λ some. passes)
  called-alike None name None None h passed fine m passes = (refl, λ some. passes)
  called-alike None name (Some a) (Some b) h passed fine m passes = (h.0 (depth + 1) passed m fine passes, h.1 (depth + 1) passed m fine passes)
  called-alike None name None (Some b) h passed fine m passes = absurd h
  called-alike None name (Some a) None h passed fine m passes = absurd h

  abbrev left_by_call : CCall → Text × Text → Bool
  left_by_call c part = is_called_with frame (asked c) part || all_apart (lent_in c) (frame_spot frame part.0)

  abbrev passes_right : CCall → Bool
  passes_right c = not (has_name framed (asked c).name) || list_any (is_called_with frame (asked c)) frame.parts

  -- a call of evaluated arguments
  after-alike : (c : CCall) → passes_right c ≡ true → (m : Memory) → Parts m → (o : Option (List ArgumentValue)) →
      Optional (Fine framed (asked c).name (depth + 1)) o → Optional (At (first_exact (asked c).exact)) o → (j k : ℕ) →
      (seen_call (called_after first m (asked c).name j o) ≡ seen_call (called_after second m (asked c).name k o))
      × (is_some (called_after first m (asked c).name j o).result ≡ true → (x inner : Text) → is_called_with frame (asked c) (x, inner) ≡ true →
      FrameHolds frames inner (part_at x) (called_after first m (asked c).name j o).memory)
  after-alike c right m h None fine at j k = (refl, λ some x inner with_it. cc)
  after-alike c right m h (Some passed) fine at j k =
      let both = called-alike (builtin_of (asked c).name) (asked c).name (one (asked c).name) (between (asked c).name)
      (known-mixed frames one other alike (asked c).name) passed fine m (call-passes c right passed at m h) in (
        both.0,
        λ some x inner it.
            let with_it = called-with c x inner it in
            subst (λ n. FrameHolds frames n (part_at x) (called_after first m (asked c).name j (Some passed)).memory) (sym with_it.0)
            (first-passed (asked c).name (frame_spot frame x) passed (called_after first m (asked c).name j (Some passed)).memory
            (subst (λ o. At o passed) with_it.1 at) (both.1 some)),
      )

  call-alike : (c : CCall) → calls_stand_in_call framed c ≡ true → (asked c).plain ≡ true → passes_right c ≡ true →
      list_all (left_by_call c) frame.parts ≡ true → (m : Memory) → Parts m →
      (seen_call (call_c c first m) ≡ seen_call (call_c c second m)) × (is_some (call_c c first m).result ≡ true → Parts (call_c c first m).memory)
  call-alike c stands plain right all m h = (
    ap seen_call (parts.called first m)
        ∙ both.0
        ∙ ap (λ p. seen_call (called_after second m (asked c).name (parts.passed second m).count p.answer)) (parts.exact plain m)
        ∙ sym (ap seen_call (parts.called second m)),
    λ some x inner there. by x inner there some (is_called_with frame (asked c) (x, inner)) refl (all-at (left_by_call c) frame.parts all (x, inner) there),
  )
    where
      parts : CallParts framed one between (mixed-same frames one other alike) depth pointers below own c
      parts = call-parts framed one between (mixed-same frames one other alike) depth pointers below own c

      both : (seen_call (called_after first m (asked c).name (parts.passed first m).count (parts.passed first m).answer)
          ≡ seen_call (called_after second m (asked c).name (parts.passed second m).count (parts.passed first m).answer))
          × (is_some (called_after first m (asked c).name (parts.passed first m).count (parts.passed first m).answer).result ≡ true → (x inner : Text) →
          is_called_with frame (asked c) (x, inner) ≡ true →
          FrameHolds frames inner (part_at x) (called_after first m (asked c).name (parts.passed first m).count (parts.passed first m).answer).memory)
      both =
          after-alike c right m h (parts.passed first m).answer (parts.fine stands m) (parts.at_first m) (parts.passed first m).count
          (parts.passed second m).count

      by : (x inner : Text) → Contains frame.parts (x, inner) → is_some (call_c c first m).result ≡ true → (b : Bool) →
          is_called_with frame (asked c) (x, inner) ≡ b → (b || all_apart (lent_in c) (frame_spot frame x)) ≡ true →
          FrameHolds frames inner (part_at x) (call_c c first m).memory
      by x inner there some true e either =
          subst (λ r. is_some r.result ≡ true → FrameHolds frames inner (part_at x) r.memory) (sym (parts.called first m))
          (λ some. both.1 some x inner e) some
      by x inner there some false e either =
          frame-same structs frames fits inner (part_at x) m (call_c c first m).memory
          (λ way. calls-leave first keeps.leaves (part_at x).root ((part_at x).parts ++ way) (below-spot first below (frame_spot frame x)) c
          (all-map (λ s. spots_apart s (frame_spot frame x) ≡ true) (SpotApart first (part_at x).root ((part_at x).parts ++ way))
          (λ gone apart. apart-spot first running gone (frame_spot frame x) way apart) (lent_in c)
          (AllPass-from_list_all (λ s. spots_apart s (frame_spot frame x)) (lent_in c) either)) m) (h x inner there)

  -- ---- statements

  abbrev OfStmt : CStmt → Type 0
  OfStmt s = calls_stand_in framed s ≡ true → keeps_frames frames frame s ≡ true → RunKept Parts (runs_c s first) (runs_c s second)

  each-stmt : (stmts : List CStmt) → All OfStmt stmts → list_all (λ b. b) (map (calls_stand_in framed) stmts) ≡ true →
      list_all (λ b. b) (map (keeps_frames frames frame) stmts) ≡ true →
      EachKept Parts (map (λ (run : CStmtMeaning). run first) (map runs_c stmts)) (map (λ (run : CStmtMeaning). run second) (map runs_c stmts))
  each-stmt [] h stands kept = tt
  each-stmt (s ∷ stmts) h stands kept = (
    All-head OfStmt s stmts h (and-left (calls_stand_in framed s) (list_all (λ b. b) (map (calls_stand_in framed) stmts)) stands)
        (and-left (keeps_frames frames frame s) (list_all (λ b. b) (map (keeps_frames frames frame) stmts)) kept),
    each-stmt stmts (All-tail OfStmt s stmts h) (and-right (calls_stand_in framed s) (list_all (λ b. b) (map (calls_stand_in framed) stmts)) stands)
        (and-right (keeps_frames frames frame s) (list_all (λ b. b) (map (keeps_frames frames frame) stmts)) kept),
  )

  block-kept : (stmts : List CStmt) → All OfStmt stmts → list_all (λ b. b) (map (calls_stand_in framed) stmts) ≡ true →
      list_all (λ b. b) (map (keeps_frames frames frame) stmts) ≡ true →
      RunKept Parts (block_of (map runs_c stmts) first) (block_of (map runs_c stmts) second)
  block-kept stmts h stands kept = order-kept Parts _ _ (each-stmt stmts h stands kept)

  chosen-kept : (b : Bool) (f g : CStmtMeaning) → RunKept Parts (f first) (f second) → RunKept Parts (g first) (g second) →
      RunKept Parts ((if b then f else g) first) ((if b then f else g) second)
  chosen-kept true f g h k = h
  chosen-kept false f g h k = k

  turn-or-none-kept : (b : Bool) (m : Memory) (f g : Memory → Outcome Memory) → RunKept Parts f g → Parts m →
      AlikeKept Parts (turn_or_none b m f) (turn_or_none b m g)
  turn-or-none-kept true m f g h holds = h m holds
  turn-or-none-kept false m f g h holds = (refl, holds)

  set-kept : (at : Place) (p : CPlace) (e : CExpr) → OfStmt (stmt at (CStmtKind-F.Set p e))
  set-kept at p e stands kept m h =
      let all : Bool = list_all (λ (part : Text × Text). spots_apart (spot_of_place p) (frame_spot frame part.0)) frame.parts in
      let mine : ((plain_place framed p).plain && (is_plain_expr framed e && all)) ≡ true = rw (fold-roll-CStmt, fold-roll-CStmtKind) at kept in
      let rest : (is_plain_expr framed e && all) ≡ true = and-right (plain_place framed p).plain (is_plain_expr framed e && all) mine in
      rw (fold-roll-CStmt, fold-roll-CStmtKind)
      (ended-kept Parts m _ _ _ _ going going
      (λ i. (next (exact_place p (and-left (plain_place framed p).plain (is_plain_expr framed e && all) mine) m i)
      (λ l. next (exact_expr e (and-left (is_plain_expr framed e) all rest) m i) (λ v. given (Some (set_at m l v))))).answer)
      (next-with (InSpot first (spot_of_place p)) (λ n. AlikeKept Parts (going n) (going n)) (location_c p first m) _ (place-in-spot first p m)
      (λ l inside. next-has (λ n. AlikeKept Parts (going n) (going n)) (value_c e first m) _
      (λ v. (refl, set-keeps m p l v inside (and-right (is_plain_expr framed e) all rest) h)))))

  clear-kept : (at : Place) (p : CPlace) (name : Text) → OfStmt (stmt at (CStmtKind-F.Clear p name))
  clear-kept at p name stands kept m h =
      let mine : ((plain_place framed p).plain && list_all (left_by p) frame.parts) ≡ true = rw (fold-roll-CStmt, fold-roll-CStmtKind) at kept in
      rw (fold-roll-CStmt, fold-roll-CStmtKind)
      (ended-kept Parts m _ _ (location_c p first m).answer (location_c p second m).answer _ _
      (ap (λ c. c.answer) (exact_place p (and-left (plain_place framed p).plain (list_all (left_by p) frame.parts) mine) m))
      (by (location_c p first m).answer (place-in-spot first p m)
      (place-here framed one between (mixed-same frames one other alike) depth pointers below own p m)
      (and-right (plain_place framed p).plain (list_all (left_by p) frame.parts) mine)))
    where
      by : (o : Option Location) → Optional (InSpot first (spot_of_place p)) o → Optional (Here (plain_place framed p).exact) o →
          list_all (left_by p) frame.parts ≡ true → Optional (λ l. AlikeKept Parts (going (set_at m l zeros)) (going (set_at m l zeros))) o
      by None inside here all = tt
      by (Some l) inside here all = (refl, clear-keeps m p l inside here all h)

  call-kept : (at : Place) (c : CCall) → OfStmt (stmt at (CStmtKind-F.Call c))
  call-kept at c stands kept m h =
      let own_stands : calls_stand_in_call framed c ≡ true = rw (fold-roll-CStmt, fold-roll-CStmtKind) at stands in
      let mine : ((asked c).plain && (passes_right c && list_all (left_by_call c) frame.parts)) ≡ true =
      rw (fold-roll-CStmt, fold-roll-CStmtKind) at kept in
      let rest : (passes_right c && list_all (left_by_call c) frame.parts) ≡ true =
      and-right (asked c).plain (passes_right c && list_all (left_by_call c) frame.parts) mine in
      let both : (seen_call (call_c c first m) ≡ seen_call (call_c c second m))
      × (is_some (call_c c first m).result ≡ true → Parts (call_c c first m).memory) =
      call-alike c own_stands (and-left (asked c).plain (passes_right c && list_all (left_by_call c) frame.parts) mine)
      (and-left (passes_right c) (list_all (left_by_call c) frame.parts) rest)
      (and-right (passes_right c) (list_all (left_by_call c) frame.parts) rest) m h in
      rw (fold-roll-CStmt, fold-roll-CStmtKind) (
        call-seen (call_c c first m).result (call_c c first m).memory ∙ ap of_call both.0
            ∙ sym (call-seen (call_c c second m).result (call_c c second m).memory),
        by (call_c c first m).result (call_c c first m).memory both.1,
      )
    where
      by : (o : Option ℤ) (n : Memory) → (is_some o ≡ true → Parts n) → KeptAt Parts (call_end o) n
      by None n h = tt
      by (Some r) n h = h refl

  if-kept : (at : Place) (e : CExpr) (block : List CStmt) (more : Option (List CStmt)) → All OfStmt block → Optional (All OfStmt) more →
      OfStmt (stmt at (CStmtKind-F.If e block more))
  if-kept at e block None h k stands kept m holds =
      let stand : Bool = list_all (λ b. b) (map (calls_stand_in framed) block) in
      let keep : Bool = list_all (λ b. b) (map (keeps_frames frames frame) block) in
      let all_stand : (calls_stand_in_expr framed e && (stand && true)) ≡ true = rw (fold-roll-CStmt, fold-roll-CStmtKind) at stands in
      let all_keep : (is_plain_expr framed e && (keep && true)) ≡ true = rw (fold-roll-CStmt, fold-roll-CStmtKind) at kept in
      rw (fold-roll-CStmt, fold-roll-CStmtKind)
      (ended-kept Parts m _ _ (value_c e first m).answer (value_c e second m).answer _ _
      (ap (λ c. c.answer) (exact_expr e (and-left (is_plain_expr framed e) (keep && true) all_keep) m))
      (any _ (λ v. chosen-kept (is_one (scalar_number v)) (block_of (map runs_c block)) (block_of [])
      (block-kept block h (and-left stand true (and-right (calls_stand_in_expr framed e) (stand && true) all_stand))
      (and-left keep true (and-right (is_plain_expr framed e) (keep && true) all_keep))) (λ n h. (refl, h)) m holds) (value_c e first m).answer))
  if-kept at e block (Some more) h k stands kept m holds =
      let stand : Bool = list_all (λ b. b) (map (calls_stand_in framed) block) in
      let keep : Bool = list_all (λ b. b) (map (keeps_frames frames frame) block) in
      let stand_more : Bool = list_all (λ b. b) (map (calls_stand_in framed) more) in
      let keep_more : Bool = list_all (λ b. b) (map (keeps_frames frames frame) more) in
      let all_stand : (calls_stand_in_expr framed e && (stand && stand_more)) ≡ true = rw (fold-roll-CStmt, fold-roll-CStmtKind) at stands in
      let all_keep : (is_plain_expr framed e && (keep && keep_more)) ≡ true = rw (fold-roll-CStmt, fold-roll-CStmtKind) at kept in
      let inner_stand : (stand && stand_more) ≡ true = and-right (calls_stand_in_expr framed e) (stand && stand_more) all_stand in
      let inner_keep : (keep && keep_more) ≡ true = and-right (is_plain_expr framed e) (keep && keep_more) all_keep in
      rw (fold-roll-CStmt, fold-roll-CStmtKind)
      (ended-kept Parts m _ _ (value_c e first m).answer (value_c e second m).answer _ _
      (ap (λ c. c.answer) (exact_expr e (and-left (is_plain_expr framed e) (keep && keep_more) all_keep) m))
      (any _ (λ v. chosen-kept (is_one (scalar_number v)) (block_of (map runs_c block)) (block_of (map runs_c more))
      (block-kept block h (and-left stand stand_more inner_stand) (and-left keep keep_more inner_keep))
      (block-kept more k (and-right stand stand_more inner_stand) (and-right keep keep_more inner_keep)) m holds) (value_c e first m).answer))

  loop-statement-kept : (at : Place) (turn : Text) (e : CExpr) (body : List CStmt) → All OfStmt body → OfStmt (stmt at (CStmtKind-F.Loop turn e body))
  loop-statement-kept at turn e body h stands kept m holds =
      let stand : Bool = list_all (λ b. b) (map (calls_stand_in framed) body) in
      let keep : Bool = list_all (λ b. b) (map (keeps_frames frames frame) body) in
      let all_stand : (calls_stand_in_expr framed e && stand) ≡ true = rw (fold-roll-CStmt, fold-roll-CStmtKind) at stands in
      let all_keep : (is_plain_expr framed e && keep) ≡ true = rw (fold-roll-CStmt, fold-roll-CStmtKind) at kept in
      rw (fold-roll-CStmt, fold-roll-CStmtKind)
      (loop-kept Parts turn_limit (once_more (value_c e) first) (once_more (value_c e) second) (block_of (map runs_c body) first)
      (block_of (map runs_c body) second)
      (λ f g like n holds. ended-kept Parts n _ _ (value_c e first n).answer (value_c e second n).answer _ _
      (ap (λ c. c.answer) (exact_expr e (and-left (is_plain_expr framed e) keep all_keep) n))
      (any _ (λ v. turn-or-none-kept (is_one (scalar_number v)) n f g like holds) (value_c e first n).answer))
      (block-kept body h (and-right (calls_stand_in_expr framed e) stand all_stand) (and-right (is_plain_expr framed e) keep all_keep)) m holds)

  return-kept : (at : Place) (e : Option CExpr) → OfStmt (stmt at (CStmtKind-F.Return e))
  return-kept at None stands kept m holds = rw (fold-roll-CStmt, fold-roll-CStmtKind) (refl, holds)
  return-kept at (Some e) stands kept m holds =
      let mine : is_plain_expr framed e ≡ true = rw (fold-roll-CStmt, fold-roll-CStmtKind) at kept in
      rw (fold-roll-CStmt, fold-roll-CStmtKind)
      (ended-kept Parts m _ _ (value_c e first m).answer (value_c e second m).answer _ _ (ap (λ c. c.answer) (exact_expr e mine m))
      (any _ (λ v. (refl, holds)) (value_c e first m).answer))

  stmt_cases : StmtCases OfStmt
  stmt_cases = record {
    set = set-kept;
    clear = clear-kept;
    call = call-kept;
    branching = if-kept;
    loop = loop-statement-kept;
    break = λ at stands kept m holds. rw (fold-roll-CStmt, fold-roll-CStmtKind) (refl, holds);
    returns = return-kept;
  }

  every : (stmts : List CStmt) → All OfStmt stmts
  every [] = All-nil OfStmt
  every (s ∷ stmts) = All-cons OfStmt s stmts (induct_stmt OfStmt stmt_cases s) (every stmts)

  each-passes : (test : CStmt → Bool) (stmts : List CStmt) → list_all test stmts ≡ true → list_all (λ b. b) (map test stmts) ≡ true
  each-passes test [] h = refl
  each-passes test (s ∷ stmts) h = by (test s) (each-passes test stmts) h
    where
      by : (b : Bool) → (list_all test stmts ≡ true → list_all (λ b. b) (map test stmts) ≡ true) → (b && list_all test stmts) ≡ true →
          (b && list_all (λ b. b) (map test stmts)) ≡ true
      by true later h = later h
      by false later h = cc

  pub body-kept : (stmts : List CStmt) → list_all (calls_stand_in framed) stmts ≡ true → list_all (keeps_frames frames frame) stmts ≡ true →
      RunKept Parts (block_c stmts first) (block_c stmts second)
  body-kept stmts stands kept =
      block-kept stmts (every stmts) (each-passes (calls_stand_in framed) stmts stands) (each-passes (keeps_frames frames frame) stmts kept)

parts-after : (frames : List Frame) (frame : Frame) (scope : Scope) (e : End) (m : Memory) → KeptAt (PartsHold frames frame scope) e m →
    PartsHoldAfter frames frame scope e m
parts-after frames frame scope goes_on m h = h
parts-after frames frame scope breaks m h = h
parts-after frames frame scope (returns n) m h = h
parts-after frames frame scope traps m h = tt

pub blocks-decide-in : TablesDecideIn
blocks-decide-in structs frames fits one other keeps alike frame block stands kept depth pointers below own memory holds =
    let first : Scope = record { known = one; depth = depth; pointers = pointers } in
    let both = body-kept structs frames fits one other keeps alike frame depth pointers below own block stands kept memory holds in (
      both.0
          ∙ blocks-decided (framed_names frames) (mixed frames one other alike) other (mixed-alike frames one other alike) block stands depth pointers below own
          memory,
      parts-after frames frame first (block_c block first memory).end (block_c block first memory).memory both.1,
    )

-- ---- functions

module _ (structs : List CStruct) (frames : List Frame) (fits : list_all (frame_fits structs frames) frames ≡ true) (one other : Table Meaning)
    (keeps : TableKeeps one) (alike : TablesAlikeIn frames one other) (f : CFunc) (kept : KeepsFrames frames f) (depth : ℕ) (passed : List ArgumentValue)
    (memory : Memory) (fine : Fine (framed_names frames) f.name depth passed) (passes : PassesFrame frames f.name passed memory) where
  abbrev frame : Frame
  frame = frame_for frames f.name

  abbrev pointers : Table Location
  pointers = table_of (pointers_of f.params passed)

  abbrev here : Scope
  here = record { known = one; depth = depth; pointers = pointers }

  abbrev start : Memory
  start = with_params depth f.params passed (without_frame depth memory)

  abbrev after : Outcome Memory
  after = block_c f.body here start

  abbrev Taken : Type 0
  Taken = TakesFrame frames f.name f.params depth passed memory

  taken : has_name (framed_names frames) f.name ≡ true → Taken
  taken has = frame-taken frames f.name f.params depth passed memory has (kept.own has) fine passes

  below : PointBelow depth pointers
  below = point-below depth f.params passed fine.below

  owned : owns_first (framed_names frames) f.name f.params ≡ true
  owned =
      and-left (owns_first (framed_names frames) f.name f.params) (list_all (calls_stand_in (framed_names frames)) f.body) kept.stands

  own : OwnApart pointers
  own = own-apart (framed_names frames) f.name depth f.params passed owned fine

  running-here : Running here
  running-here = record { keeps = keeps; below = below; apart = own }

  -- the location of a frame within the function's own
  part-is : (taken : Taken) (x : Text) → further taken.place (member x ∷ []) ≡ spot_location here (frame_spot frame x)
  part-is taken x =
      ap (λ o. further (unwrap_or o (record { root = variable depth frame.pointer; parts = [] })) (member x ∷ [])) (sym taken.leads)

  parts-begin : PartsHold frames frame here start
  parts-begin x inner there = by (has_name (framed_names frames) f.name) refl
    where
      by : (b : Bool) → has_name (framed_names frames) f.name ≡ b → FrameHolds frames inner (spot_location here (frame_spot frame x)) start
      by false e = absurd (no-parts frames f.name e (x, inner) there)
      by true e =
          let it : Taken = taken e in
          subst (λ l. FrameHolds frames inner l start) (part-is it x)
          (frame-part frames f.name x inner it.place start there
          (frame-same structs frames fits f.name it.place memory start (start-keeps depth f.params passed memory it.place it.below) it.holds))

  body-decided : (observed after ≡ observed (block_c f.body (record { known = other; depth = depth; pointers = pointers }) start))
      × PartsHoldAfter frames frame here after.end after.memory
  body-decided =
      blocks-decide-in structs frames fits one other keeps alike frame f.body
      (and-right (owns_first (framed_names frames) f.name f.params) (list_all (calls_stand_in (framed_names frames)) f.body) kept.stands) kept.parts
      depth pointers below own start parts-begin

  pub function-alike : seen_call (function_c one f depth passed memory) ≡ seen_call (function_c other f depth passed memory)
  function-alike =
      let p : Outcome Memory = block_c f.body (record { known = other; depth = depth; pointers = pointers }) start in
      left-seen depth after.end after.memory ∙ ap (leaving depth) body-decided.0 ∙ sym (left-seen depth p.end p.memory)

  -- frames within the function's own where it doesn't trap
  parts-end : (e : End) (m : Memory) → PartsHoldAfter frames frame here e m → is_some (result_at e) ≡ true → PartsHold frames frame here m
  parts-end goes_on m h some = h
  parts-end breaks m h some = h
  parts-end (returns n) m h some = h
  parts-end traps m h some = cc

  -- what is told of the function's own frame, where it doesn't trap
  own-end : (it : Taken) → LeavesReached frame f → is_some (result_at after.end) ≡ true → HoldsAt it.place frame.reached after.memory
  own-end it (LeavesReached.any untold) some =
      subst (λ facts. HoldsAt it.place facts after.memory) (sym untold) (untold-holds (at_location it.place) after.memory)
  own-end it (LeavesReached.told through later) some =
      holds-back structs frames fits f.name here it.place after.memory it.leads
      (later.hold here running-here start (known-begins structs frames fits f here passed memory it refl) (block-goes here f.body through start some))

  pub function-keeps : is_some (function_c one f depth passed memory).result ≡ true →
      PassesFrame frames f.name passed (function_c one f depth passed memory).memory
  function-keeps some = by (has_name (framed_names frames) f.name) refl
    where
      by : (b : Bool) → has_name (framed_names frames) f.name ≡ b → PassesFrame frames f.name passed (without_frame depth after.memory)
      by false e = untold-passes frames one other alike f.name passed (without_frame depth after.memory) e
      by true e =
          let it : Taken = taken e in
          subst (λ values. PassesFrame frames f.name values (without_frame depth after.memory)) (sym it.is)
          (frame-same structs frames fits f.name it.place after.memory (without_frame depth after.memory)
          (end-keeps depth after.memory it.place it.below)
          (frame-from frames f.name it.place after.memory (own-end it kept.reached some)
          (λ x inner there. subst (λ l. FrameHolds frames inner l after.memory) (sym (part-is it x))
          (parts-end after.end after.memory body-decided.1 some x inner there))))

pub functions-decide-in : FunctionsDecideIn
functions-decide-in structs frames fits one other keeps alike f kept = (
  λ depth passed memory fine passes. function-alike structs frames fits one other keeps alike f kept depth passed memory fine passes,
  λ depth passed memory fine passes some. function-keeps structs frames fits one other keeps alike f kept depth passed memory fine passes some,
)
