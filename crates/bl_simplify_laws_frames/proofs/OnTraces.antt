-- Files of which each function does the same where frames are as they have to be have the same trace.
use Rattle.std.proofs.Common.{◌≡◌, ℤ, Bool, true, false, List, [], ◌∷◌, Option, Some, None, refl, ap, subst, ◌∙◌}
use Rattle.std.proofs.lemmas.List.Elements.{All-head, All-tail}
use Rattle.std.specs.Prelude.{All, bytes_eq, codes, is_some, if◌then◌else◌}
use Rattle.std.specs.List.{list_all}
use Rattle.std.specs.Option.{option_or}
use Rattle.bl_tree.specs.declared.row.Trace.{Trace}
use Rattle.bl_tree.specs.declared.text.Text.{Text}
use Rattle.bl_tree.specs.declared.c.CFunc.{CFunc}
use Rattle.bl_tree.specs.declared.c.CStruct.{CStruct}
use Rattle.bl_ctext_semantics.specs.Cells.{cells_of, memory_of, numbers_of, outputs_in, ports_of, with_inputs}
use Rattle.bl_ctext_semantics.specs.Faults.{WellFormed}
use Rattle.bl_ctext_semantics.specs.Meaning.{ArgumentValue, CallResult, Meaning, applied, function_c, meanings, meanings_after}
use Rattle.bl_ctext_semantics.specs.Memory.{Memory, cleared, input_object, output_object, state_object}
use Rattle.bl_ctext_semantics.specs.Parts.{Parts}
use Rattle.bl_ctext_semantics.specs.Tables.{Table, found, no_entries, with_entry}
use Rattle.bl_ctext_semantics.specs.Trace.{c_trace, c_trace_from, call_from_outside, cells_if, object, reply_of, start_c, started, tick_c}
use Rattle.bl_ctext_semantics.specs.Trace.{trace_after, traced}
use Rattle.bl_ctext_semantics_laws_cells.specs.Cells.{regained}
use Rattle.bl_simplify_laws.specs.Frames.{DependsOnPassed, LeavesOthers, TableKeeps}
use Rattle.bl_simplify_laws.specs.Observed.{SeenCall, call_seen_at, failed, gave, seen_call}
use Rattle.bl_simplify_laws.specs.Tables.{Fine}
use Rattle.bl_simplify_laws.proofs.OnMemories.{functions-keep}
use Rattle.bl_simplify_laws.proofs.OnSpots.{same-name, some-of}
use Rattle.bl_simplify_laws_frames.specs.Reached.{CallsAlikeIn, Frame, FrameHolds, FramesOfFile, FunctionsDecideIn, KeepsFrames, KeepsOwnFrame, KnownAlikeIn}
use Rattle.bl_simplify_laws_frames.specs.Reached.{PassesFrame, SameFunctionIn, SameFunctionsIn, SameTraceIn, TablesAlikeIn, frame_fits, framed_names}
use Rattle.bl_simplify_laws_frames.proofs.OnFrames.{frame-zero}
use Rattle.bl_simplify_laws_frames.proofs.OnStates.{inputs-keep, other-frame, regained-keeps, state}

-- ---- tables

-- what holds of known functions and of one more
entry-has : (P : Meaning → Type 0) (known : Table Meaning) (name : Text) (f : Meaning) →
    ((asked : Text) (meaning : Meaning) → known asked ≡ Some meaning → P meaning) → P f →
    (asked : Text) (meaning : Meaning) → with_entry known name f asked ≡ Some meaning → P meaning
entry-has P known name f has own asked meaning is = by (known asked) (bytes_eq name asked) refl is
  where
    by : (o : Option Meaning) (b : Bool) → known asked ≡ o → option_or o (if b then Some f else None) ≡ Some meaning → P meaning
    by (Some o) b e is = has asked meaning (e ∙ is)
    by None true e is = subst P (some-of f meaning is) own
    by None false e is = cc

entry-keeps : (known : Table Meaning) (function : CFunc) → TableKeeps known → TableKeeps (with_entry known function.name (function_c known function))
entry-keeps known function keeps = record {
  leaves = entry-has LeavesOthers known function.name (function_c known function) keeps.leaves (functions-keep known keeps function).0;
  depends = entry-has DependsOnPassed known function.name (function_c known function) keeps.depends (functions-keep known keeps function).1;
}

entry-alike : (frames : List Frame) (one other : Table Meaning) (name : Text) (f g : Meaning) → TablesAlikeIn frames one other →
    CallsAlikeIn frames name f g × KeepsOwnFrame frames name f → TablesAlikeIn frames (with_entry one name f) (with_entry other name g)
entry-alike frames one other name f g tables own asked = by (one asked) (other asked) (bytes_eq name asked) refl (tables asked)
  where
    by : (o p : Option Meaning) (b : Bool) → bytes_eq name asked ≡ b → KnownAlikeIn frames asked o p →
        KnownAlikeIn frames asked (option_or o (if b then Some f else None)) (option_or p (if b then Some g else None))
    by (Some o) (Some p) b e h = h
    by None None true e h = subst (λ n. CallsAlikeIn frames n f g × KeepsOwnFrame frames n f) (same-name name asked e) own
    by None None false e h = tt
    by None (Some p) b e h = absurd h
    by (Some o) None b e h = absurd h

module _ (decides : FunctionsDecideIn) (structs : List CStruct) (frames : List Frame) (fit : list_all (frame_fits structs frames) frames ≡ true) where
  -- a function of the first file over its own table, and that of the second over the other
  both : (one other : Table Meaning) (f g : CFunc) → TableKeeps one → TableKeeps other → TablesAlikeIn frames one other → KeepsFrames frames f →
      SameFunctionIn frames f g → CallsAlikeIn frames f.name (function_c one f) (function_c other g) × KeepsOwnFrame frames f.name (function_c one f)
  both one other f g keeps others tables stands same =
      let own : CallsAlikeIn frames f.name (function_c one f) (function_c other f) × KeepsOwnFrame frames f.name (function_c one f) =
      decides structs frames fit one other keeps tables f stands in (
        λ depth passed memory fine passes.
            own.0 depth passed memory fine passes ∙ same.same other others depth passed memory fine passes,
        own.1,
      )

  after-alike : (one other : Table Meaning) (fs gs : List CFunc) → TableKeeps one → TableKeeps other → TablesAlikeIn frames one other →
      All (KeepsFrames frames) fs → SameFunctionsIn frames fs gs → (name : Text) →
      KnownAlikeIn frames name (found name (meanings_after one fs)) (found name (meanings_after other gs))
  after-alike one other [] [] keeps others tables stand same name = tt
  after-alike one other [] (g ∷ gs) keeps others tables stand same name = absurd same
  after-alike one other (f ∷ fs) [] keeps others tables stand same name = absurd same
  after-alike one other (f ∷ fs) (g ∷ gs) keeps others tables stand same name =
      let own : CallsAlikeIn frames f.name (function_c one f) (function_c other g) × KeepsOwnFrame frames f.name (function_c one f) =
      both one other f g keeps others tables (All-head (KeepsFrames frames) f fs stand) same.1 in
      let entries : TablesAlikeIn frames (with_entry one f.name (function_c one f)) (with_entry other g.name (function_c other g)) =
      subst (λ n. TablesAlikeIn frames (with_entry one f.name (function_c one f)) (with_entry other n (function_c other g))) same.0
      (entry-alike frames one other f.name (function_c one f) (function_c other g) tables own) in
      let rest : KnownAlikeIn frames name (found name (meanings_after (with_entry one f.name (function_c one f)) fs))
      (found name (meanings_after (with_entry other g.name (function_c other g)) gs)) =
      after-alike (with_entry one f.name (function_c one f)) (with_entry other g.name (function_c other g)) fs gs (entry-keeps one f keeps)
      (entry-keeps other g others) entries (All-tail (KeepsFrames frames) f fs stand) same.2 name in
      subst
      (λ n. KnownAlikeIn frames name (found name (meanings_after one (f ∷ fs)))
      (if bytes_eq n name then Some (function_c other g) else found name (meanings_after (with_entry other g.name (function_c other g)) gs)))
      same.0
      (by (bytes_eq f.name name) refl (function_c one f) (function_c other g) (found name (meanings_after (with_entry one f.name (function_c one f)) fs))
      (found name (meanings_after (with_entry other g.name (function_c other g)) gs)) own rest)
    where
      by : (b : Bool) → bytes_eq f.name name ≡ b → (m n : Meaning) (o p : Option Meaning) →
          CallsAlikeIn frames f.name m n × KeepsOwnFrame frames f.name m → KnownAlikeIn frames name o p →
          KnownAlikeIn frames name (if b then Some m else o) (if b then Some n else p)
      by true e m n o p h k = subst (λ x. CallsAlikeIn frames x m n × KeepsOwnFrame frames x m) (same-name f.name name e) h
      by false e m n o p h k = k

  files-alike : (fs gs : List CFunc) → All (KeepsFrames frames) fs → SameFunctionsIn frames fs gs → (name : Text) →
      KnownAlikeIn frames name (found name (meanings fs)) (found name (meanings gs))
  files-alike fs gs stand same name =
      after-alike no_entries no_entries fs gs (record { leaves = λ n meaning is. cc; depends = λ n meaning is. cc })
      (record { leaves = λ n meaning is. cc; depends = λ n meaning is. cc }) (λ n. tt) stand same name

-- ---- calls from outside

applied-same : (frames : List Frame) (name : Text) (o p : Option Meaning) (passed : List ArgumentValue) (memory : Memory) → KnownAlikeIn frames name o p →
    Fine (framed_names frames) name 0 passed → PassesFrame frames name passed memory →
    seen_call (applied o 0 passed memory) ≡ seen_call (applied p 0 passed memory)
applied-same frames name (Some o) (Some p) passed memory h fine passes = h.0 0 passed memory fine passes
applied-same frames name None None passed memory h fine passes = refl
applied-same frames name None (Some p) passed memory h fine passes = absurd h
applied-same frames name (Some o) None passed memory h fine passes = absurd h

applied-keeps : (frames : List Frame) (name : Text) (o p : Option Meaning) (passed : List ArgumentValue) (memory : Memory) → KnownAlikeIn frames name o p →
    Fine (framed_names frames) name 0 passed → PassesFrame frames name passed memory → is_some (applied o 0 passed memory).result ≡ true →
    PassesFrame frames name passed (applied o 0 passed memory).memory
applied-keeps frames name (Some o) (Some p) passed memory h fine passes gives = h.1 0 passed memory fine passes gives
applied-keeps frames name None p passed memory h fine passes gives = absurd (cc)
applied-keeps frames name (Some o) None passed memory h fine passes gives = absurd h

-- ---- what two calls of which the same is seen leave

memory-in : SeenCall → Memory
memory-in failed = cleared
memory-in (gave n m) = m

number-in : SeenCall → Option ℤ
number-in failed = None
number-in (gave n m) = Some n

-- the traces that go on from two ticks of which the same is seen
traced-same : (outputs : Memory → List ℤ) (rest new : Memory → Trace) (o p : Option ℤ) (m n : Memory) → call_seen_at o m ≡ call_seen_at p n →
    (is_some o ≡ true → rest m ≡ new m) → traced (reply_of o) (outputs m) (rest m) ≡ traced (reply_of p) (outputs n) (new n)
unfolding memory-in number-in
traced-same outputs rest new None None m n seen same = refl
traced-same outputs rest new None (Some b) m n seen same = absurd (let no : None ≡ Some b = ap number-in seen in cc)
traced-same outputs rest new (Some a) None m n seen same = absurd (let no : Some a ≡ None = ap number-in seen in cc)
traced-same outputs rest new (Some a) (Some b) m n seen same =
    ap (λ t. traced (reply_of (Some a)) (outputs m) t) (same refl) ∙ ap (λ c. traced (reply_of c) (outputs m) (new m)) (ap number-in seen)
    ∙ ap (λ l. traced (reply_of (Some b)) (outputs l) (new l)) (ap memory-in seen)

-- the cells that two starts of which the same is seen leave
cells-same : (cells : Memory → List ℤ) (o p : Option ℤ) (m n : Memory) → call_seen_at o m ≡ call_seen_at p n →
    cells_if (is_some o) (cells m) ≡ cells_if (is_some p) (cells n)
unfolding memory-in number-in
cells-same cells None None m n seen = refl
cells-same cells None (Some b) m n seen = absurd (let no : None ≡ Some b = ap number-in seen in cc)
cells-same cells (Some a) None m n seen = absurd (let no : Some a ≡ None = ap number-in seen in cc)
cells-same cells (Some a) (Some b) m n seen = ap (λ l. Some (cells l)) (ap memory-in seen)

-- ---- ticks

module _ (decides : FunctionsDecideIn) (structs : List CStruct) (fs gs : List CFunc) (frames : List Frame)
    (formed : WellFormed (record { structs = structs; funcs = fs })) (told : FramesOfFile structs frames) (stand : All (KeepsFrames frames) fs)
    (same : SameFunctionsIn frames fs gs) where
  abbrev one : Parts
  one = record { structs = structs; funcs = fs }

  abbrev other : Parts
  other = record { structs = structs; funcs = gs }

  -- the frame of a tick is as it has to be
  abbrev StateHolds : Memory → Type 0
  StateHolds memory = FrameHolds frames (codes "bl_tick") state memory

  outside-same : (name : Text) (passed : List ArgumentValue) (memory : Memory) → Fine (framed_names frames) name 0 passed →
      PassesFrame frames name passed memory → seen_call (call_from_outside one name passed memory) ≡ seen_call (call_from_outside other name passed memory)
  unfolding call_from_outside
  outside-same name passed memory fine passes =
      applied-same frames name (found name (meanings fs)) (found name (meanings gs)) passed memory
      (files-alike decides structs frames told.fit fs gs stand same name) fine passes

  outside-keeps : (name : Text) (passed : List ArgumentValue) (memory : Memory) → Fine (framed_names frames) name 0 passed →
      PassesFrame frames name passed memory → is_some (call_from_outside one name passed memory).result ≡ true →
      PassesFrame frames name passed (call_from_outside one name passed memory).memory
  unfolding call_from_outside
  outside-keeps name passed memory fine passes gives =
      applied-keeps frames name (found name (meanings fs)) (found name (meanings gs)) passed memory
      (files-alike decides structs frames told.fit fs gs stand same name) fine passes gives

  abbrev kept : (memory : Memory) → StateHolds memory → StateHolds (regained one memory)
  kept memory holds = regained-keeps structs frames told.fit fs formed memory (codes "bl_tick") told.tick holds

  abbrev ticked : List ArgumentValue
  ticked = object state_object ∷ object input_object ∷ object output_object ∷ []

  tick-fine : Fine (framed_names frames) (codes "bl_tick") 0 ticked
  tick-fine = record { below = (tt, (tt, (tt, tt))); apart = λ has. (refl, (refl, tt)) }

  from-same : (rows : List (List ℤ)) (cells : List ℤ) → StateHolds (memory_of (cells_of one) cells) → c_trace_from one rows cells ≡ c_trace_from other rows cells
  unfolding tick_c cells_of
  from-same [] cells holds = refl
  from-same (ins ∷ rows) cells holds =
      let start : Memory = with_inputs (ports_of (codes "bl_in") one) ins (memory_of (cells_of one) cells) in
      let begins : StateHolds start =
      inputs-keep structs frames told.fit (codes "bl_tick") (ports_of (codes "bl_in") one) ins (memory_of (cells_of one) cells) holds in
      let c : CallResult = call_from_outside one (codes "bl_tick") ticked start in
      let d : CallResult = call_from_outside other (codes "bl_tick") ticked start in
      traced-same (outputs_in (ports_of (codes "bl_out") one)) (λ m. c_trace_from one rows (numbers_of (cells_of one) m))
      (λ m. c_trace_from other rows (numbers_of (cells_of one) m)) c.result d.result c.memory d.memory
      (outside-same (codes "bl_tick") ticked start tick-fine begins)
      (λ gives. from-same rows (numbers_of (cells_of one) c.memory)
      (kept c.memory (outside-keeps (codes "bl_tick") ticked start tick-fine begins gives)))

  abbrev begun : List ArgumentValue
  begun = object state_object ∷ []

  init-fine : Fine (framed_names frames) (codes "bl_init") 0 begun
  init-fine = record { below = (tt, tt); apart = λ has. tt }

  init-holds : FrameHolds frames (codes "bl_init") state cleared
  init-holds = frame-zero structs frames told.fit (codes "bl_init") state cleared (λ way. refl)

  start-same : start_c one ≡ start_c other
  unfolding started cells_of
  start-same =
      let c : CallResult = call_from_outside one (codes "bl_init") begun cleared in
      let d : CallResult = call_from_outside other (codes "bl_init") begun cleared in
      cells-same (numbers_of (cells_of one)) c.result d.result c.memory d.memory
      (outside-same (codes "bl_init") begun cleared init-fine init-holds)

  -- after the start the frame of a tick is as it has to be
  start-holds : is_some (started one).result ≡ true → StateHolds (started one).memory
  unfolding started
  start-holds gives =
      other-frame frames (codes "bl_init") state (started one).memory
      (outside-keeps (codes "bl_init") begun cleared init-fine init-holds gives) (codes "bl_tick") told.parts
      told.untold.1

  after-same : (o : Option ℤ) (memory : Memory) → (is_some o ≡ true → StateHolds memory) → (rows : List (List ℤ)) →
      trace_after one (cells_if (is_some o) (numbers_of (cells_of one) memory)) rows
      ≡ trace_after other (cells_if (is_some o) (numbers_of (cells_of one) memory)) rows
  after-same None memory holds rows = refl
  after-same (Some n) memory holds rows = from-same rows (numbers_of (cells_of one) memory) (kept memory (holds refl))

  pub trace-same : (rows : List (List ℤ)) → c_trace one rows ≡ c_trace other rows
  trace-same rows = after-same (started one).result (started one).memory start-holds rows ∙ ap (λ o. trace_after other o rows) start-same

-- files have the same trace, where functions that keep frames do the same over tables that do
pub same-trace-in : FunctionsDecideIn → SameTraceIn
same-trace-in decides structs fs gs frames formed told stand same rows = trace-same decides structs fs gs frames formed told stand same rows
