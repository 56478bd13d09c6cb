-- What steps over the parts of a machine do to its state.
use Rattle.std.proofs.Common.{◌≡◌, ◌≢◌, ℕ, ◌+◌, ◌≤◌, ◌<◌, ℤ, pos, Bool, true, false, List, [], ◌∷◌, length, Option, Some, None, arith, sym, ◌∙◌, ap, subst}
use Rattle.std.proofs.Common.{refl, length-set, ⊎_elim}
use Rattle.std.proofs.lemmas.List.{get_or_past, get_or-set_other, set_past}
use Rattle.std.proofs.str.Laws.{order}
use Rattle.std.specs.Prelude.{if◌then◌else◌, nat_lt, option_map, slice_set}
use Rattle.bl_tree.specs.declared.scalar.Op.{Op}
use Rattle.bl_tree.specs.Numbers.{is_one}
use Rattle.bl_ctext_semantics_laws.specs.Flat.{Cells, cell_at, cell_number, compared, frame_begun}
use Rattle.bl_ctext_semantics_laws.specs.Layout.{capped}
use Rattle.bl_crun_code.specs.declared.instruction.Act.{Act}
use Rattle.bl_crun_code.specs.declared.instruction.Callee.{Callee}
use Rattle.bl_crun_code.specs.declared.instruction.Caller.{Caller}
use Rattle.bl_crun_code.specs.declared.instruction.Operand.{Operand}
use Rattle.bl_crun_code.specs.declared.instruction.Operand.TheVariants as op
use Rattle.bl_crun_code.specs.Vm.{StepResult, VmState, ahead, args_in, caller_resumed, does, done, entering, goes, passing_by, stops, trapped, with_number}
use Rattle.bl_crun_code.specs.Vm.{written_if}
use Rattle.bl_crun_code_vm.specs.declared.flow.Flow.{Flow}
use Rattle.bl_crun_code_vm.specs.declared.flow.Flow.TheVariants as flow
use Rattle.bl_crun_code_vm.specs.inner.State.{IsReady, PoppedAt, Queue, RegisterState, MovesOn, state_over, state_of, written_cells, written_temps}
use Rattle.bl_crun_code_vm.specs.inner.Stepping.{Came, PassesIf}
use Rattle.bl_crun_code_vm.proofs.Frames.{length-frame}

-- ---- cells

-- where every cell has a number below the greatest, no number need be capped
pub cell_uncapped : (cells : Cells) (i : ℕ) → length cells ≤ 4294967295 → cell_at cells (capped i) ≡ cell_at cells i
cell_uncapped cells i few =
    ⊎_elim (λ less. let e : capped i ≡ i = omega (arith, less) in ap (λ (k : ℕ). cell_at cells k) e)
    (λ more.
    let p : length cells ≤ capped i = omega (arith, more) in
    let q : length cells ≤ i = omega (arith, more) in
    get_or_past cells (capped i) (pos 0) p ∙ sym (get_or_past cells i (pos 0) q))
    (order i 4294967295)

pub set_uncapped : (cells : Cells) (i : ℕ) (n : ℤ) → length cells ≤ 4294967295 → slice_set cells (capped i) n ≡ slice_set cells i n
set_uncapped cells i n few =
    ⊎_elim (λ less. let e : capped i ≡ i = omega (arith, less) in ap (λ (k : ℕ). slice_set cells k n) e)
    (λ more.
    let p : length cells ≤ capped i = omega (arith, more) in
    let q : length cells ≤ i = omega (arith, more) in
    set_past cells (capped i) n p ∙ sym (set_past cells i n q))
    (order i 4294967295)

-- the first cell of the frame stays where another one is set
pub ready_elsewhere : (r : RegisterState) (cells after : Cells) (k : ℕ) (n : ℤ) → k ≢ r.base → after ≡ slice_set cells k n → IsReady r cells → IsReady r after
ready_elsewhere r cells after k n other e ready = subst (λ (x : Cells). IsReady r x) (sym e) (record {
  few = omega (arith, length-set cells k n, ready.few);
  first_is = ready.first_is ∙ ap cell_number (sym (get_or-set_other cells k r.base n (pos 0) (λ h. other (sym h))));
})

-- ---- writing

with-number : (s : VmState) (base : ℕ) (cells : Cells) (temps : List ℤ) (o : Operand) (n : ℤ) →
    with_number (ahead (state_over s base cells temps)) o n ≡ state_over (ahead s) base (written_cells base cells temps o n) (written_temps temps o n)
with-number s base cells temps (op.Literal k) n = refl
with-number s base cells temps (op.Temporary j) n = refl
with-number s base cells temps (op.Near k) n = refl
with-number s base cells temps (op.Through p k) n = refl
with-number s base cells temps (op.Indirect j) n = refl
with-number s base cells temps (op.NearAddress k) n = refl
with-number s base cells temps (op.ThroughAddress p k) n = refl

pub wrote_number : (base : ℕ) (cells after : Cells) (temps left : List ℤ) (o : Operand) (n : ℤ) → after ≡ written_cells base cells temps o n →
    left ≡ written_temps temps o n → MovesOn (λ (s : VmState). written_if s o (Some n)) base cells temps after left
wrote_number base cells after temps left o n a b s =
    ap goes (with-number s base cells temps o n)
    ∙ ap (λ (x : Cells). goes (state_over (ahead s) base x (written_temps temps o n))) (sym a)
    ∙ ap (λ (x : List ℤ). goes (state_over (ahead s) base after x)) (sym b)

-- what a step has come to that goes on
pub came_by : (step : VmState → StepResult) (r mid last : RegisterState) (cells after : Cells) (temps left : List ℤ) (answer : Flow) →
    MovesOn step r.base cells temps after left → mid ≡ record r { first = mid.first } → answer ≡ flow.Goes → last ≡ record mid { at = mid.at + 1 } →
    (w : Queue) →
    Came (state_of r cells temps w) (step (state_of r cells temps w)) answer (state_of last after left w)
came_by step r mid last cells after temps left answer steps e f g w =
    subst (λ (x : Flow). Came (state_of r cells temps w) (step (state_of r cells temps w)) x (state_of last after left w)) (sym f)
    (subst (λ (x : StepResult). Came (state_of r cells temps w) x flow.Goes (state_of last after left w)) (sym (steps (state_of r cells temps w)))
    (ap (λ (x : RegisterState). state_of x after left w) g ∙ ap (λ (x : RegisterState). state_of (record x { at = x.at + 1 }) after left w) e))

pub ready_moved : (r last : RegisterState) (at : ℕ) (cells : Cells) → last ≡ record r { at = at } → IsReady r cells → IsReady last cells
ready_moved r last at cells e ready =
    subst (λ (x : RegisterState). IsReady x cells) (sym e) (record { few = ready.few; first_is = ready.first_is })

-- ---- choosing

passing-as : (r last : RegisterState) (cells : Cells) (temps : List ℤ) (condition : Option ℤ) (hold fail : ℕ) (answer : Flow) →
    PassesIf r (option_map (λ (c : ℤ). if is_one c then hold else fail) condition) answer last → (w : Queue) →
    Came (state_of r cells temps w) (passing_by (state_of r cells temps w) condition hold fail) answer (state_of last cells temps w)
passing-as r last cells temps None hold fail flow.Goes g w = absurd g
passing-as r last cells temps None hold fail (flow.Done n) g w = absurd g
passing-as r last cells temps None hold fail flow.Trapped g w =
    record { cells_are = refl; count_is = ap (λ (x : RegisterState). x.count) g; temps_are = refl; room_is = refl }
passing-as r last cells temps (Some c) hold fail flow.Goes g w = ap (λ (x : RegisterState). state_of x cells temps w) g
passing-as r last cells temps (Some c) hold fail (flow.Done n) g w = absurd g
passing-as r last cells temps (Some c) hold fail flow.Trapped g w = absurd g

pub came_passing : (r last : RegisterState) (cells : Cells) (temps : List ℤ) (condition : Option ℤ) (n : Option ℕ) (hold fail : ℕ) (answer : Flow) →
    n ≡ option_map (λ (c : ℤ). if is_one c then hold else fail) condition → PassesIf r n answer last → (w : Queue) →
    Came (state_of r cells temps w) (passing_by (state_of r cells temps w) condition hold fail) answer (state_of last cells temps w)
came_passing r last cells temps condition n hold fail answer e g w =
    passing-as r last cells temps condition hold fail answer (subst (λ (x : Option ℕ). PassesIf r x answer last) e g) w

pub ready_passing : (r last : RegisterState) (cells : Cells) (n : Option ℕ) (answer : Flow) → IsReady r cells → PassesIf r n answer last → IsReady last cells
ready_passing r last cells None flow.Goes ready g = absurd g
ready_passing r last cells None (flow.Done n) ready g = absurd g
ready_passing r last cells None flow.Trapped ready g = subst (λ (x : RegisterState). IsReady x cells) (sym g) ready
ready_passing r last cells (Some n) flow.Goes ready g =
    subst (λ (x : RegisterState). IsReady x cells) (sym g) (record { few = ready.few; first_is = ready.first_is })
ready_passing r last cells (Some n) (flow.Done k) ready g = absurd g
ready_passing r last cells (Some n) flow.Trapped ready g = absurd g

-- ---- calls and their ends

pub came_over : (r : RegisterState) (cells : Cells) (temps : List ℤ) (w left : Queue) (n : ℤ) → (w.callers ≡ []) × (left ≡ w) →
    Came (state_of r cells temps w) (caller_resumed (state_of r cells temps w) n w.callers) (flow.Done n) (state_of r cells temps left)
came_over r cells temps w left n h =
    subst (λ (x : List Caller). Came (state_of r cells temps w) (caller_resumed (state_of r cells temps w) n x) (flow.Done n) (state_of r cells temps left))
    (sym h.0)
    (record { cells_are = refl; count_is = refl; temps_are = refl; room_is = ap (λ (x : Queue). x.room) h.1 }, refl)

number-parts : (at base : ℕ) (cells : Cells) (temps : List ℤ) (callers : List Caller) (room count : ℕ) (o : Operand) (n : ℤ) →
    record {
      at = at;
      base = base;
      cells = written_cells base cells temps o n;
      temps = written_temps temps o n;
      callers = callers;
      room = room;
      count = count;
    }
    ≡ with_number (record { at = at; base = base; cells = cells; temps = temps; callers = callers; room = room; count = count }) o n
number-parts at base cells temps callers room count (op.Literal k) n = refl
number-parts at base cells temps callers room count (op.Temporary j) n = refl
number-parts at base cells temps callers room count (op.Near k) n = refl
number-parts at base cells temps callers room count (op.Through p k) n = refl
number-parts at base cells temps callers room count (op.Indirect j) n = refl
number-parts at base cells temps callers room count (op.NearAddress k) n = refl
number-parts at base cells temps callers room count (op.ThroughAddress p k) n = refl

pub came_back : (r mid last : RegisterState) (cells after : Cells) (temps written : List ℤ) (w left : Queue) (n : ℤ) (first : ℕ) (caller : Caller)
    (callers : List Caller) →
    PoppedAt w callers caller left → mid ≡ record { at = caller.back; base = caller.base; first = first; count = r.count } →
    last ≡ record mid { first = last.first } → after ≡ written_cells mid.base cells temps caller.into n → written ≡ written_temps temps caller.into n →
    Came (state_of r cells temps w) (caller_resumed (state_of r cells temps w) n callers) flow.Goes (state_of last after written left)
came_back r mid last cells after temps written w left n first caller [] h a b c d = absurd h
came_back r mid last cells after temps written w left n first caller (k ∷ ks) h a b c d =
    let base : mid.base ≡ caller.base = ap (λ (x : RegisterState). x.base) a in
    let s : VmState = record (state_of r cells temps w) { at = caller.back; base = caller.base; callers = ks } in
    subst (λ (x : Caller). state_of last after written left
    ≡ with_number (record (state_of r cells temps w) { at = x.back; base = x.base; callers = ks }) x.into n) h.0
    (ap (λ (x : RegisterState). state_of x after written left) b
    ∙ ap (λ (x : RegisterState). state_of x after written left) a
    ∙ ap (λ (x : Queue). state_of (record { at = caller.back; base = caller.base; first = 0; count = r.count }) after written x) h.1
    ∙ ap (λ (x : Cells). record s { cells = x; temps = written }) (c ∙ ap (λ (x : ℕ). written_cells x cells temps caller.into n) base)
    ∙ ap (λ (x : List ℤ). record s { cells = written_cells caller.base cells temps caller.into n; temps = x }) d
    ∙ number-parts caller.back caller.base cells temps ks w.room r.count caller.into n)

pub ready_at : (r : RegisterState) (base first : ℕ) (cells : Cells) → base ≡ r.base → first ≡ r.first → IsReady r cells →
    IsReady (record { at = 0; base = base; first = first; count = 0 }) cells
ready_at r base first cells b f ready = record {
  few = ready.few;
  first_is = f ∙ ready.first_is ∙ ap (λ (k : ℕ). cell_number (cell_at cells k)) (sym b);
}

pub led_first : (r : RegisterState) (cells : Cells) (p first : ℕ) → p ≡ 0 → first ≡ r.first → IsReady r cells → first ≡ cell_number (cell_at cells (r.base + p))
led_first r cells p first none f ready =
    let e : r.base ≡ r.base + p = omega arith in
    f ∙ ready.first_is ∙ ap (λ (k : ℕ). cell_number (cell_at cells k)) e

-- the first cell of the frame is looked at anew
pub ready_anew : (r last : RegisterState) (cells after : Cells) (k : ℕ) (n : ℤ) (base first : ℕ) → after ≡ slice_set cells k n → base ≡ r.base →
    first ≡ cell_number (cell_at after base) → last ≡ record r { first = first } → IsReady r cells → IsReady last after
ready_anew r last cells after k n base first e b f l ready = subst (λ (x : RegisterState). IsReady x after) (sym l) (record {
  few = subst (λ (x : Cells). length x ≤ 4294967295) (sym e) (omega (arith, length-set cells k n, ready.few));
  first_is = f ∙ ap (λ (x : ℕ). cell_number (cell_at after x)) b;
})

chosen-came : (b : Bool) (s to m : VmState) → b ≡ true → m ≡ to → Came s (if b then goes to else stops s) flow.Goes m
chosen-came true s to m t e = e
chosen-came false s to m t e = cc

pub came_entered : (r last : RegisterState) (cells after : Cells) (temps : List ℤ) (w left : Queue) (callee : Callee) (begins first : ℕ) →
    length w.callers < w.room → begins ≡ capped (r.base + callee.passed) →
    after ≡ frame_begun callee.frame begins (args_in temps callee.first callee.args) cells →
    left ≡ record { callers = record { back = r.at + 1; base = r.base; into = callee.into } ∷ w.callers; room = w.room } →
    last ≡ record { at = callee.entry; base = begins; first = first; count = r.count } →
    Came (state_of r cells temps w) (entering (state_of r cells temps w) callee) flow.Goes (state_of last after temps left)
came_entered r last cells after temps w left callee begins first room b e q l =
    let t : nat_lt (length w.callers) w.room ≡ true = grind arith in
    chosen-came (nat_lt (length w.callers) w.room) (state_of r cells temps w) _ (state_of last after temps left) t
    (ap (λ (x : RegisterState). state_of x after temps left) l
    ∙ ap (λ (x : Queue). state_of (record { at = callee.entry; base = begins; first = first; count = r.count }) after temps x) q
    ∙ ap (λ (x : Cells). state_of (record { at = callee.entry; base = begins; first = first; count = r.count }) x temps
    (record { callers = record { back = r.at + 1; base = r.base; into = callee.into } ∷ w.callers; room = w.room })) e
    ∙ ap (λ (x : ℕ). state_of (record { at = callee.entry; base = x; first = first; count = r.count })
    (frame_begun callee.frame x (args_in temps callee.first callee.args) cells) temps
    (record { callers = record { back = r.at + 1; base = r.base; into = callee.into } ∷ w.callers; room = w.room })) b)

pub ready_entered : (r last : RegisterState) (cells after : Cells) (size begins first at count : ℕ) (args : List ℤ) → IsReady r cells →
    after ≡ frame_begun size begins args cells → first ≡ cell_number (cell_at after begins) →
    last ≡ record { at = at; base = begins; first = first; count = count } → IsReady last after
ready_entered r last cells after size begins first at count args ready e f l = subst (λ (x : RegisterState). IsReady x after) (sym l) (record {
  few = subst (λ (x : Cells). length x ≤ 4294967295) (sym e) (omega (arith, length-frame size begins args cells, ready.few));
  first_is = f;
})

pub steps_as : (a b : Act) (base other : ℕ) (cells after : Cells) (temps left : List ℤ) → a ≡ b → other ≡ base →
    MovesOn (λ (s : VmState). does s b) other cells temps after left → MovesOn (λ (s : VmState). does s a) base cells temps after left
steps_as a b base other cells after temps left e f steps =
    subst (λ (x : Act). MovesOn (λ (s : VmState). does s x) base cells temps after left) (sym e)
    (subst (λ (x : ℕ). MovesOn (λ (s : VmState). does s b) x cells temps after left) f steps)

pub passed_as : (o : Op) (n : Option ℕ) (l r left right a b : ℤ) (hold fail : ℕ) → left ≡ l → right ≡ r → l ≡ a → r ≡ b →
    n ≡ option_map (λ (c : ℤ). if is_one c then hold else fail) (compared o left right) →
    n ≡ option_map (λ (c : ℤ). if is_one c then hold else fail) (compared o a b)
passed_as o n l r left right a b hold fail e f g h is =
    is
    ∙ ap (λ (x : ℤ). option_map (λ (c : ℤ). if is_one c then hold else fail) (compared o x right)) (e ∙ g)
    ∙ ap (λ (x : ℤ). option_map (λ (c : ℤ). if is_one c then hold else fail) (compared o a x)) (f ∙ h)

-- what a state has come to doesn't depend on its count
came-counting : (s : VmState) (n : ℕ) (step : StepResult) (answer : Flow) (m : VmState) → Came (record s { count = n }) step answer m → Came s step answer m
came-counting s n (goes t) flow.Goes m c = c
came-counting s n (goes t) (flow.Done v) m c = absurd c
came-counting s n (goes t) flow.Trapped m c = absurd c
came-counting s n (done cells k v) flow.Goes m c = absurd c
came-counting s n (done cells k v) (flow.Done x) m c =
    (record { cells_are = c.0.cells_are; count_is = c.0.count_is; temps_are = c.0.temps_are; room_is = c.0.room_is }, c.1)
came-counting s n (done cells k v) flow.Trapped m c = absurd c
came-counting s n (trapped cells k) flow.Goes m c = absurd c
came-counting s n (trapped cells k) (flow.Done v) m c = absurd c
came-counting s n (trapped cells k) flow.Trapped m c =
    record { cells_are = c.cells_are; count_is = c.count_is; temps_are = c.temps_are; room_is = c.room_is }

pub came_counted : (r mid : RegisterState) (n : ℕ) (cells : Cells) (temps : List ℤ) (w : Queue) (a : Act) (answer : Flow) (m : VmState) →
    mid ≡ record r { count = n } → Came (state_of mid cells temps w) (does (state_of mid cells temps w) a) answer m →
    Came (state_of r cells temps w) (does (record (state_of r cells temps w) { count = n }) a) answer m
came_counted r mid n cells temps w a answer m e c =
    came-counting (state_of r cells temps w) n (does (record (state_of r cells temps w) { count = n }) a) answer m
    (subst (λ (x : RegisterState). Came (state_of x cells temps w) (does (state_of x cells temps w) a) answer m) e c)
