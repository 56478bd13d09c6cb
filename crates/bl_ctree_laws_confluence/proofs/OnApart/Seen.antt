-- What deeds write is seen in what their tree may still write, or lies in a call.
use Rattle.std.proofs.Common.{◌≡◌, ◌⊎◌, inl, inr, ℕ, zero, suc, ◌<◌, Bool, true, false, not, ◌&&◌, ◌||◌, List, [], ◌∷◌, ◌++◌, map, length, Some, refl, sym, ap}
use Rattle.std.proofs.Common.{◌∙◌, subst, arith, append_assoc, eq-eqb, eqb-true}
use Rattle.std.specs.Prelude.{nat_eq, slice_get, slice_index_or}
use Rattle.std.specs.List.{list_any}
use Rattle.std.proofs.lemmas.Bool.{and_from, or_left, or_right}
use Rattle.bl_tree.proofs.Basics.{and_first, and_second, get_of_map, not_of_false}
use Rattle.bl_tree.specs.declared.static_path.Static.{Static}
use Rattle.bl_tree.specs.declared.tree.StructDef.{StructDef}
use Rattle.bl_tree.specs.declared.tree.Unit.{Unit as UnitDef}
use Rattle.bl_tree.specs.Effects.{target_static, writes}
use Rattle.bl_tree.specs.Static.{is_front, static_of}
use Rattle.bl_graph_nodes.specs.Steps.{StepLabel}
use Rattle.bl_ctree.specs.Actions.{Effect, Silent, Acts, Asks, Copies, Gives}
use Rattle.bl_ctree.specs.Control.{Body}
use Rattle.bl_ctree.specs.Instances.{Setting, callee_of, setting_of}
use Rattle.bl_ctree.specs.Store.{Location, home, homes, overlap, whole_of}
use Rattle.bl_ctree_laws.specs.Pending.{Deed, any_writes, anew, leads_over, may_end, may_write, soon_in}
use Rattle.bl_ctree_laws.specs.Steps.{Anyway, Moves, OneMoves, acts, takes, passes, pauses, runs, repeats, repeats_until, leaves, turns, enters, skips, forks}
use Rattle.bl_ctree_laws.specs.Steps.{guards, goes_on, waits, lets, aborts, resets, guard_ends, copies, run_ends, joins, in_seq, in_par, in_guard, in_run}
use Rattle.bl_ctree_laws.specs.Steps.{first, later}
use Rattle.bl_ctree_laws.specs.Trees.{Call, Tree, Trees, Run, is_settled}
use Rattle.bl_ctree_laws.proofs.Less.{moving_is_unsettled}
use Rattle.bl_ctree_laws.proofs.Tests.{or_le, or_of}
use Rattle.bl_ctree_laws_confluence.specs.Stores.{onward}
use Rattle.bl_ctree_laws_confluence.proofs.OnStores.Homes.{homes_lead_on}
use Rattle.bl_ctree_laws_confluence.specs.Deeds.Deeds.{effect_writes}
use Rattle.bl_ctree_laws_confluence.specs.Deeds.Nesting.{Inside, IsOutput}
use Rattle.bl_ctree_laws_confluence.proofs.OnDeeds.Nesting.{programs_nest}
use Rattle.bl_ctree_laws_confluence.specs.Apart.Seen.{AllCallsMatchCallees, CallsMatchCallees, HasOutputs, InCall, WritesAreSeen}
use Rattle.bl_ctree_laws_confluence.proofs.OnApart.Calls.{stays}

-- ---- homes that overlap

abbrev pub longer : Static → List ℕ → Static
longer o fields = record { root = o.root; fields = o.fields ++ fields }

pub cut_front : (xs ys more : List ℕ) → (is_front xs (ys ++ more) || is_front (ys ++ more) xs) ≡ true → (is_front xs ys || is_front ys xs) ≡ true
cut_front [] ys more e = refl
cut_front (x ∷ xs) [] more e = refl
cut_front (x ∷ xs) (y ∷ ys) more e =
    or_of (nat_eq x y && is_front xs (ys ++ more)) (nat_eq y x && is_front (ys ++ more) xs) Goal
    (λ one. both (and_first (nat_eq x y) (is_front xs (ys ++ more)) one)
    (eq-eqb y x (sym (eqb-true x y (and_first (nat_eq x y) (is_front xs (ys ++ more)) one))))
    (cut_front xs ys more (or_left (is_front xs (ys ++ more)) (is_front (ys ++ more) xs) (and_second (nat_eq x y) (is_front xs (ys ++ more)) one))))
    (λ other. both (eq-eqb x y (sym (eqb-true y x (and_first (nat_eq y x) (is_front (ys ++ more) xs) other))))
    (and_first (nat_eq y x) (is_front (ys ++ more) xs) other)
    (cut_front xs ys more (or_right (is_front xs (ys ++ more)) (is_front (ys ++ more) xs) (and_second (nat_eq y x) (is_front (ys ++ more) xs) other)))) e
  where
    Goal : Bool
    Goal = (nat_eq x y && is_front xs ys) || (nat_eq y x && is_front ys xs)

    both : nat_eq x y ≡ true → nat_eq y x ≡ true → (is_front xs ys || is_front ys xs) ≡ true → Goal ≡ true
    both same back fronts = or_le (is_front xs ys) (is_front ys xs) (nat_eq x y && is_front xs ys) (nat_eq y x && is_front ys xs)
        (λ one. and_from (nat_eq x y) (is_front xs ys) same one) (λ other. and_from (nat_eq y x) (is_front ys xs) back other) fronts

-- what overlaps what leads on overlaps what is before
cut_onward : (over at : Location) (fields more : List ℕ) → overlap over (onward at (fields ++ more)) ≡ true → overlap over (onward at fields) ≡ true
cut_onward over at fields more e =
    let long : List ℕ = at.path.fields ++ (fields ++ more) in
    let short : List ℕ = at.path.fields ++ fields in
    let fronts : Bool = is_front over.path.fields long || is_front long over.path.fields in
    let paths : (nat_eq over.path.root at.path.root && fronts) ≡ true =
    and_second (nat_eq over.instance at.instance) (nat_eq over.path.root at.path.root && fronts) e in
    and_from (nat_eq over.instance at.instance)
    (nat_eq over.path.root at.path.root && (is_front over.path.fields short || is_front short over.path.fields))
    (and_first (nat_eq over.instance at.instance) (nat_eq over.path.root at.path.root && fronts) e)
    (and_from (nat_eq over.path.root at.path.root) (is_front over.path.fields short || is_front short over.path.fields)
    (and_first (nat_eq over.path.root at.path.root) fronts paths)
    (cut_front over.path.fields short more
    (subst (λ all. (is_front over.path.fields all || is_front all over.path.fields) ≡ true) (sym (append_assoc at.path.fields fields more))
    (and_second (nat_eq over.path.root at.path.root) fronts paths))))

cut_home : (w : Setting) (i : ℕ) (over : Location) (o : Static) (fields : List ℕ) →
    overlap over (home w (record { instance = i; path = longer o fields })) ≡ true → overlap over (home w (record { instance = i; path = o })) ≡ true
cut_home w i over o fields e =
    ap (overlap over) (homes_lead_on w i o)
    ∙ cut_onward over (home w (whole_of i o.root)) o.fields fields (sym (ap (overlap over) (homes_lead_on w i (longer o fields))) ∙ e)

-- ---- what is written

any_home : (w : Setting) (i : ℕ) (at over : Location) (paths : List Static) (k : ℕ) → slice_get (homes w i paths) k ≡ Some at →
    overlap over at ≡ true → list_any (leads_over w i over) paths ≡ true
any_home w i at over [] k e is = absurd cc
any_home w i at over (path ∷ rest) zero e is =
    let same : home w (record { instance = i; path = path }) ≡ at = cc in
    or_left (leads_over w i over path) (list_any (leads_over w i over) rest) (ap (overlap over) same ∙ is)
any_home w i at over (path ∷ rest) (suc k) e is =
    or_right (leads_over w i over path) (list_any (leads_over w i over) rest) (any_home w i at over rest k e is)

-- a home that an effect writes is that of a path of its instance
written_home : (w : Setting) (i : ℕ) (effect : Effect) (k : ℕ) (at : Location) → slice_get (effect_writes w i effect) k ≡ Some at →
    (path : Static) × (home w (record { instance = i; path = path }) ≡ at)
written_home w i Silent k at e = absurd cc
written_home w i (Acts s) k at e = let got = get_of_map (λ path. home w (record { instance = i; path = path })) (writes s) k at e in (got.0, got.2)
written_home w i (Asks test) k at e = absurd cc
written_home w i (Copies callee inputs) k at e = absurd cc
written_home w i (Gives callee target) k at e =
    let got = get_of_map (λ path. home w (record { instance = i; path = path })) (target_static target) k at e in (got.0, got.2)

nothing_written : {A : Type 0} (k : ℕ) (at : Location) → slice_get {X = Location} [] k ≡ Some at → A
nothing_written k at e = absurd cc

any_at : {A : Type 0} (test : A → Bool) (xs : List A) (k : ℕ) (x : A) → k < length xs → slice_index_or xs k x ≡ x → test x ≡ true →
    list_any test xs ≡ true
any_at test [] k x within e is = absurd (omega arith)
any_at test (y ∷ xs) zero x within e is = or_left (test y) (list_any test xs) (ap test e ∙ is)
any_at test (y ∷ xs) (suc k) x within e is = or_right (test y) (list_any test xs) (any_at test xs k x (omega arith) e is)

either : {A B C : Type 0} → (A → B) → A ⊎ C → B ⊎ C
either f (inl a) = inl (f a)
either f (inr c) = inr c

module _ (structs : List StructDef) (units : List UnitDef) (entry : ℕ) (over : Location) where
  abbrev W : Setting
  W = setting_of structs units entry

  abbrev Seen : ℕ → Tree → Location → Type 0
  Seen i c at = (may_write W i c over ≡ true) ⊎ InCall W i at.instance

  -- an output of a call that goes on may be written
  output_seen : (i : ℕ) (s : Call) (callee : ℕ) (stood : Bool) (c : Tree) (own at : Location) →
      HasOutputs W callee (map static_of s.arguments.outputs) →
      is_settled (Run s callee Body stood c) ≡ false → home W own ≡ at → IsOutput W i callee own → overlap over at ≡ true →
      may_write W i (Run s callee Body stood c) over ≡ true
  output_seen i s callee stood c own at has moving is out o =
      let paths : List Static = map static_of s.arguments.outputs in
      let leads : at ≡ home W (record { instance = i; path = longer out.output out.fields }) = sym is ∙ out.leads in
      let met : leads_over W i over out.output ≡ true =
      cut_home W i over out.output out.fields (subst (λ at. overlap over at ≡ true) leads o) in
      let some : list_any (leads_over W i over) paths ≡ true =
      has out.instance out.origin (leads_over W i over) out.there out.began
      (any_at (leads_over W i over) out.origin.outputs out.is_output.0 out.output out.is_output.1 out.is_output.2 met) in
      and_from (not (is_settled (Run s callee Body stood c)))
      (list_any (leads_over W i over) paths || (may_end c && list_any (leads_over W i over) (target_static s.arguments.target)))
      (not_of_false (is_settled (Run s callee Body stood c)) moving)
      (or_left (list_any (leads_over W i over) paths) (may_end c && list_any (leads_over W i over) (target_static s.arguments.target)) some)

  -- what a called instance does is in the call, or writes an output
  called_seen : (i : ℕ) (s : Call) (callee : ℕ) (stood : Bool) (c : Tree) (a : Deed) (k : ℕ) (at : Location) → callee_of W i s.place ≡ Some callee →
      HasOutputs W callee (map static_of s.arguments.outputs) → is_settled (Run s callee Body stood c) ≡ false → Inside W callee a.instance →
      slice_get (effect_writes W a.instance a.effect) k ≡ Some at → overlap over at ≡ true → Seen i (Run s callee Body stood c) at
  called_seen i s callee stood c a k at begins has moving inner e o =
      let own = written_home W a.instance a.effect k at e in
      by_home own.0 own.1 ((programs_nest structs units entry).homes i callee a.instance s.place own.0 begins inner)
    where
      by_home : (path : Static) → home W (record { instance = a.instance; path = path }) ≡ at →
          Inside W callee (home W (record {
            instance =
                a.instance;
            path = path;
          })).instance ⊎ IsOutput W i callee (record { instance = a.instance; path = path })
          → Seen i (Run s callee Body stood c) at
      by_home path is (inl inside) =
          inr (record { place = s.place; callee = callee; runs = begins; inside = subst (λ at. Inside W callee at.instance) is inside })
      by_home path is (inr out) = inl (output_seen i s callee stood c (record { instance = a.instance; path = path }) at has moving is out o)

  target_seen : (i : ℕ) (s : Call) → list_any (leads_over W i over) (target_static s.arguments.target) ≡ true →
      (list_any (leads_over W i over) (map static_of s.arguments.outputs) || list_any (leads_over W i over) (target_static s.arguments.target)) ≡ true
  target_seen i s e =
      or_right (list_any (leads_over W i over) (map static_of s.arguments.outputs)) (list_any (leads_over W i over) (target_static s.arguments.target)) e

  mutual
    seen : {i : ℕ} {c : Tree} {d : Bool} {a : Deed} {n : StepLabel} {c' : Tree} (k : ℕ) (at : Location) →
        overlap over at ≡ true → CallsMatchCallees W i c →
        Moves Anyway W i c d a n c' → slice_get (effect_writes W a.instance a.effect) k ≡ Some at → Seen i c at
    seen {i = i} k at o stand (acts {s = s}) e = inl (any_home W i at over (writes s) k e o)
    seen k at o stand takes e = nothing_written k at e
    seen k at o stand passes e = nothing_written k at e
    seen k at o stand pauses e = nothing_written k at e
    seen k at o stand (runs begins there) e = nothing_written k at e
    seen k at o stand repeats e = nothing_written k at e
    seen k at o stand repeats_until e = nothing_written k at e
    seen k at o stand leaves e = nothing_written k at e
    seen k at o stand turns e = nothing_written k at e
    seen k at o stand enters e = nothing_written k at e
    seen k at o stand skips e = nothing_written k at e
    seen k at o stand forks e = nothing_written k at e
    seen k at o stand guards e = nothing_written k at e
    seen k at o stand goes_on e = nothing_written k at e
    seen k at o stand waits e = nothing_written k at e
    seen k at o stand lets e = nothing_written k at e
    seen k at o stand (aborts is) e = nothing_written k at e
    seen k at o stand (resets is) e = nothing_written k at e
    seen k at o stand guard_ends e = nothing_written k at e
    seen k at o stand copies e = nothing_written k at e
    seen {i = i} k at o stand (run_ends {s = s}) e = inl (target_seen i s (any_home W i at over (target_static s.arguments.target) k e o))
    seen k at o stand (joins settled done) e = nothing_written k at e
    seen {i = i} k at o stand (in_seq {c = c} {rest = rest} move) e =
        either (or_left (may_write W i c over) (may_end c && soon_in (leads_over W i over) rest)) (seen k at o stand move e)
    seen k at o stand (in_par move) e = one_seen k at o stand move e
    seen {i = i} k at o stand (in_guard {s = s} {c = c} move) e =
        either (or_left (may_write W i c over) (anew (leads_over W i over) s Body)) (seen k at o stand move e)
    seen {i = i} {a = a} k at o stand (in_run {s = s} {callee = callee} {stood = stood} {c = c} move) e =
        called_seen i s callee stood c a k at stand.0 stand.1.0
        (moving_is_unsettled W i _ _ _ _ _ (in_run {s = s} {stood = stood} move)) (stays stand.1.1 move) e o

    one_seen : {i : ℕ} {branches : Trees} {d : Bool} {a : Deed} {n : StepLabel} {branches' : Trees} (k : ℕ) (at : Location) → overlap over at ≡ true →
        AllCallsMatchCallees W i branches → OneMoves Anyway W i branches d a n branches' → slice_get (effect_writes W a.instance a.effect) k ≡ Some at →
        (any_writes W i branches over ≡ true) ⊎ InCall W i at.instance
    one_seen {i = i} k at o stand (first {c = c} {others = others} move free) e =
        either (or_left (may_write W i c over) (any_writes W i others over)) (seen k at o stand.0 move e)
    one_seen {i = i} k at o stand (later {c = c} {others = others} move free) e =
        either (or_right (may_write W i c over) (any_writes W i others over)) (one_seen k at o stand.1 move e)

pub writes_are_seen_so : WritesAreSeen
writes_are_seen_so structs units entry i c d a n c' k at over stand move e o = seen structs units entry over k at o stand move e
