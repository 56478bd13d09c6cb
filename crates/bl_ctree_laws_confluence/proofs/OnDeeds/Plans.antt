-- A deed as a plan: what it answers, and the values that it puts.
use Rattle.std.proofs.Common.{◌≡◌, inl, inr, ℕ, Bool, true, List, [], ◌∷◌, ◌++◌, map, Option, Some, None, refl, sym, ap, ◌∙◌, subst, false}
use Rattle.std.specs.Prelude.{option_and_then, option_map, unwrap_or, ⊤, nat_eq}
use Rattle.bl_tree.specs.declared.static_path.Static.{Static}
use Rattle.bl_tree.specs.declared.tree.Arm.{Arm}
use Rattle.bl_tree.specs.declared.tree.Branch.{Branch}
use Rattle.bl_tree.specs.declared.tree.Expr.{Expr}
use Rattle.bl_tree.specs.declared.tree.Path.{Path}
use Rattle.bl_tree.specs.declared.tree.Stmt.{Stmt}
use Rattle.bl_tree.specs.declared.tree.StmtKind.{StmtKind}
use Rattle.bl_tree.specs.declared.tree.StmtKind.TheOpen.{StmtKind-F}
use Rattle.bl_tree.specs.declared.value.Value.{Value}
use Rattle.bl_tree.specs.Apart.{roots_in, stmt_kind_naming}
use Rattle.bl_tree.specs.Effects.{kind_reads, reads, target_static, writes}
use Rattle.bl_tree.specs.Reduce.{joined}
use Rattle.bl_tree.specs.Static.{mentions, set_of, static_of}
use Rattle.bl_effects.proofs.SetLemmas.{In, set_in}
use Rattle.bl_ctree.specs.Actions.{Acts, Asks, Copies, Effect, Gives, Performed, Silent, acted_kind, done, effect_on, given_to, is_true_value, outcome_there}
use Rattle.bl_ctree.specs.Actions.{result_at, value_there, values_there, with_result}
use Rattle.bl_ctree.specs.Instances.{Setting}
use Rattle.bl_ctree.specs.Positions.{stmt_kind}
use Rattle.bl_ctree.specs.Store.{Frame, Location, Store, home, homes, put, put_path, overlap, put_written, remember, whole_of, with_frame, with_inputs}
use Rattle.bl_eval_laws.specs.Local.{Alike, LeftAlike, at_path, named_by}
use Rattle.bl_eval_laws.proofs.OnLocal.Acting.{named_parts, naming_out, read_parts, reads_out}
use Rattle.bl_ctree_laws.specs.Ends.{BothDone, done_by}
use Rattle.bl_ctree_laws.specs.Pending.{Deed}
use Rattle.bl_ctree_laws_confluence.specs.Stores.{SameThere, before_of, homes_of, now_of}
use Rattle.bl_ctree_laws_confluence.proofs.OnStores.Changes.{puts_commute, puts_keep_others, frames_keep_others}
use Rattle.bl_ctree_laws_confluence.proofs.OnStores.Remembering.{remembering_keeps_others}
use Rattle.bl_ctree_laws_confluence.proofs.OnStores.Views.{outcomes_there_are_local, values_there_are_local}
use Rattle.bl_ctree_laws_confluence.specs.Deeds.Deeds.{AllUntouched, Clear, ClearOf, DeedsAreIndependent, NoHome, NoneOf, Spares, Untouched, effect_frames}
use Rattle.bl_ctree_laws_confluence.specs.Deeds.Deeds.{effect_looks, effect_names, effect_remembers, effect_results, effect_writes, kind_frames, kind_remembers}

-- a value that is put at a home
record Put : Type 0 where
  at : Location
  value : Value

-- a change of one frame
record FrameChange : Type 0 where
  at : ℕ
  change : Frame → Frame

-- what a plan does after its puts
data Last : Type 0 where
  nothing : Last
  changes : FrameChange → Last
  -- what the variable of the instance was before becomes what it is now
  remembering : ℕ → ℕ → Last

record Plan : Type 0 where
  answer : Bool
  puts : List Put
  last : Last

abbrev pub Kind : Type 0
Kind = StmtKind-F StmtKind Arm Branch Stmt

abbrev do_last : Last → Store → Store
do_last nothing store = store
do_last (changes f) store = with_frame f.at f.change store
do_last (remembering i k) store = with_frame i (remember k) store

abbrev do_puts : List Put → Store → Store
do_puts [] store = store
do_puts (p ∷ rest) store = do_puts rest (put p.at p.value store)

-- what stands at the path goes to its home
abbrev put_of : Location → Option Value → List Put → List Put
put_of at None rest = rest
put_of at (Some value) rest = record { at = at; value = value } ∷ rest

abbrev puts_of : Setting → ℕ → List Value → List Static → List Put
puts_of w i values [] = []
puts_of w i values (path ∷ rest) = put_of (home w (record { instance = i; path = path })) (at_path values path) (puts_of w i values rest)

abbrev act_plan : Setting → ℕ → Last → List Static → List Value → Plan
act_plan w i last paths values = record { answer = true; puts = puts_of w i values paths; last = last }

abbrev test_plan : Value → Plan
test_plan value = record { answer = is_true_value value; puts = []; last = nothing }

abbrev nothing_planned : Plan
nothing_planned = record { answer = true; puts = []; last = nothing }

abbrev gives_plan : Setting → ℕ → Option Path → Option Value → Plan
gives_plan w i (Some path) (Some value) =
    record { answer = true; puts = record { at = home w (record { instance = i; path = static_of path }); value = value } ∷ []; last = nothing }
gives_plan w i _ _ = nothing_planned

abbrev change_plan : ℕ → (Frame → Frame) → Plan
change_plan i change = record { answer = true; puts = []; last = changes (record { at = i; change = change }) }

abbrev copies_plan : ℕ → List Value → Plan
copies_plan callee values = change_plan callee (with_inputs values)

abbrev result_plan : ℕ → Value → Plan
result_plan i value = change_plan i (with_result value)

-- what an act does after it has put what it writes
abbrev last_of_kind : ℕ → Kind → Last
last_of_kind i (StmtKind-F.Declare k initial) = remembering i k
last_of_kind i _ = nothing

abbrev kind_planned : Setting → ℕ → Stmt → Kind → Store → Option Plan
kind_planned w i s (StmtKind-F.Return None) store = Some nothing_planned
kind_planned w i s (StmtKind-F.Return (Some e)) store = option_map (result_plan i) (value_there w store i e)
kind_planned w i s layer store = option_map (act_plan w i (last_of_kind i layer) (writes s)) (outcome_there w store i s)

abbrev planned : Setting → ℕ → Effect → Store → Option Plan
planned w i (Asks e) store = option_map test_plan (value_there w store i e)
planned w i (Acts s) store = kind_planned w i s (stmt_kind s) store
planned w i (Copies callee inputs) store = option_map (copies_plan callee) (values_there w store i inputs)
planned w i (Gives callee target) store = Some (gives_plan w i target (result_at store callee))
planned w i _ store = Some nothing_planned

abbrev run_plan : Plan → Store → Store
run_plan plan store = do_last plan.last (do_puts plan.puts store)

abbrev performed : Store → Plan → Performed
performed store plan = record { answer = plan.answer; store = run_plan plan store }

-- ---- a deed does its plan

written_is : (w : Setting) (i : ℕ) (values : List Value) (paths : List Static) (store : Store) →
    put_written w i values paths store ≡ do_puts (puts_of w i values paths) store
written_is w i values [] store = refl
written_is w i values (path ∷ rest) store =
    written_is w i values rest (put_path w i values path store) ∙ by_value (at_path values path)
  where
    by_value : (value : Option Value) →
        do_puts (puts_of w i values rest) (unwrap_or (option_map (λ value. put (home w (record { instance = i; path = path })) value store) value) store)
        ≡ do_puts (put_of (home w (record { instance = i; path = path })) value (puts_of w i values rest)) store
    by_value None = refl
    by_value (Some value) = refl

act_does : (w : Setting) (i : ℕ) (s : Stmt) (store : Store) (o : Option (List Value)) →
    option_map done (option_map (λ values. put_written w i values (writes s) store) o)
    ≡ option_map (performed store) (option_map (act_plan w i nothing (writes s)) o)
act_does w i s store None = refl
act_does w i s store (Some values) = ap (λ store. Some (done store)) (written_is w i values (writes s) store)

declared_does : (w : Setting) (i k : ℕ) (s : Stmt) (store : Store) (o : Option (List Value)) →
    option_map done (option_map (λ values. with_frame i (remember k) (put_written w i values (writes s) store)) o)
    ≡ option_map (performed store) (option_map (act_plan w i (remembering i k) (writes s)) o)
declared_does w i k s store None = refl
declared_does w i k s store (Some values) = ap (λ store. Some (done (with_frame i (remember k) store))) (written_is w i values (writes s) store)

result_does : (i : ℕ) (store : Store) (o : Option Value) →
    option_map done (option_map (λ value. with_frame i (with_result value) store) o) ≡ option_map (performed store) (option_map (result_plan i) o)
result_does i store None = refl
result_does i store (Some value) = refl

kind_does : (w : Setting) (i : ℕ) (s : Stmt) (store : Store) (layer : Kind) →
    option_map done (acted_kind w i s layer store) ≡ option_map (performed store) (kind_planned w i s layer store)
kind_does w i s store (StmtKind-F.Declare k initial) = declared_does w i k s store (outcome_there w store i s)
kind_does w i s store (StmtKind-F.Assign path e) = act_does w i s store (outcome_there w store i s)
kind_does w i s store (StmtKind-F.Call f inputs outputs) = act_does w i s store (outcome_there w store i s)
kind_does w i s store (StmtKind-F.Await e) = act_does w i s store (outcome_there w store i s)
kind_does w i s store (StmtKind-F.Run target a inputs outputs) = act_does w i s store (outcome_there w store i s)
kind_does w i s store (StmtKind-F.If arms other) = act_does w i s store (outcome_there w store i s)
kind_does w i s store (StmtKind-F.Cobegin branches) = act_does w i s store (outcome_there w store i s)
kind_does w i s store (StmtKind-F.When guard e body) = act_does w i s store (outcome_there w store i s)
kind_does w i s store (StmtKind-F.Repeat body) = act_does w i s store (outcome_there w store i s)
kind_does w i s store (StmtKind-F.Until body e) = act_does w i s store (outcome_there w store i s)
kind_does w i s store (StmtKind-F.While e body) = act_does w i s store (outcome_there w store i s)
kind_does w i s store (StmtKind-F.Return None) = refl
kind_does w i s store (StmtKind-F.Return (Some e)) = result_does i store (value_there w store i e)

test_does : (store : Store) (o : Option Value) →
    option_map (λ value. record { answer = is_true_value value; store = store }) o
    ≡ option_map (performed store) (option_map test_plan o)
test_does store None = refl
test_does store (Some value) = refl

gives_does : (w : Setting) (i : ℕ) (target : Option Path) (result : Option Value) (store : Store) →
    given_to w i target result store ≡ run_plan (gives_plan w i target result) store
gives_does w i (Some path) (Some value) store = refl
gives_does w i (Some path) None store = refl
gives_does w i None (Some value) store = refl
gives_does w i None None store = refl

gives_true : (w : Setting) (i : ℕ) (target : Option Path) (result : Option Value) → (gives_plan w i target result).answer ≡ true
gives_true w i (Some path) (Some value) = refl
gives_true w i (Some path) None = refl
gives_true w i None (Some value) = refl
gives_true w i None None = refl

copies_does : (callee : ℕ) (store : Store) (o : Option (List Value)) →
    option_map (λ values. done (with_frame callee (with_inputs values) store)) o ≡ option_map (performed store) (option_map (copies_plan callee) o)
copies_does callee store None = refl
copies_does callee store (Some values) = refl

does : (w : Setting) (i : ℕ) (e : Effect) (store : Store) → effect_on w i e store ≡ option_map (performed store) (planned w i e store)
does w i Silent store = refl
does w i (Acts s) store = kind_does w i s store (stmt_kind s)
does w i (Asks e) store = test_does store (value_there w store i e)
does w i (Copies callee inputs) store = copies_does callee store (values_there w store i inputs)
does w i (Gives callee target) store =
    λ j. Some (record { answer = sym (gives_true w i target (result_at store callee)) j; store = gives_does w i target (result_at store callee) store j })

-- ---- what is the same in two stores

same_itself : (values : Frame → List Value) (ls : List Location) (s : Store) → SameThere values ls s s
same_itself values [] s = tt
same_itself values (at ∷ rest) s = (refl, same_itself values rest s)

same_then : (values : Frame → List Value) (ls : List Location) (s t u : Store) → SameThere values ls s t → SameThere values ls t u →
    SameThere values ls s u
same_then values [] s t u one other = tt
same_then values (at ∷ rest) s t u one other = (one.0 ∙ other.0, same_then values rest s t u one.1 other.1)

-- the homes at which values are put
abbrev places : List Put → List Location
places ps = map (λ p. p.at) ps

put_same : (p : Put) (ls : List Location) (s : Store) → ClearOf p.at ls → SameThere now_of ls (put p.at p.value s) s
put_same p [] s clear = tt
put_same p (at ∷ rest) s clear = (puts_keep_others.now p.at at p.value s clear.0, put_same p rest s clear.1)

put_before : (p : Put) (ls : List Location) (s : Store) → SameThere before_of ls (put p.at p.value s) s
put_before p [] s = tt
put_before p (at ∷ rest) s = (puts_keep_others.before p.at at p.value s, put_before p rest s)

puts_same : (ps : List Put) (ls : List Location) (s : Store) → Clear (places ps) ls → SameThere now_of ls (do_puts ps s) s
puts_same [] ls s clear = same_itself now_of ls s
puts_same (p ∷ rest) ls s clear =
    same_then now_of ls (do_puts rest (put p.at p.value s)) (put p.at p.value s) s (puts_same rest ls (put p.at p.value s) clear.1) (put_same p ls s clear.0)

puts_before : (ps : List Put) (ls : List Location) (s : Store) → SameThere before_of ls (do_puts ps s) s
puts_before [] ls s = same_itself before_of ls s
puts_before (p ∷ rest) ls s =
    same_then before_of ls (do_puts rest (put p.at p.value s)) (put p.at p.value s) s (puts_before rest ls (put p.at p.value s)) (put_before p ls s)

results_stay : (ps : List Put) (s : Store) (i : ℕ) → result_at (do_puts ps s) i ≡ result_at s i
results_stay [] s i = refl
results_stay (p ∷ rest) s i = results_stay rest (put p.at p.value s) i ∙ puts_keep_others.results p.at p.value s i

-- ---- plans look at what deeds look at

puts_alike : (w : Setting) (i : ℕ) (paths : List Static) (xs ys : List Value) → Alike paths xs ys → puts_of w i xs paths ≡ puts_of w i ys paths
puts_alike w i [] xs ys same = refl
puts_alike w i (path ∷ rest) xs ys same = λ j. put_of (home w (record { instance = i; path = path })) (same.0 j) (puts_alike w i rest xs ys same.1 j)

abbrev with_puts : Last → List Put → Option Plan
with_puts last puts = Some (record { answer = true; puts = puts; last = last })

outcomes_alike : (w : Setting) (i : ℕ) (last : Last) (paths : List Static) (o o' : Option (List Value)) → LeftAlike paths o o' →
    option_map (act_plan w i last paths) o ≡ option_map (act_plan w i last paths) o'
outcomes_alike w i last paths None None left = refl
outcomes_alike w i last paths None (Some ys) left = elim left [ ]
outcomes_alike w i last paths (Some xs) None left = elim left [ ]
outcomes_alike w i last paths (Some xs) (Some ys) left = ap (with_puts last) (puts_alike w i paths xs ys left)

same_in : (values : Frame → List Value) (w : Setting) (i : ℕ) (paths : List Static) (path : Static) (s t : Store) → In path paths →
    SameThere values (homes w i paths) s t → SameThere values (homes w i (path ∷ [])) s t
same_in values w i [] path s t m same = elim m [ ]
same_in values w i (one ∷ paths) path s t (inl is) same = subst (λ path. SameThere values (homes w i (path ∷ [])) s t) (sym is) (same.0, tt)
same_in values w i (one ∷ paths) path s t (inr m) same = same_in values w i paths path s t m same.1

same_each : (values : Frame → List Value) (w : Setting) (i : ℕ) (paths : List Static) (s t : Store) →
    ((path : Static) → In path paths → SameThere values (homes w i (path ∷ [])) s t) → SameThere values (homes w i paths) s t
same_each values w i [] s t each = tt
same_each values w i (path ∷ paths) s t each = ((each path (inl refl)).0, same_each values w i paths s t (λ one m. each one (inr m)))

same_list : (values : Frame → List Value) (w : Setting) (i : ℕ) (paths : List Static) (s t : Store) → SameThere values (homes w i (set_of paths)) s t →
    SameThere values (homes w i paths) s t
same_list values w i paths s t same = same_each values w i paths s t (λ path m. same_in values w i (set_of paths) path s t (set_in path paths m) same)

homes_first : (values : Frame → List Value) (w : Setting) (i : ℕ) (one rest : List Static) (s t : Store) →
    SameThere values (homes w i (one ++ rest)) s t → SameThere values (homes w i one) s t
homes_first values w i [] rest s t same = tt
homes_first values w i (path ∷ one) rest s t same = (same.0, homes_first values w i one rest s t same.1)

homes_second : (values : Frame → List Value) (w : Setting) (i : ℕ) (one rest : List Static) (s t : Store) →
    SameThere values (homes w i (one ++ rest)) s t → SameThere values (homes w i rest) s t
homes_second values w i [] rest s t same = same
homes_second values w i (path ∷ one) rest s t same = homes_second values w i one rest s t same.1

names_first : (values : Frame → List Value) (w : Setting) (i : ℕ) (one rest : List ℕ) (s t : Store) →
    SameThere values (homes_of w i (one ++ rest)) s t → SameThere values (homes_of w i one) s t
names_first values w i [] rest s t same = tt
names_first values w i (k ∷ one) rest s t same = (same.0, names_first values w i one rest s t same.1)

names_second : (values : Frame → List Value) (w : Setting) (i : ℕ) (one rest : List ℕ) (s t : Store) →
    SameThere values (homes_of w i (one ++ rest)) s t → SameThere values (homes_of w i rest) s t
names_second values w i [] rest s t same = same
names_second values w i (k ∷ one) rest s t same = names_second values w i one rest s t same.1

inputs_alike : (w : Setting) (i : ℕ) (s t : Store) (inputs : List Expr) → SameThere now_of (homes w i (joined (map mentions inputs))) s t →
    SameThere before_of (homes_of w i (joined (map roots_in inputs))) s t → values_there w s i inputs ≡ values_there w t i inputs
inputs_alike w i s t [] same near = refl
inputs_alike w i s t (e ∷ rest) same near =
    let one = values_there_are_local w s t i e (homes_first now_of w i (mentions e) (joined (map mentions rest)) s t same)
    (names_first before_of w i (roots_in e) (joined (map roots_in rest)) s t near) in
    let others = inputs_alike w i s t rest (homes_second now_of w i (mentions e) (joined (map mentions rest)) s t same)
    (names_second before_of w i (roots_in e) (joined (map roots_in rest)) s t near) in
    λ j. option_and_then (λ value. option_map (λ values. value ∷ values) (others j)) (one j)

-- the results of these instances are the same
abbrev SameResults : List ℕ → Store → Store → Type 0
SameResults [] s t = ⊤
SameResults (i ∷ rest) s t = (result_at s i ≡ result_at t i) × SameResults rest s t

-- a `return` reads what its expression mentions, and names what that names
returned_same : (w : Setting) (i : ℕ) (s t : Store) (act : Stmt) (e : Expr) → stmt_kind act ≡ StmtKind-F.Return (Some e) →
    SameThere now_of (homes w i (reads act)) s t → SameThere now_of (homes w i (mentions e)) s t
returned_same w i s t act e is same =
    same_list now_of w i (mentions e) s t
    (subst (λ paths. SameThere now_of (homes w i paths) s t) (reads_out act ∙ ap (λ layer. set_of (kind_reads (read_parts layer))) is) same)

returned_near : (w : Setting) (i : ℕ) (s t : Store) (act : Stmt) (e : Expr) → stmt_kind act ≡ StmtKind-F.Return (Some e) →
    SameThere before_of (homes_of w i (named_by act)) s t → SameThere before_of (homes_of w i (roots_in e)) s t
returned_near w i s t act e is near =
    subst (λ naming. SameThere before_of (homes_of w i naming.named) s t) (naming_out act ∙ ap (λ layer. stmt_kind_naming (named_parts layer)) is) near

act_same : (w : Setting) (i : ℕ) (act : Stmt) (s t : Store) → SameThere now_of (homes w i (reads act ++ writes act)) s t →
    SameThere before_of (homes_of w i (named_by act)) s t → (last : Last) →
    option_map (act_plan w i last (writes act)) (outcome_there w s i act) ≡ option_map (act_plan w i last (writes act)) (outcome_there w t i act)
act_same w i act s t same near last =
    outcomes_alike w i last (writes act) (outcome_there w s i act) (outcome_there w t i act) (outcomes_there_are_local w s t i act same near)

kind_same : (w : Setting) (i : ℕ) (act : Stmt) (s t : Store) → SameThere now_of (homes w i (reads act ++ writes act)) s t →
    SameThere before_of (homes_of w i (named_by act)) s t → (layer : Kind) → stmt_kind act ≡ layer →
    kind_planned w i act layer s ≡ kind_planned w i act layer t
kind_same w i act s t same near (StmtKind-F.Declare k initial) is = act_same w i act s t same near (remembering i k)
kind_same w i act s t same near (StmtKind-F.Assign path e) is = act_same w i act s t same near nothing
kind_same w i act s t same near (StmtKind-F.Call f inputs outputs) is = act_same w i act s t same near nothing
kind_same w i act s t same near (StmtKind-F.Await e) is = act_same w i act s t same near nothing
kind_same w i act s t same near (StmtKind-F.Run target a inputs outputs) is = act_same w i act s t same near nothing
kind_same w i act s t same near (StmtKind-F.If arms other) is = act_same w i act s t same near nothing
kind_same w i act s t same near (StmtKind-F.Cobegin branches) is = act_same w i act s t same near nothing
kind_same w i act s t same near (StmtKind-F.When guard e body) is = act_same w i act s t same near nothing
kind_same w i act s t same near (StmtKind-F.Repeat body) is = act_same w i act s t same near nothing
kind_same w i act s t same near (StmtKind-F.Until body e) is = act_same w i act s t same near nothing
kind_same w i act s t same near (StmtKind-F.While e body) is = act_same w i act s t same near nothing
kind_same w i act s t same near (StmtKind-F.Return None) is = refl
kind_same w i act s t same near (StmtKind-F.Return (Some e)) is =
    ap (option_map (result_plan i))
    (values_there_are_local w s t i e (returned_same w i s t act e is (homes_first now_of w i (reads act) (writes act) s t same))
    (returned_near w i s t act e is near))

-- a deed has one plan in two stores that are the same where it looks
plan_same : (w : Setting) (i : ℕ) (e : Effect) (s t : Store) → SameThere now_of (effect_looks w i e) s t →
    SameThere before_of (effect_names w i e) s t →
    SameResults (effect_results e) s t → planned w i e s ≡ planned w i e t
plan_same w i Silent s t same near results = refl
plan_same w i (Acts act) s t same near results = kind_same w i act s t same near (stmt_kind act) refl
plan_same w i (Asks e) s t same near results = ap (option_map test_plan) (values_there_are_local w s t i e same near)
plan_same w i (Copies callee inputs) s t same near results = ap (option_map (copies_plan callee)) (inputs_alike w i s t inputs same near)
plan_same w i (Gives callee target) s t same near results = ap (λ result. Some (gives_plan w i target result)) results.0

all_results_stay : (ps : List Put) (s : Store) (is : List ℕ) → SameResults is (do_puts ps s) s
all_results_stay ps s [] = tt
all_results_stay ps s (i ∷ rest) = (results_stay ps s i, all_results_stay ps s rest)

-- nor does a frame change that touches nothing of it
frame_same : (values : Frame → List Value) (f : FrameChange) (ls : List Location) (s : Store) → NoHome f.at ls →
    SameThere values ls (with_frame f.at f.change s) s
frame_same values f [] s clear = tt
frame_same values f (at ∷ rest) s clear = (frames_keep_others.values values f.at f.change at s clear.0, frame_same values f rest s clear.1)

frame_results : (f : FrameChange) (is : List ℕ) (s : Store) → NoneOf f.at is → SameResults is (with_frame f.at f.change s) s
frame_results f [] s clear = tt
frame_results f (i ∷ rest) s clear = (frames_keep_others.results f.at i f.change s clear.0, frame_results f rest s clear.1)

-- nor does it where what a variable was before changes that the deed doesn't name
remembering_now : (i k : ℕ) (ls : List Location) (s : Store) → SameThere now_of ls (with_frame i (remember k) s) s
remembering_now i k [] s = tt
remembering_now i k (at ∷ rest) s = (remembering_keeps_others.now i k at s, remembering_now i k rest s)

remembering_before : (i k : ℕ) (ls : List Location) (s : Store) → ClearOf (whole_of i k) ls → SameThere before_of ls (with_frame i (remember k) s) s
remembering_before i k [] s clear = tt
remembering_before i k (at ∷ rest) s clear = (remembering_keeps_others.before i k at s clear.0, remembering_before i k rest s clear.1)

remembering_results : (i k : ℕ) (is : List ℕ) (s : Store) → SameResults is (with_frame i (remember k) s) s
remembering_results i k [] s = tt
remembering_results i k (j ∷ rest) s = (remembering_keeps_others.results i k j s, remembering_results i k rest s)

-- the end of a plan changes nothing that the deed looks at
abbrev LastUntouched : Setting → ℕ → Effect → Last → Type 0
LastUntouched w i e nothing = ⊤
LastUntouched w i e (changes f) = Untouched w i e f.at
LastUntouched w i e (remembering j k) = ClearOf (whole_of j k) (effect_names w i e)

last_stays : (w : Setting) (i : ℕ) (e : Effect) (last : Last) (s : Store) → LastUntouched w i e last → planned w i e (do_last last s) ≡ planned w i e s
last_stays w i e nothing s clear = refl
last_stays w i e (changes f) s clear =
    plan_same w i e (with_frame f.at f.change s) s (frame_same now_of f (effect_looks w i e) s clear.looks)
    (frame_same before_of f (effect_names w i e) s clear.names) (frame_results f (effect_results e) s clear.results)
last_stays w i e (remembering j k) s clear =
    plan_same w i e (with_frame j (remember k) s) s (remembering_now j k (effect_looks w i e) s) (remembering_before j k (effect_names w i e) s clear)
    (remembering_results j k (effect_results e) s)

-- after a plan that touches nothing that it looks at a deed has the plan that it had before
plan_stays : (w : Setting) (i : ℕ) (e : Effect) (plan : Plan) (s : Store) → Clear (places plan.puts) (effect_looks w i e) →
    LastUntouched w i e plan.last →
    planned w i e (run_plan plan s) ≡ planned w i e s
plan_stays w i e plan s clear last =
    last_stays w i e plan.last (do_puts plan.puts s) last
    ∙ plan_same w i e (do_puts plan.puts s) s (puts_same plan.puts (effect_looks w i e) s clear) (puts_before plan.puts (effect_names w i e) s)
    (all_results_stay plan.puts s (effect_results e))

-- ---- plans write what deeds write

-- the one list is the other, some of whose homes are left out
data Part : List Location → List Location → Type 0 where
  no_part : {ls : List Location} → Part [] ls
  left_out : {xs : List Location} {at : Location} {ls : List Location} → Part xs ls → Part xs (at ∷ ls)
  kept : {xs : List Location} {at : Location} {ls : List Location} → Part xs ls → Part (at ∷ xs) (at ∷ ls)

part_itself : (ls : List Location) → Part ls ls
part_itself [] = no_part
part_itself (at ∷ ls) = kept (part_itself ls)

part_clear : {xs ls : List Location} (others : List Location) → Part xs ls → Clear ls others → Clear xs others
part_clear others no_part clear = tt
part_clear others (left_out part) clear = part_clear others part clear.1
part_clear others (kept part) clear = (clear.0, part_clear others part clear.1)

part_clear_of : {xs ls : List Location} (at : Location) → Part xs ls → ClearOf at ls → ClearOf at xs
part_clear_of at no_part clear = tt
part_clear_of at (left_out part) clear = part_clear_of at part clear.1
part_clear_of at (kept part) clear = (clear.0, part_clear_of at part clear.1)

part_of_each : {xs ls : List Location} (others : List Location) → Part xs ls → Clear others ls → Clear others xs
part_of_each [] part clear = tt
part_of_each (at ∷ others) part clear = (part_clear_of at part clear.0, part_of_each others part clear.1)

part_no_home : {xs ls : List Location} (i : ℕ) → Part xs ls → NoHome i ls → NoHome i xs
part_no_home i no_part clear = tt
part_no_home i (left_out part) clear = part_no_home i part clear.1
part_no_home i (kept part) clear = (clear.0, part_no_home i part clear.1)

second_part : (w : Setting) (i : ℕ) (one rest : List Static) → Part (homes w i rest) (homes w i (one ++ rest))
second_part w i [] rest = part_itself (homes w i rest)
second_part w i (path ∷ one) rest = left_out (second_part w i one rest)

-- what a deed writes it looks at
writes_are_looks : (w : Setting) (i : ℕ) (e : Effect) → Part (effect_writes w i e) (effect_looks w i e)
writes_are_looks w i Silent = no_part
writes_are_looks w i (Acts s) = second_part w i (reads s) (writes s)
writes_are_looks w i (Asks e) = no_part
writes_are_looks w i (Copies callee inputs) = no_part
writes_are_looks w i (Gives callee target) = part_itself (homes w i (target_static target))

-- the end of a plan is of the frames, or of the homes whose values before are changed
abbrev LastOf : List ℕ → List Location → Last → Type 0
LastOf frames remembered nothing = ⊤
LastOf frames remembered (changes f) = frames ≡ f.at ∷ []
LastOf frames remembered (remembering i k) = remembered ≡ whole_of i k ∷ []

-- a plan does what is said of its deed
record PlanFits (w : Setting) (i : ℕ) (e : Effect) (plan : Plan) : Type 0 where
  puts_fit : Part (places plan.puts) (effect_writes w i e)
  last_fits : LastOf (effect_frames i e) (effect_remembers i e) plan.last

some_plan : (a b : Plan) → Some a ≡ Some b → a ≡ b
some_plan a b e = cc

puts_are_part : (w : Setting) (i : ℕ) (values : List Value) (paths : List Static) → Part (places (puts_of w i values paths)) (homes w i paths)
puts_are_part w i values [] = no_part
puts_are_part w i values (path ∷ rest) = by_value (at_path values path) (puts_are_part w i values rest)
  where
    by_value : (value : Option Value) → Part (places (puts_of w i values rest)) (homes w i rest) →
        Part (places (put_of (home w (record { instance = i; path = path })) value (puts_of w i values rest))) (homes w i (path ∷ rest))
    by_value None others = left_out others
    by_value (Some value) others = kept others

-- the plan of an act by its kind
record KindFits (w : Setting) (i : ℕ) (s : Stmt) (layer : Kind) (plan : Plan) : Type 0 where
  puts_fit : Part (places plan.puts) (homes w i (writes s))
  last_fits : LastOf (kind_frames i layer) (kind_remembers i layer) plan.last

module _ (w : Setting) (i : ℕ) (s : Stmt) (plan : Plan) where
  act_fits : (layer : Kind) (last : Last) (o : Option (List Value)) → LastOf (kind_frames i layer) (kind_remembers i layer) last →
      option_map (act_plan w i last (writes s)) o ≡ Some plan → KindFits w i s layer plan
  act_fits layer last None fits e = absurd cc
  act_fits layer last (Some values) fits e =
      subst (KindFits w i s layer) (some_plan (act_plan w i last (writes s) values) plan e)
      (record { puts_fit = puts_are_part w i values (writes s); last_fits = fits })

  result_fits : (e : Expr) (o : Option Value) → option_map (result_plan i) o ≡ Some plan → KindFits w i s (StmtKind-F.Return (Some e)) plan
  result_fits e None is = absurd cc
  result_fits e (Some value) is =
      subst (KindFits w i s (StmtKind-F.Return (Some e))) (some_plan (result_plan i value) plan is) (record { puts_fit = no_part; last_fits = refl })

  kind_fits : (store : Store) (layer : Kind) → kind_planned w i s layer store ≡ Some plan → KindFits w i s layer plan
  kind_fits store (StmtKind-F.Declare k initial) e = act_fits (StmtKind-F.Declare k initial) (remembering i k) (outcome_there w store i s) refl e
  kind_fits store (StmtKind-F.Assign path e) is = act_fits (StmtKind-F.Assign path e) nothing (outcome_there w store i s) tt is
  kind_fits store (StmtKind-F.Call f inputs outputs) is = act_fits (StmtKind-F.Call f inputs outputs) nothing (outcome_there w store i s) tt is
  kind_fits store (StmtKind-F.Await e) is = act_fits (StmtKind-F.Await e) nothing (outcome_there w store i s) tt is
  kind_fits store (StmtKind-F.Run target a inputs outputs) is = act_fits (StmtKind-F.Run target a inputs outputs) nothing (outcome_there w store i s) tt is
  kind_fits store (StmtKind-F.If arms other) is = act_fits (StmtKind-F.If arms other) nothing (outcome_there w store i s) tt is
  kind_fits store (StmtKind-F.Cobegin branches) is = act_fits (StmtKind-F.Cobegin branches) nothing (outcome_there w store i s) tt is
  kind_fits store (StmtKind-F.When guard e body) is = act_fits (StmtKind-F.When guard e body) nothing (outcome_there w store i s) tt is
  kind_fits store (StmtKind-F.Repeat body) is = act_fits (StmtKind-F.Repeat body) nothing (outcome_there w store i s) tt is
  kind_fits store (StmtKind-F.Until body e) is = act_fits (StmtKind-F.Until body e) nothing (outcome_there w store i s) tt is
  kind_fits store (StmtKind-F.While e body) is = act_fits (StmtKind-F.While e body) nothing (outcome_there w store i s) tt is
  kind_fits store (StmtKind-F.Return None) is =
      subst (KindFits w i s (StmtKind-F.Return None)) (some_plan nothing_planned plan is) (record { puts_fit = no_part; last_fits = tt })
  kind_fits store (StmtKind-F.Return (Some e)) is = result_fits e (value_there w store i e) is

plan_fits : (w : Setting) (i : ℕ) (e : Effect) (store : Store) (plan : Plan) → planned w i e store ≡ Some plan → PlanFits w i e plan
plan_fits w i Silent store plan is =
    subst (PlanFits w i Silent) (some_plan nothing_planned plan is) (record { puts_fit = no_part; last_fits = tt })
plan_fits w i (Acts s) store plan is =
    let fits = kind_fits w i s plan store (stmt_kind s) is in
    record { puts_fit = fits.puts_fit; last_fits = fits.last_fits }
plan_fits w i (Asks e) store plan is = by_value (value_there w store i e) is
  where
    by_value : (o : Option Value) → option_map test_plan o ≡ Some plan → PlanFits w i (Asks e) plan
    by_value None is = absurd cc
    by_value (Some value) is = subst (PlanFits w i (Asks e)) (some_plan (test_plan value) plan is) (record { puts_fit = no_part; last_fits = tt })
plan_fits w i (Copies callee inputs) store plan is = by_values (values_there w store i inputs) is
  where
    by_values : (o : Option (List Value)) → option_map (copies_plan callee) o ≡ Some plan → PlanFits w i (Copies callee inputs) plan
    by_values None is = absurd cc
    by_values (Some values) is =
        subst (PlanFits w i (Copies callee inputs)) (some_plan (copies_plan callee values) plan is) (record { puts_fit = no_part; last_fits = refl })
plan_fits w i (Gives callee target) store plan is =
    subst (PlanFits w i (Gives callee target)) (some_plan (gives_plan w i target (result_at store callee)) plan is) (by_result target (result_at store callee))
  where
    by_result : (target : Option Path) (result : Option Value) → PlanFits w i (Gives callee target) (gives_plan w i target result)
    by_result (Some path) (Some value) = record { puts_fit = kept no_part; last_fits = tt }
    by_result (Some path) None = record { puts_fit = no_part; last_fits = tt }
    by_result None (Some value) = record { puts_fit = no_part; last_fits = tt }
    by_result None None = record { puts_fit = no_part; last_fits = tt }

-- ---- two plans

frame_past_puts : (f : FrameChange) (qs : List Put) (s : Store) → NoHome f.at (places qs) →
    with_frame f.at f.change (do_puts qs s) ≡ do_puts qs (with_frame f.at f.change s)
frame_past_puts f [] s clear = refl
frame_past_puts f (q ∷ qs) s clear =
    frame_past_puts f qs (put q.at q.value s) clear.1 ∙ ap (do_puts qs) (frames_keep_others.puts f.at f.change q.at q.value s clear.0)

remembering_past_puts : (i k : ℕ) (qs : List Put) (s : Store) → Clear (places qs) (whole_of i k ∷ []) →
    with_frame i (remember k) (do_puts qs s) ≡ do_puts qs (with_frame i (remember k) s)
remembering_past_puts i k [] s clear = refl
remembering_past_puts i k (q ∷ qs) s clear =
    remembering_past_puts i k qs (put q.at q.value s) clear.1 ∙ ap (do_puts qs) (remembering_keeps_others.puts i k q.at q.value s clear.0.0)

-- the ends of two plans touch nothing of each other
abbrev LastsApart : Last → Last → Type 0
LastsApart nothing other = ⊤
LastsApart (changes f) nothing = ⊤
LastsApart (changes f) (changes g) = nat_eq f.at g.at ≡ false
LastsApart (changes f) (remembering j l) = nat_eq f.at j ≡ false
LastsApart (remembering i k) nothing = ⊤
LastsApart (remembering i k) (changes g) = nat_eq g.at i ≡ false
LastsApart (remembering i k) (remembering j l) = overlap (whole_of i k) (whole_of j l) ≡ false

-- nor does the one touch these homes
abbrev LastClear : Last → List Location → Type 0
LastClear nothing ls = ⊤
LastClear (changes f) ls = NoHome f.at ls
LastClear (remembering i k) ls = Clear ls (whole_of i k ∷ [])

last_past_puts : (last : Last) (qs : List Put) (s : Store) → LastClear last (places qs) → do_last last (do_puts qs s) ≡ do_puts qs (do_last last s)
last_past_puts nothing qs s clear = refl
last_past_puts (changes f) qs s clear = frame_past_puts f qs s clear
last_past_puts (remembering i k) qs s clear = remembering_past_puts i k qs s clear

lasts_past : (last other : Last) (s : Store) → LastsApart last other → do_last last (do_last other s) ≡ do_last other (do_last last s)
lasts_past nothing other s apart = refl
lasts_past (changes f) nothing s apart = refl
lasts_past (changes f) (changes g) s apart = frames_keep_others.frames f.at g.at f.change g.change s apart
lasts_past (changes f) (remembering j l) s apart = frames_keep_others.frames f.at j f.change (remember l) s apart
lasts_past (remembering i k) nothing s apart = refl
lasts_past (remembering i k) (changes g) s apart = sym (frames_keep_others.frames g.at i g.change (remember k) s apart)
lasts_past (remembering i k) (remembering j l) s apart = remembering_keeps_others.order i k j l s apart

put_past : (p : Put) (qs : List Put) (s : Store) → ClearOf p.at (places qs) → put p.at p.value (do_puts qs s) ≡ do_puts qs (put p.at p.value s)
put_past p [] s clear = refl
put_past p (q ∷ qs) s clear =
    put_past p qs (put q.at q.value s) clear.1 ∙ ap (do_puts qs) (puts_commute p.at q.at p.value q.value s clear.0)

puts_past : (ps qs : List Put) (s : Store) → Clear (places ps) (places qs) → do_puts ps (do_puts qs s) ≡ do_puts qs (do_puts ps s)
puts_past [] qs s clear = refl
puts_past (p ∷ ps) qs s clear = ap (do_puts ps) (put_past p qs s clear.0) ∙ puts_past ps qs (put p.at p.value s) clear.1

plans_past : (plan other : Plan) (s : Store) → Clear (places plan.puts) (places other.puts) → LastClear plan.last (places other.puts) →
    LastClear other.last (places plan.puts) → LastsApart plan.last other.last → run_plan plan (run_plan other s) ≡ run_plan other (run_plan plan s)
plans_past plan other s clear last last' apart =
    ap (do_last plan.last) (sym (last_past_puts other.last plan.puts (do_puts other.puts s) last'))
    ∙ lasts_past plan.last other.last (do_puts plan.puts (do_puts other.puts s)) apart
    ∙ ap (λ s. do_last other.last (do_last plan.last s)) (puts_past plan.puts other.puts s clear)
    ∙ ap (do_last other.last) (last_past_puts plan.last other.puts (do_puts plan.puts s) last)

-- ---- two deeds, one of which changes nothing that the other looks at

module _ (w : Setting) (a b : Deed) (spares : Spares w a b) where
  last_untouched : (last : Last) → LastOf (effect_frames a.instance a.effect) (effect_remembers a.instance a.effect) last →
      LastUntouched w b.instance b.effect last
  last_untouched nothing fits = tt
  last_untouched (changes f) fits = (subst (AllUntouched w b.instance b.effect) fits spares.frames).0
  last_untouched (remembering i k) fits = (subst (λ ls. Clear ls (effect_names w b.instance b.effect)) fits spares.names).0

  -- the end of the one is past the puts of the other
  last_clear : Spares w b a → (last : Last) → LastOf (effect_frames a.instance a.effect) (effect_remembers a.instance a.effect) last →
      (ls : List Location) →
      Part ls (effect_writes w b.instance b.effect) → LastClear last ls
  last_clear other nothing fits ls part = tt
  last_clear other (changes f) fits ls part =
      part_no_home f.at part
      (part_no_home f.at (writes_are_looks w b.instance b.effect) (subst (AllUntouched w b.instance b.effect) fits spares.frames).0.looks)
  last_clear other (remembering i k) fits ls part =
      part_clear (whole_of i k ∷ []) part (subst (Clear (effect_writes w b.instance b.effect)) fits other.remembers)

  lasts_apart : Spares w b a → (last last' : Last) → LastOf (effect_frames a.instance a.effect) (effect_remembers a.instance a.effect) last →
      LastOf (effect_frames b.instance b.effect) (effect_remembers b.instance b.effect) last' → LastsApart last last'
  lasts_apart other nothing last' fits fits' = tt
  lasts_apart other (changes f) nothing fits fits' = tt
  lasts_apart other (changes f) (changes g) fits fits' =
      (subst (NoneOf f.at) fits' (subst (AllUntouched w b.instance b.effect) fits spares.frames).0.frames).0
  lasts_apart other (changes f) (remembering j l) fits fits' =
      (subst (NoHome f.at) fits' (subst (AllUntouched w b.instance b.effect) fits spares.frames).0.remembers).0
  lasts_apart other (remembering i k) nothing fits fits' = tt
  lasts_apart other (remembering i k) (changes g) fits fits' =
      (subst (NoHome g.at) fits (subst (AllUntouched w a.instance a.effect) fits' other.frames).0.remembers).0
  lasts_apart other (remembering i k) (remembering j l) fits fits' =
      (subst (λ ls. Clear ls (whole_of j l ∷ [])) fits (subst (Clear (effect_remembers a.instance a.effect)) fits' spares.befores)).0.0

-- what a deed that does something had planned
record Done (store : Store) (plan : Option Plan) (x : Performed) : Type 0 where
  plan_done : Plan
  is : plan ≡ Some plan_done
  does : x ≡ performed store plan_done

some_performed : (a b : Performed) → Some a ≡ Some b → b ≡ a
some_performed a b e = cc

done_as : (store : Store) (plan : Option Plan) (x : Performed) → option_map (performed store) plan ≡ Some x → Done store plan x
done_as store None x e = absurd cc
done_as store (Some plan) x e = record { plan_done = plan; is = refl; does = some_performed (performed store plan) x e }

none_planned : (store : Store) (plan : Option Plan) → option_map (performed store) plan ≡ None → plan ≡ None
none_planned store None e = refl
none_planned store (Some plan) e = absurd cc

module _ (w : Setting) (a b : Deed) (spares : Spares w a b) where
  -- b after a has its plan still
  second_plan : (store : Store) (x : Performed) → done_by w a store ≡ Some x →
      planned w b.instance b.effect x.store ≡ planned w b.instance b.effect store
  second_plan store x e =
      let d = done_as store (planned w a.instance a.effect store) x (sym (does w a.instance a.effect store) ∙ e) in
      let fits = plan_fits w a.instance a.effect store d.plan_done d.is in
      ap (λ p. planned w b.instance b.effect p.store) d.does
      ∙ plan_stays w b.instance b.effect d.plan_done store (part_clear (effect_looks w b.instance b.effect) fits.puts_fit spares.looks)
      (last_untouched w a b spares d.plan_done.last fits.last_fits)

  second_does : (store : Store) (x : Performed) (plan : Plan) → done_by w a store ≡ Some x → planned w b.instance b.effect store ≡ Some plan →
      done_by w b x.store ≡ Some (performed x.store plan)
  second_does store x plan e is = does w b.instance b.effect x.store ∙ ap (option_map (performed x.store)) (second_plan store x e ∙ is)

  trap_stays : (store : Store) (x : Performed) → done_by w b store ≡ None → done_by w a store ≡ Some x → done_by w b x.store ≡ None
  trap_stays store x trap e =
      does w b.instance b.effect x.store
      ∙ ap (option_map (performed x.store)) (second_plan store x e
      ∙ none_planned store (planned w b.instance b.effect store) (sym (does w b.instance b.effect store) ∙ trap))

-- both orders leave one store
in_both : (w : Setting) (a b : Deed) (store : Store) (x y : Performed) (plan plan' : Plan) → x ≡ performed store plan → y ≡ performed store plan' →
    done_by w b x.store ≡ Some (performed x.store plan') → done_by w a y.store ≡ Some (performed y.store plan) →
    run_plan plan (run_plan plan' store) ≡ run_plan plan' (run_plan plan store) → BothDone w a b x y
in_both w a b store x y plan plan' is is' second first past = record {
  store = run_plan plan' (run_plan plan store);
  second =
      second
      ∙ (λ i. Some (record { answer = (sym is' i).answer; store = run_plan plan' (is i).store }));
  first =
      first
      ∙ (λ i. Some (record { answer = (sym is i).answer; store = run_plan plan (is' i).store }))
      ∙ ap (λ store. Some (record { answer = x.answer; store = store })) past;
}

both_past : (w : Setting) (a b : Deed) → Spares w a b → Spares w b a → (store : Store) (plan plan' : Plan) →
    planned w a.instance a.effect store ≡ Some plan → planned w b.instance b.effect store ≡ Some plan' →
    run_plan plan (run_plan plan' store) ≡ run_plan plan' (run_plan plan store)
both_past w a b spares other store plan plan' is is' =
    let fits = plan_fits w a.instance a.effect store plan is in
    let fits' = plan_fits w b.instance b.effect store plan' is' in
    plans_past plan plan' store
    (part_clear (places plan'.puts) fits.puts_fit
    (part_of_each (effect_writes w a.instance a.effect) fits'.puts_fit
    (part_of_each (effect_writes w a.instance a.effect) (writes_are_looks w b.instance b.effect) spares.looks)))
    (last_clear w a b spares other plan.last fits.last_fits (places plan'.puts) fits'.puts_fit)
    (last_clear w b a other spares plan'.last fits'.last_fits (places plan.puts) fits.puts_fit)
    (lasts_apart w a b spares other plan.last plan'.last fits.last_fits fits'.last_fits)

pub deeds_are_independent_so : DeedsAreIndependent
deeds_are_independent_so w a b spares other = record {
  both = λ store x y e f.
      let d = done_as store (planned w a.instance a.effect store) x (sym (does w a.instance a.effect store) ∙ e) in
      let g = done_as store (planned w b.instance b.effect store) y (sym (does w b.instance b.effect store) ∙ f) in
      in_both w a b store x y d.plan_done g.plan_done d.does g.does (second_does w a b spares store x g.plan_done e g.is)
      (second_does w b a other store y d.plan_done f d.is) (both_past w a b spares other store d.plan_done g.plan_done d.is g.is);
  traps = λ store y trap f. trap_stays w b a other store y trap f;
  trap_stays = λ store x trap e. trap_stays w a b spares store x trap e;
}
