-- One step of each loop over expressions, paths and statements.
use Rattle.std.proofs.Common.{◌≡◌, ℕ, suc, zero, ◌+◌, ◌-◌, ◌<◌, ◌≤◌, Bool, true, false, List, [], ◌∷◌, ◌++◌, length, get_or, map, drop, arith, Option, Some}
use Rattle.std.proofs.Common.{None, refl, sym, ap, ◌∙◌, add-one, drop-cons, append_assoc}
use Rattle.std.specs.Prelude.{option_and_then, option_map, if◌then◌else◌}
use Rattle.bl_tree.specs.declared.value.Value.{Value}
use Rattle.bl_eval.specs.declared.datum.Datum.{Datum}
use Rattle.bl_eval.specs.declared.datum.Target.{Target}
use Rattle.bl_eval.specs.declared.evaluation.Flow.{Flow as Ended}
use Rattle.bl_eval.specs.declared.evaluation.Flow.TheVariants as Ending
use Rattle.bl_eval.specs.Changes.{ended, targets_of}
use Rattle.bl_eval.specs.Functions.{Flow, GuardedBlock, StmtMeaning, first_true_choice, flow_then, in_order, looped, most_turns}
use Rattle.bl_eval.specs.Meaning.{Meaning, PathMeaning, PathPosition, View, plain, positions_of, values_of}

pub put_behind : {A : Type 0} (made : List A) (x : A) (rest : Option (List A))
    → option_map (λ xs. (made ++ x ∷ []) ++ xs) rest ≡ option_map (λ xs. made ++ xs) (option_map (λ xs. x ∷ xs) rest)
put_behind made x None = refl
put_behind made x (Some xs) = ap Some (append_assoc made (x ∷ []) xs)

-- ---- values of expressions

module _ {E : Type 0} (means : E → Meaning) (view : View) where
  values_first : (e : E) (rest : List E) (datum : Datum) → means e view ≡ Some datum
      → values_of (map means (e ∷ rest)) view ≡ option_map (λ values. plain datum ∷ values) (values_of (map means rest) view)
  values_first e rest datum is = rw is

  pub values_step : (es : List E) (i : ℕ) (e : E) (datum : Datum) (made before : List Value) → i < length es → e ≡ get_or es i e
      → Some datum ≡ means e view
      → made ≡ before ++ plain datum ∷ []
      → option_map (λ values. made ++ values) (values_of (map means (drop (i + 1) es)) view)
      ≡ option_map (λ values. before ++ values) (values_of (map means (drop i es)) view)
  values_step es i e datum made before within is gives is_made =
      let here : drop i es ≡ e ∷ drop (i + 1) es = rw (add-one) (drop-cons es i e within ∙ ap (λ x. x ∷ drop (suc i) es) (sym is)) in
      ap (λ made. option_map (λ values. made ++ values) (values_of (map means (drop (i + 1) es)) view)) is_made
      ∙ put_behind before (plain datum) (values_of (map means (drop (i + 1) es)) view)
      ∙ sym (ap (λ es. option_map (λ values. before ++ values) (values_of (map means es) view)) here
      ∙ ap (option_map (λ values. before ++ values)) (values_first e (drop (i + 1) es) datum (sym gives)))

-- ---- positions of parts

module _ {P : Type 0} (means : P → PathPosition) (view : View) where
  positions_first : (p : P) (rest : List P) (k : ℕ) → means p view ≡ Some k
      → positions_of (map means (p ∷ rest)) view ≡ option_map (λ ks. k ∷ ks) (positions_of (map means rest) view)
  positions_first p rest k is = rw is

  positions_none : (p : P) (rest : List P) → means p view ≡ None → positions_of (map means (p ∷ rest)) view ≡ None
  positions_none p rest is = rw is

  pub positions_step : (ps : List P) (i : ℕ) (p : P) (k : ℕ) (made before : List ℕ) → i < length ps → p ≡ get_or ps i p → means p view ≡ Some k
      → made ≡ before ++ k ∷ []
      → option_map (λ ks. made ++ ks) (positions_of (map means (drop (i + 1) ps)) view)
      ≡ option_map (λ ks. before ++ ks) (positions_of (map means (drop i ps)) view)
  positions_step ps i p k made before within is gives is_made =
      let here : drop i ps ≡ p ∷ drop (i + 1) ps = rw (add-one) (drop-cons ps i p within ∙ ap (λ x. x ∷ drop (suc i) ps) (sym is)) in
      ap (λ made. option_map (λ ks. made ++ ks) (positions_of (map means (drop (i + 1) ps)) view)) is_made
      ∙ put_behind before k (positions_of (map means (drop (i + 1) ps)) view)
      ∙ sym (ap (λ ps. option_map (λ ks. before ++ ks) (positions_of (map means ps) view)) here
      ∙ ap (option_map (λ ks. before ++ ks)) (positions_first p (drop (i + 1) ps) k gives))

  pub positions_stop : (ps : List P) (i : ℕ) (p : P) (before : List ℕ) → i < length ps → p ≡ get_or ps i p → means p view ≡ None
      → option_map (λ ks. before ++ ks) (positions_of (map means (drop i ps)) view) ≡ None
  positions_stop ps i p before within is gives =
      let here : drop i ps ≡ p ∷ drop (i + 1) ps = rw (add-one) (drop-cons ps i p within ∙ ap (λ x. x ∷ drop (suc i) ps) (sym is)) in
      ap (λ ps. option_map (λ ks. before ++ ks) (positions_of (map means ps) view)) here
      ∙ ap (option_map (λ ks. before ++ ks)) (positions_none p (drop (i + 1) ps) gives)

-- ---- targets of paths

module _ {P : Type 0} (leads : P → PathMeaning) (view : View) where
  targets_first : (p : P) (rest : List P) (ks : List ℕ) → (leads p).positions view ≡ Some ks
      → targets_of (map leads (p ∷ rest)) view
      ≡ option_map (λ rest. record { root = (leads p).root; positions = ks } ∷ rest) (targets_of (map leads rest) view)
  targets_first p rest ks is = rw is

  targets_none : (p : P) (rest : List P) → (leads p).positions view ≡ None → targets_of (map leads (p ∷ rest)) view ≡ None
  targets_none p rest is = rw is

  pub targets_step : (ps : List P) (i : ℕ) (p : P) (root : ℕ) (ks : List ℕ) (made before : List Target) → i < length ps →
      p ≡ get_or ps i p → (leads p).root ≡ root
      → (leads p).positions view ≡ Some ks → made ≡ before ++ record { root = root; positions = ks } ∷ []
      → option_map (λ rest. made ++ rest) (targets_of (map leads (drop (i + 1) ps)) view)
      ≡ option_map (λ rest. before ++ rest) (targets_of (map leads (drop i ps)) view)
  targets_step ps i p root ks made before within is is_root gives is_made =
      let here : drop i ps ≡ p ∷ drop (i + 1) ps = rw (add-one) (drop-cons ps i p within ∙ ap (λ x. x ∷ drop (suc i) ps) (sym is)) in
      let target : Target = record { root = (leads p).root; positions = ks } in
      ap (λ made. option_map (λ rest. made ++ rest) (targets_of (map leads (drop (i + 1) ps)) view))
      (is_made ∙ ap (λ root. before ++ record { root = root; positions = ks } ∷ []) (sym is_root))
      ∙ put_behind before target (targets_of (map leads (drop (i + 1) ps)) view)
      ∙ sym (ap (λ ps. option_map (λ rest. before ++ rest) (targets_of (map leads ps) view)) here
      ∙ ap (option_map (λ rest. before ++ rest)) (targets_first p (drop (i + 1) ps) ks gives))

  pub targets_stop : (ps : List P) (i : ℕ) (p : P) (before : List Target) → i < length ps → p ≡ get_or ps i p → (leads p).positions view ≡ None
      → option_map (λ rest. before ++ rest) (targets_of (map leads (drop i ps)) view) ≡ None
  targets_stop ps i p before within is gives =
      let here : drop i ps ≡ p ∷ drop (i + 1) ps = rw (add-one) (drop-cons ps i p within ∙ ap (λ x. x ∷ drop (suc i) ps) (sym is)) in
      ap (λ ps. option_map (λ rest. before ++ rest) (targets_of (map leads ps) view)) here
      ∙ ap (option_map (λ rest. before ++ rest)) (targets_none p (drop (i + 1) ps) gives)

-- ---- statements in order

module _ {S : Type 0} (runs : S → StmtMeaning) where
  pub order_step : (body : List S) (i : ℕ) (s : S) (now : List Value) → i < length body → s ≡ get_or body i s
      → in_order (map runs (drop i body)) now ≡ flow_then (runs s now) (in_order (map runs (drop (i + 1) body)))
  order_step body i s now within is =
      let here : drop i body ≡ s ∷ drop (i + 1) body = rw (add-one) (drop-cons body i s within ∙ ap (λ x. x ∷ drop (suc i) body) (sym is)) in
      ap (λ body. in_order (map runs body) now) here

module _ {S : Type 0} (offers : S → GuardedBlock) (other : StmtMeaning) where
  pub choice_step : (arms : List S) (i : ℕ) (arm : S) (now : List Value) → i < length arms → arm ≡ get_or arms i arm
      → first_true_choice (map offers (drop i arms)) other now
      ≡ option_and_then (λ holds. if holds then (offers arm).body now else first_true_choice (map offers (drop (i + 1) arms)) other now)
      ((offers arm).test now)
  choice_step arms i arm now within is =
      let here : drop i arms ≡ arm ∷ drop (i + 1) arms = rw (add-one) (drop-cons arms i arm within ∙ ap (λ x. x ∷ drop (suc i) arms) (sym is)) in
      ap (λ arms. first_true_choice (map offers arms) other now) here

-- ---- turns of a loop

module _ (goes : List Value → Option Bool) (body : StmtMeaning) (ends : List Value → Option Bool) where
  abbrev turn : StmtMeaning → StmtMeaning
  turn again now =
      option_and_then (λ more.
      if more then flow_then (body now) (λ new. option_and_then (λ is_over. if is_over then Some (Flow.On new) else again new) (ends new)) else
      Some (Flow.On now)) (goes now)

  turn_at : (n m : ℕ) (now : List Value) → n ≡ suc m → looped goes body ends n now ≡ turn (looped goes body ends m) now
  turn_at n m now is = ap (λ n. looped goes body ends n now) is

  pub turn_step : (counter : ℕ) (now : List Value) → counter < 65536
      → looped goes body ends (most_turns - counter) now ≡ turn (looped goes body ends (most_turns - (counter + 1))) now
  unfolding most_turns
  turn_step counter now within = turn_at (65536 - counter) (65536 - (counter + 1)) now (omega arith)

  pub turn_last : (counter : ℕ) (now : List Value) → 65536 ≤ counter
      → looped goes body ends (most_turns - counter) now ≡ option_and_then (λ more. if more then None else Some (Flow.On now)) (goes now)
  unfolding most_turns
  turn_last counter now past = let none : 65536 - counter ≡ zero = omega arith in ap (λ n. looped goes body ends n now) none

  pub turns_done : (counter : ℕ) (now : List Value) (target : Option Flow) (given : Option Bool) (result : Option Flow) → 65536 ≤ counter →
      looped goes body ends (most_turns - counter) now ≡ target
      → result ≡ option_and_then (λ more. if more then None else Some (Flow.On now)) given → given ≡ goes now → result ≡ target
  turns_done counter now target given result past inv is is_given =
      is ∙ ap (option_and_then (λ more. if more then None else Some (Flow.On now))) is_given ∙ sym (turn_last counter now past) ∙ inv

  -- how a turn goes, by its condition, its body and its end
  turn_over : (again : StmtMeaning) (now : List Value) → goes now ≡ None → turn again now ≡ None
  turn_over again now none = ap (option_and_then (λ more.
      if more then flow_then (body now) (λ new. option_and_then (λ is_over. if is_over then Some (Flow.On new) else again new) (ends new)) else
      Some (Flow.On now))) none

  turn_gone : (again : StmtMeaning) (now : List Value) → goes now ≡ Some false → turn again now ≡ Some (Flow.On now)
  turn_gone again now ended_now = ap (option_and_then (λ more.
      if more then flow_then (body now) (λ new. option_and_then (λ is_over. if is_over then Some (Flow.On new) else again new) (ends new)) else
      Some (Flow.On now))) ended_now

  turn_begun : (again : StmtMeaning) (now : List Value) (r : Option Flow) → goes now ≡ Some true → r ≡ body now
      → turn again now ≡ flow_then r (λ new. option_and_then (λ is_over. if is_over then Some (Flow.On new) else again new) (ends new))
  turn_begun again now r begun is =
      ap (option_and_then (λ more.
      if more then flow_then (body now) (λ new. option_and_then (λ is_over. if is_over then Some (Flow.On new) else again new) (ends new)) else
      Some (Flow.On now))) begun
      ∙ ap (λ r. flow_then r (λ new. option_and_then (λ is_over. if is_over then Some (Flow.On new) else again new) (ends new))) (sym is)

  module _ (counter : ℕ) (now : List Value) (target : Option Flow) (within : counter < 65536)
      (inv : looped goes body ends (most_turns - counter) now ≡ target) where
    abbrev next : StmtMeaning
    next = looped goes body ends (most_turns - (counter + 1))

    start : turn next now ≡ target
    start = sym (turn_step counter now within) ∙ inv

    pub turns_trap : goes now ≡ None → None ≡ target
    turns_trap none = sym (turn_over next now none) ∙ start

    pub turns_stop : goes now ≡ Some false → Some (Flow.On now) ≡ target
    turns_stop ended_now = sym (turn_gone next now ended_now) ∙ start

    pub turns_left : (flow : Ended) (new : List Value) → goes now ≡ Some true → ended flow new ≡ body now → (flow ≡ Ending.On → ⊥) →
        ended flow new ≡ target
    turns_left Ending.On new begun is not_on = absurd (not_on refl)
    turns_left (Ending.Back datum) new begun is not_on = sym (turn_begun next now (Some (Flow.Back new datum)) begun is) ∙ start
    turns_left Ending.Trap new begun is not_on = sym (turn_begun next now None begun is) ∙ start

    ended_turn : (flow : Ended) (new : List Value) (is_over : Option Bool) → goes now ≡ Some true → ended flow new ≡ body now →
        flow ≡ Ending.On → ends new ≡ is_over
        → option_and_then (λ is_over. if is_over then Some (Flow.On new) else next new) is_over ≡ target
    ended_turn flow new is_over begun is on is_done =
        ap (option_and_then (λ is_over. if is_over then Some (Flow.On new) else next new)) (sym is_done)
        ∙ sym (turn_begun next now (Some (Flow.On new)) begun (ap (λ flow. ended flow new) (sym on) ∙ is)) ∙ start

    pub turns_end_trap : (flow : Ended) (new : List Value) → goes now ≡ Some true → ended flow new ≡ body now → flow ≡ Ending.On →
        ends new ≡ None → None ≡ target
    turns_end_trap flow new begun is on none = ended_turn flow new None begun is on none

    pub turns_end : (flow : Ended) (new : List Value) → goes now ≡ Some true → ended flow new ≡ body now → flow ≡ Ending.On →
        ends new ≡ Some true → Some (Flow.On new) ≡ target
    turns_end flow new begun is on over = ended_turn flow new (Some true) begun is on over

    pub turns_again : (flow : Ended) (new : List Value) → goes now ≡ Some true → ended flow new ≡ body now → flow ≡ Ending.On →
        ends new ≡ Some false → next new ≡ target
    turns_again flow new begun is on more = ended_turn flow new (Some false) begun is on more

module _ {S : Type 0} (runs : S → StmtMeaning) where
  pub order_on : (body : List S) (i : ℕ) (s : S) (now new : List Value) (flow : Ended) → i < length body → s ≡ get_or body i s →
      flow ≡ Ending.On → ended flow new ≡ runs s now
      → in_order (map runs (drop (i + 1) body)) new ≡ in_order (map runs (drop i body)) now
  order_on body i s now new flow within is on gives =
      sym (order_step runs body i s now within is ∙ ap (λ r. flow_then r (in_order (map runs (drop (i + 1) body))))
      (sym gives ∙ ap (λ flow. ended flow new) on))

module _ {S : Type 0} (offers : S → GuardedBlock) (other : StmtMeaning) (arms : List S) (i : ℕ) (arm : S) (now : List Value) (within : i < length arms)
    (is : arm ≡ get_or arms i arm) where
  abbrev picked : Option Bool → Option Flow
  picked test = option_and_then (λ holds. if holds then (offers arm).body now else first_true_choice (map offers (drop (i + 1) arms)) other now) test

  pub choice_trap : (offers arm).test now ≡ None → None ≡ first_true_choice (map offers (drop i arms)) other now
  choice_trap none = sym (choice_step offers other arms i arm now within is ∙ ap picked none)

  pub choice_true : (offers arm).test now ≡ Some true → (offers arm).body now ≡ first_true_choice (map offers (drop i arms)) other now
  choice_true begun = sym (choice_step offers other arms i arm now within is ∙ ap picked begun)

  pub choice_false : (offers arm).test now ≡ Some false → first_true_choice (map offers (drop (i + 1) arms)) other now
      ≡ first_true_choice (map offers (drop i arms)) other now
  choice_false ended_now = sym (choice_step offers other arms i arm now within is ∙ ap picked ended_now)
