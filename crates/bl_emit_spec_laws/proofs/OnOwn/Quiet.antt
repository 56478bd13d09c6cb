-- Rules of statements behind which something else follows don't end the body.
use Rattle.std.proofs.Common.{◌≡◌, ℕ, suc, Bool, true, false, not, ◌&&◌, ◌||◌, List, [], ◌∷◌, ◌++◌, map, refl}
use Rattle.std.specs.List.{list_all, list_any}
use Rattle.std.proofs.lemmas.Bool.{and_from, or_from}
use Rattle.bl_tree.proofs.Basics.{not_of_false}
use Rattle.bl_tree.specs.declared.place.Place.{Place}
use Rattle.bl_tree.specs.declared.tree.Guard.{Guard}
use Rattle.bl_tree.specs.declared.tree.Guard.TheVariants.{Abort, Reset}
use Rattle.bl_graph_nodes.specs.Nodes.{ActAt, CheckAt, DepthEndAt, DepthJoinAt, EnterAt, ForkAt, HeadAt, Node, PauseAt, ResumeAt}
use Rattle.bl_graph_nodes.specs.Nodes.{StartAt, SurfaceEndAt, SurfaceJoinAt, TestAt, are_instant, arguments_of, is_instant}
use Rattle.bl_graph_nodes.specs.Plain.{Act, Again, Await, Block, Bodies, Body as BodyOf, Cobegin, Done, If, Label, Last, Plain, Repeat, Run as RunOf, Then}
use Rattle.bl_graph_nodes.specs.Plain.{Until, When, While}
use Rattle.bl_machine.specs.declared.slots.Slot.{Slot}
use Rattle.bl_machine.specs.Uses.{Slots}
use Rattle.bl_machine_pass.specs.Transitions.{Age, Change, Transition}
use Rattle.bl_machine_pass.specs.Transitions.{ClearsBoth, ClearsCounter, Flagged, IsNew, Rested, RestedIn, SetsCounter, SetsFlag, SetsMark, counters_in, counters_in_each, flagged, once}
use Rattle.bl_machine_pass.specs.Transitions.{age_of, body_ends, enter, enter_each, fires, joins, marked, rests_in, rule_where, rules_in, rules_in_each, rules_of}
use Rattle.bl_emit_spec_laws.specs.Registers.Laws.{ends_body}

-- whether no change of a rule ends the body
abbrev pub is_quiet : Transition → Bool
is_quiet rule = not (list_any ends_body rule.on_true) && not (list_any ends_body rule.on_false)

-- no rule does
pub record Quiet (rules : List Transition) : Type 0 where
  pub all : list_all is_quiet rules ≡ true

-- changes of which none ends the body
pub record Going (changes : List Change) : Type 0 where
  pub none : list_any ends_body changes ≡ false

pub quiet_cons : (rule : Transition) (rest : List Transition) → Going rule.on_true → Going rule.on_false → Quiet rest → Quiet (rule ∷ rest)
quiet_cons rule rest on_true on_false more = record {
  all = and_from (is_quiet rule) (list_all is_quiet rest)
      (and_from (not (list_any ends_body rule.on_true)) (not (list_any ends_body rule.on_false)) (not_of_false (list_any ends_body rule.on_true) on_true.none)
      (not_of_false (list_any ends_body rule.on_false) on_false.none)) more.all;
}

both_lists : (first rest : List Transition) → list_all is_quiet first ≡ true → list_all is_quiet rest ≡ true → list_all is_quiet (first ++ rest) ≡ true
both_lists [] rest h i = i
both_lists (rule ∷ first) rest h i = split (is_quiet rule) h (both_lists first rest)
  where
    split : (b : Bool) → (b && list_all is_quiet first) ≡ true →
        (list_all is_quiet first ≡ true → list_all is_quiet rest ≡ true → list_all is_quiet (first ++ rest) ≡ true) →
        (b && list_all is_quiet (first ++ rest)) ≡ true
    split true h again = again h i
    split false h again = h

pub quiet_both : (first rest : List Transition) → Quiet first → Quiet rest → Quiet (first ++ rest)
quiet_both first rest h i = record { all = both_lists first rest h.all i.all }

pub no_rules : Quiet []
no_rules = record { all = refl }

no_changes : Going []
no_changes = record { none = refl }

-- ---- changes

one_quiet : (next : Change) → ends_body next ≡ false → Going (next ∷ [])
one_quiet next h = record { none = or_from (ends_body next) false h refl }

first_quiet : (first : Change) (rest : List Change) → ends_body first ≡ false → Going rest → Going (first ∷ rest)
first_quiet first rest h i = record { none = or_from (ends_body first) (list_any ends_body rest) h i.none }

frees_quiet : (ks : List ℕ) (next : Change) → ends_body next ≡ false → Going (map ClearsCounter ks ++ next ∷ [])
frees_quiet [] next h = one_quiet next h
frees_quiet (k ∷ ks) next h = first_quiet (ClearsCounter k) (map ClearsCounter ks ++ next ∷ []) refl (frees_quiet ks next h)

forgets_quiet : (ks : List ℕ) (next : Change) → ends_body next ≡ false → Going (map ClearsBoth ks ++ next ∷ [])
forgets_quiet [] next h = one_quiet next h
forgets_quiet (k ∷ ks) next h = first_quiet (ClearsBoth k) (map ClearsBoth ks ++ next ∷ []) refl (forgets_quiet ks next h)

pub enter_quiet : (body : Block) (next : Change) → ends_body next ≡ false → ends_body (enter body next) ≡ false
enter_quiet Done next h = h
enter_quiet (Then s rest) next h = refl

ends_quiet : (l : Label) (at : Place) (body : Block) → ends_body (body_ends l at body) ≡ false
ends_quiet l at body = by (are_instant body) refl
  where
    by : (instant : Bool) → are_instant body ≡ instant → ends_body (body_ends l at body) ≡ false
    by true is = rw (is) refl
    by false is = rw (is) refl

fires_quiet : (guard : Guard) (l : Label) (at : Place) (body : Block) (next : Change) → ends_body next ≡ false →
    ends_body (fires guard l at body next) ≡ false
fires_quiet Abort l at body next h = h
fires_quiet Reset l at body next h = enter_quiet body (body_ends l at body) (ends_quiet l at body)

marked_quiet : (instant : Bool) (n : Node) (rest : List Change) → Going rest → Going (marked instant n rest)
marked_quiet true n rest h = first_quiet (SetsMark n) rest refl h
marked_quiet false n rest h = h

each_quiet : (slots : Slots) (l : Label) (k : ℕ) (bodies : Bodies) → Going (enter_each slots l k bodies)
each_quiet slots l k Last = no_changes
each_quiet slots l k (BodyOf weak body rest) =
    first_quiet (enter body (SetsCounter (slots.ending l k))) (enter_each slots l (suc k) rest) (enter_quiet body (SetsCounter (slots.ending l k)) refl)
    (each_quiet slots l (suc k) rest)

where_quiet : (test : Bool) (rule : Transition) → Quiet (rule ∷ []) → Quiet (rule_where test rule)
where_quiet true rule h = h
where_quiet false rule h = no_rules

-- a node that waits by its flag
flagged_quiet : (n : Node) (on_true : List Change) (rest : List Transition) → Going on_true → Quiet rest → Quiet (flagged n on_true ∷ rest)
flagged_quiet n on_true rest h more = quiet_cons (flagged n on_true) rest h no_changes more

joins_quiet : (slots : Slots) (l : Label) (bodies : Bodies) (age : Age) (n : Node) (next : Change) (rest : List Transition) → ends_body next ≡ false →
    Quiet rest → Quiet (joins slots l bodies age n next ∷ rest)
joins_quiet slots l bodies age n next rest h more =
    quiet_cons (joins slots l bodies age n next) rest (frees_quiet (once (counters_in_each slots l 0 bodies)) next h) no_changes more

-- a node at which the instance rested
abbrev rules_behind : Node → Slot → Change → Transition
rules_behind n slot next = record { node = n; condition = Rested slot; on_true = next ∷ []; on_false = [] }

-- ---- statements

mutual
  pub quiet_of : (slots : Slots) (s : Plain) (next : Change) → ends_body next ≡ false → Quiet (rules_of slots s next)
  quiet_of slots (Act l s) next h = flagged_quiet (ActAt l s) (next ∷ []) [] (one_quiet next h) no_rules
  quiet_of slots (Await l at e) next h =
      flagged_quiet (PauseAt l at) (SetsCounter (slots.rest l) ∷ []) (rules_behind (TestAt l at e) (slots.rest l) next ∷ [])
      (one_quiet (SetsCounter (slots.rest l)) refl)
      (quiet_cons (rules_behind (TestAt l at e) (slots.rest l) next) [] (one_quiet next h) no_changes no_rules)
  quiet_of slots (RunOf l at target a inputs outputs) next h =
      flagged_quiet (EnterAt l at (arguments_of target inputs outputs)) (SetsCounter (slots.rest l) ∷ [])
      (rules_behind (ResumeAt l at (arguments_of target inputs outputs)) (slots.rest l) next ∷ []) (one_quiet (SetsCounter (slots.rest l)) refl)
      (quiet_cons (rules_behind (ResumeAt l at (arguments_of target inputs outputs)) (slots.rest l) next) [] (one_quiet next h) no_changes no_rules)
  quiet_of slots (If l at e body other) next h =
      quiet_cons (record { node = TestAt l at e; condition = Flagged; on_true = enter body next ∷ []; on_false = enter other next ∷ [] })
      (rules_in slots body next ++ rules_in slots other next)
      (one_quiet (enter body next) (enter_quiet body next h)) (one_quiet (enter other next) (enter_quiet other next h))
      (quiet_both (rules_in slots body next) (rules_in slots other next) (quiet_in slots body next h) (quiet_in slots other next h))
  quiet_of slots (Cobegin l at bodies) next h =
      let instant = is_instant (Cobegin l at bodies) in
      let later = joins slots l bodies (age_of instant (ForkAt l at)) (DepthJoinAt l at) next in
      let sooner = joins slots l bodies (IsNew (ForkAt l at)) (SurfaceJoinAt l at) next in
      flagged_quiet (ForkAt l at) (marked instant (ForkAt l at) (enter_each slots l 0 bodies))
      (rule_where instant sooner ++ later ∷ rules_in_each slots l 0 bodies)
      (marked_quiet instant (ForkAt l at) (enter_each slots l 0 bodies) (each_quiet slots l 0 bodies))
      (quiet_both (rule_where instant sooner) (later ∷ rules_in_each slots l 0 bodies)
      (where_quiet instant sooner (joins_quiet slots l bodies (IsNew (ForkAt l at)) (SurfaceJoinAt l at) next [] h no_rules))
      (joins_quiet slots l bodies (age_of instant (ForkAt l at)) (DepthJoinAt l at) next (rules_in_each slots l 0 bodies) h
      (quiet_in_each slots l 0 bodies)))
  quiet_of slots (When l at guard e body) next h =
      let instant = are_instant body in
      let end = body_ends l at body in
      let on_true = map ClearsBoth (once (counters_in slots body)) ++ fires guard l at body next ∷ [] in
      let check : Transition = record { node = CheckAt l at e; condition = RestedIn (rests_in slots body); on_true = on_true; on_false = [] } in
      let last = flagged (DepthEndAt l at) (next ∷ []) ∷ rules_in slots body end in
      flagged_quiet (StartAt l at) (marked instant (StartAt l at) (enter body end ∷ []))
      (rule_where instant (flagged (SurfaceEndAt l at) (next ∷ [])) ++ check ∷ last)
      (marked_quiet instant (StartAt l at) (enter body end ∷ []) (one_quiet (enter body end) (enter_quiet body end (ends_quiet l at body))))
      (quiet_both (rule_where instant (flagged (SurfaceEndAt l at) (next ∷ []))) (check ∷ last)
      (where_quiet instant (flagged (SurfaceEndAt l at) (next ∷ [])) (flagged_quiet (SurfaceEndAt l at) (next ∷ []) [] (one_quiet next h) no_rules))
      (quiet_cons check last
      (forgets_quiet (once (counters_in slots body)) (fires guard l at body next) (fires_quiet guard l at body next h)) no_changes
      (flagged_quiet (DepthEndAt l at) (next ∷ []) (rules_in slots body end) (one_quiet next h) (quiet_in slots body end (ends_quiet l at body)))))
  quiet_of slots (Repeat l at body) next h =
      let again = SetsFlag (HeadAt l at) in
      flagged_quiet (HeadAt l at) (enter body again ∷ []) (rules_in slots body again) (one_quiet (enter body again) (enter_quiet body again refl))
      (quiet_in slots body again refl)
  quiet_of slots (Until l at body e) next h =
      let test = SetsFlag (TestAt l at e) in
      let tests : Transition = record { node = TestAt l at e; condition = Flagged; on_true = next ∷ []; on_false = SetsFlag (HeadAt l at) ∷ [] } in
      flagged_quiet (HeadAt l at) (enter body test ∷ []) (tests ∷ rules_in slots body test)
      (one_quiet (enter body test) (enter_quiet body test refl))
      (quiet_cons tests (rules_in slots body test) (one_quiet next h) (one_quiet (SetsFlag (HeadAt l at)) refl) (quiet_in slots body test refl))
  quiet_of slots (While l at e body) next h =
      let test = SetsFlag (TestAt l at e) in
      quiet_cons (record { node = TestAt l at e; condition = Flagged; on_true = enter body test ∷ []; on_false = next ∷ [] }) (rules_in slots body test)
      (one_quiet (enter body test) (enter_quiet body test refl)) (one_quiet next h) (quiet_in slots body test refl)
  quiet_of slots (Again l at body e) next h =
      let test = SetsFlag (TestAt l at e) in
      let tests : Transition = record { node = TestAt l at e; condition = Flagged; on_true = next ∷ []; on_false = SetsFlag (HeadAt l at) ∷ [] } in
      flagged_quiet (HeadAt l at) (enter body test ∷ []) (tests ∷ rules_in slots body test)
      (one_quiet (enter body test) (enter_quiet body test refl))
      (quiet_cons tests (rules_in slots body test) (one_quiet next h) (one_quiet (SetsFlag (HeadAt l at)) refl) (quiet_in slots body test refl))

  pub quiet_in : (slots : Slots) (body : Block) (next : Change) → ends_body next ≡ false → Quiet (rules_in slots body next)
  quiet_in slots Done next h = no_rules
  quiet_in slots (Then s rest) next h =
      quiet_both (rules_of slots s (enter rest next)) (rules_in slots rest next) (quiet_of slots s (enter rest next) (enter_quiet rest next h))
      (quiet_in slots rest next h)

  quiet_in_each : (slots : Slots) (l : Label) (k : ℕ) (bodies : Bodies) → Quiet (rules_in_each slots l k bodies)
  quiet_in_each slots l k Last = no_rules
  quiet_in_each slots l k (BodyOf weak body rest) =
      quiet_both (rules_in slots body (SetsCounter (slots.ending l k))) (rules_in_each slots l (suc k) rest)
      (quiet_in slots body (SetsCounter (slots.ending l k)) refl) (quiet_in_each slots l (suc k) rest)
