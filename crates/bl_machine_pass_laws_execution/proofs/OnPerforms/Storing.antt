-- What a turn leaves of a store: what isn't touched stays, and variables were what they were.
use Rattle.std.proofs.Common.{◌≡◌, ◌⊎◌, inl, inr, ℕ, ◌-◌, ◌<◌, Bool, ◌++◌, List, [], length, Some}
use Rattle.std.proofs.Common.{refl, sym, ap, ◌∙◌, subst, arith, eq-eqb}
use Rattle.std.specs.Prelude.{option_map, slice_get, unwrap_or}
use Rattle.bl_tree.specs.declared.place.Place.{Place as Source}
use Rattle.bl_tree.specs.declared.static_path.Static.{Static}
use Rattle.bl_tree.specs.declared.tree.Expr.{Expr}
use Rattle.bl_tree.specs.declared.tree.Stmt.{out-Stmt}
use Rattle.bl_tree.specs.declared.tree.StructDef.{StructDef}
use Rattle.bl_tree.specs.declared.tree.Unit.{Unit as UnitDef}
use Rattle.bl_tree.specs.declared.value.Value.{Value}
use Rattle.bl_graph_nodes.specs.Nodes.{ActAt, CheckAt, DepthEndAt, DepthJoinAt, EnterAt, ForkAt, HeadAt, Node, PauseAt, ResumeAt, StartAt, SurfaceEndAt}
use Rattle.bl_graph_nodes.specs.Nodes.{SurfaceJoinAt, TestAt}
use Rattle.bl_machine_prevs.specs.Declared.{prevs_at}
use Rattle.bl_ctree.specs.Actions.{Acts, Asks as AsksFor, Copies, Effect, Silent}
use Rattle.bl_ctree.specs.Instances.{Setting, callee_of, setting_of, unit_at}
use Rattle.bl_ctree.specs.Store.{Store, home, vars_at, view_at}
use Rattle.bl_ctree_laws.specs.Pending.{deed}
use Rattle.bl_ctree_laws.specs.Trees.{Tree}
use Rattle.bl_ctree_laws_confluence.specs.Deeds.Nesting.{Inside, InstancesNest, IsOutput, deeper, itself}
use Rattle.bl_ctree_laws_confluence.specs.Apart.Seen.{InCall}
use Rattle.bl_machine_laws.specs.Passes.Follows.{DeedYields}
use Rattle.bl_machine_pass_laws_execution.specs.Executes.{CopiesMatch, IsPoint, deed_at, recopied}
use Rattle.bl_machine_pass_laws_execution.specs.Fresh.Asks.{Asks, DueIn, IsAmongVariables, declared_at}
use Rattle.bl_machine_pass_laws_execution.specs.Fresh.Fresh.{Framed, Fresh, arity, locals}
use Rattle.bl_machine_pass_laws_execution.specs.Fresh.Laws.{CopiesTo, DeedsAreSeen, OwnIsSeen, effect_declared}
use Rattle.bl_machine_pass_laws_execution.specs.Fresh.Senses.{InstanceChanges, Senses}
use Rattle.bl_machine_pass_laws_execution.proofs.OnFresh.Lists.{among_joined, among_parts, is_among, none_among, range_so}
use Rattle.bl_machine_pass_laws_execution.proofs.OnPerforms.Copying.{Recopied, recopies}
use Rattle.bl_machine_pass_laws_execution.proofs.OnPerforms.Touching.{Touched, in_call, inside_callee}
use Rattle.bl_machine_pass_laws_execution.proofs.OnKept.Homes.{through}

-- what an instance leaves, where it touches calls that stand here, and declares these variables
pub record Passing (w : Setting) (i : ℕ) (unit : UnitDef) (Here : Source → Type 0) (ds : List ℕ) (store left : Store) : Type 0 where
  pub leaves : InstanceChanges w i store left
  -- its own variables were what they were
  pub own : (x : ℕ) → IsAmongVariables (locals unit) x → (IsAmongVariables ds x → ⊥) → slice_get (view_at w left i).before x
      ≡ slice_get (view_at w store i).before x
  -- and what is inside calls that aren't touched stays
  pub stays : (j : ℕ) → InCall w i j → (Touched w i Here j → ⊥) → slice_get left j ≡ slice_get store j

-- what a node leaves in its turn
pub record NodeLeaves (w : Setting) (i : ℕ) (unit : UnitDef) (Here : Source → Type 0) (n : Node) (store left : Store) : Type 0 where
  pub passing : Passing w i unit Here (declared_at n) store left
  pub framed : Framed w left
  -- a declared variable was what it is
  pub declared : (x : ℕ) → IsAmongVariables (locals unit) x → IsAmongVariables (declared_at n) x →
      slice_get (view_at w left i).before x ≡ slice_get (view_at w left i).now x

-- what a turn of a node asks, and leaves
pub record SeenTurn (w : Setting) (i : ℕ) (unit : UnitDef) (known : List ℕ) (n : Node) (store left : Store) : Type 0 where
  pub asked : (x : ℕ) → IsAmongVariables (prevs_at n) x → IsAmongVariables known x
  pub bound : (x : ℕ) → IsAmongVariables (declared_at n) x → IsAmongVariables (locals unit) x
  pub framed : Framed w left
  pub leaves : InstanceChanges w i store left
  pub own : (x : ℕ) → IsAmongVariables (locals unit) x → (IsAmongVariables (declared_at n) x → ⊥) →
      slice_get (view_at w left i).before x ≡ slice_get (view_at w store i).before x
  pub declared : (x : ℕ) → IsAmongVariables (locals unit) x → IsAmongVariables (declared_at n) x →
      slice_get (view_at w left i).before x ≡ slice_get (view_at w left i).now x

pub fresh_same : (w : Setting) (j : ℕ) (store left : Store) → slice_get left j ≡ slice_get store j → Fresh w store j → Fresh w left j
fresh_same w j store left same fresh = record { same = λ frame unit x at is behind. fresh.same frame unit x (sym same ∙ at) is behind }

-- a variable of the body is one of the instance
local_there : (w : Setting) (i : ℕ) (unit : UnitDef) (x : ℕ) → unit_at w i ≡ Some unit → IsAmongVariables (locals unit) x → x < length (vars_at w i)
local_there w i unit x is at =
    let both = range_so (arity unit) (length unit.vars - arity unit) x at in
    let one = both.0 in
    let two = both.1 in
    let same : length (vars_at w i) ≡ length unit.vars =
    ap (λ u. length (unwrap_or (option_map (λ (unit : UnitDef). unit.vars) u) [])) is in omega (arith, one, two, same)

-- what a turn leaves, the next turn finds
pub next_senses : (w : Setting) (i : ℕ) (unit : UnitDef) (known : List ℕ) (n : Node) (store left : Store) (copies : List Value) (c c' : Tree) →
    unit_at w i ≡ Some unit → Senses w i unit known store copies c → SeenTurn w i unit known n store left →
    Asks w i unit (declared_at n ++ known) c' → ((j : ℕ) → DueIn w c' j → DueIn w c j × (slice_get left j ≡ slice_get store j)) →
    Senses w i unit (declared_at n ++ known) left (recopied w i n left copies) c'
next_senses w i unit known n store left copies c c' is senses seen asks due = record {
  framed = seen.framed;
  behind = among_joined (declared_at n) known (locals unit) seen.bound senses.behind;
  hold = λ x at. by_part x (is_among x (declared_at n)) (among_parts x (declared_at n) known at);
  long = (recopies w i n left copies senses.long).long ∙ senses.long;
  asks = asks;
  fresh = λ j h. (let d = due j h in fresh_same w j store left d.1 (senses.fresh j d.0));
}
  where
    copied : Recopied w i n left copies
    copied = recopies w i n left copies senses.long

    older : (x : ℕ) → (IsAmongVariables (declared_at n) x → ⊥) → IsAmongVariables (declared_at n) x ⊎ IsAmongVariables known x → IsAmongVariables known x
    older x other (inl at) = absurd (other at)
    older x other (inr at) = at

    by_part : (x : ℕ) → IsAmongVariables (declared_at n) x ⊎ (IsAmongVariables (declared_at n) x → ⊥) → IsAmongVariables (declared_at n) x ⊎ IsAmongVariables known x →
        slice_get (recopied w i n left copies) x ≡ slice_get (view_at w left i).before x
    by_part x (inl at) some =
        copied.there x at (local_there w i unit x is (seen.bound x at)) ∙ sym (seen.declared x (seen.bound x at) at)
    by_part x (inr other) some =
        copied.elsewhere x other ∙ senses.hold x (older x other some) ∙ sym (seen.own x (senses.behind x (older x other some)) other)

pub sees_so : (w : Setting) (i : ℕ) (unit : UnitDef) (known : List ℕ) (n : Node) (store : Store) (copies : List Value) (c : Tree) →
    Senses w i unit known store copies c → ((x : ℕ) → IsAmongVariables (prevs_at n) x → IsAmongVariables known x) → CopiesMatch w i n store copies
sees_so w i unit known n store copies c senses asked x at = senses.hold x (asked x at)

-- ---- instances of a program

module _ (structs : List StructDef) (units : List UnitDef) (program : ℕ) (nest : InstancesNest structs units program) (deeds : DeedsAreSeen)
    (seen : OwnIsSeen) where
  abbrev W : Setting
  W = setting_of structs units program

  later_call : (i j : ℕ) → InCall W i j → i < j
  later_call i j call =
      let one = nest.later i call.callee call.place call.runs in
      let two = nest.inside call.callee j call.inside in omega (arith, one, two)

  call_inside : (i j : ℕ) → InCall W i j → Inside W i j
  call_inside i j call = through W i call.callee j (deeper i call.place itself call.runs) call.inside

  -- no home of the instance is inside a call of it
  unhomed : (i j : ℕ) → InCall W i j → (path : Static) → (home W (record { instance = i; path = path })).instance ≡ j → ⊥
  unhomed i j call path is =
      let differs = nest.hidden i call.callee j call.place path call.runs call.inside in
      absurd (cc (differs, eq-eqb j (home W (record { instance = i; path = path })).instance (sym is)))

  -- a home of the callee is inside it, or is one of its caller
  callee_home : (i callee j : ℕ) (place : Source) (path : Static) → callee_of W i place ≡ Some callee →
      (home W (record { instance = callee; path = path })).instance ≡ j →
      Inside W callee j ⊎ ((path : Static) × ((home W (record { instance = i; path = path })).instance ≡ j))
  callee_home i callee j place path called is = by_part (nest.homes i callee callee place path called itself)
    where
      by_part : Inside W callee (home W (record { instance = callee; path = path })).instance
          ⊎ IsOutput W i callee (record { instance = callee; path = path }) →
          Inside W callee j ⊎ ((path : Static) × ((home W (record { instance = i; path = path })).instance ≡ j))
      by_part (inl within) = inl (subst (Inside W callee) is within)
      by_part (inr out) = inr (
        record { root = out.output.root; fields = out.output.fields ++ out.fields },
        sym (ap (λ at. at.instance) out.leads) ∙ is,
      )

  module _ (i : ℕ) (unit : UnitDef) (here : unit_at W i ≡ Some unit) where
    pub deed_passing : (Here : Source → Type 0) (at : Source) (effect : Effect) (store : Store) (d : Bool) (left : Store) →
        DeedYields W (deed i at effect) store d left → ((j : ℕ) → CopiesTo effect j → Touched W i Here j) →
        Passing W i unit Here (effect_declared effect) store left
    deed_passing Here at effect store d left does to = record {
      leaves = record {
        apart = λ j outside far. deeds.others W i j at effect store d left does (λ is. outside (subst (Inside W i) (sym is) itself))
            (λ copied. outside (call_inside i j (in_call W i Here j (to j copied)))) far;
        before = λ j outside. deeds.before W i j at effect store d left does (λ is. outside (subst (Inside W i) (sym is) itself));
      };
      own = λ x local other. deeds.own W i x unit at effect store d left here does local other;
      stays = λ j call untouched. deeds.others W i j at effect store d left does
          (λ is. (let less = later_call i j call in omega (arith, less, is))) (λ copied. untouched (to j copied)) (unhomed i j call);
    }

    pub pass_passing : (Here : Source → Type 0) (place : Source) (callee : ℕ) (store left : Store) → Here place → callee_of W i place
        ≡ Some callee →
        InstanceChanges W callee store left → Passing W i unit Here [] store left
    pass_passing Here place callee store left stands called leaves = record {
      leaves = record {
        apart = λ j outside far. leaves.apart j (λ within. outside (inner j within))
            (λ path is. homeless j (λ within. outside (inner j within)) far path is);
        before = λ j outside. leaves.before j (λ within. outside (inner j within));
      };
      own = λ x local other. seen.before W i x unit store left here (leaves.before i not_own) local;
      stays = λ j call untouched. leaves.apart j (λ within. untouched (touched j within))
          (λ path is. homeless j (λ within. untouched (touched j within)) (unhomed i j call) path is);
    }
      where
        inner : (j : ℕ) → Inside W callee j → Inside W i j
        inner j within = through W i callee j (deeper i place itself called) within

        touched : (j : ℕ) → Inside W callee j → Touched W i Here j
        touched j within = record { place = place; runs = stands; callee = callee; called = called; inside = within }

        not_own : Inside W callee i → ⊥
        not_own within = let less = nest.later i callee place called in let least = nest.inside callee i within in omega (arith, less, least)

        homeless : (j : ℕ) → (Inside W callee j → ⊥) →
            ((path : Static) → (home W (record { instance = i; path = path })).instance ≡ j → ⊥) →
            (path : Static) → (home W (record { instance = callee; path = path })).instance ≡ j → ⊥
        homeless j outside far path is = by_part (callee_home i callee j place path called is)
          where
            by_part : Inside W callee j ⊎ ((path : Static) × ((home W (record { instance = i; path = path })).instance ≡ j)) → ⊥
            by_part (inl within) = outside within
            by_part (inr out) = far out.0 out.1

    pub chained : (Here : Source → Type 0) (one two three : Store) → Passing W i unit Here [] one two → Passing W i unit Here [] two three →
        Passing W i unit Here [] one three
    chained Here one two three first second = record {
      leaves = record {
        apart = λ j outside far. second.leaves.apart j outside far ∙ first.leaves.apart j outside far;
        before = λ j outside. second.leaves.before j outside ∙ first.leaves.before j outside;
      };
      own = λ x local other. second.own x local other ∙ first.own x local other;
      stays = λ j call untouched. second.stays j call untouched ∙ first.stays j call untouched;
    }

    -- the inputs of a call are copied
    pub copies_passing : (place : Source) (callee : ℕ) (inputs : List Expr) (store : Store) (d : Bool) (left : Store) →
        callee_of W i place ≡ Some callee → DeedYields W (deed i place (Copies callee inputs)) store d left →
        Passing W i unit (λ p. place ≡ p) [] store left
    copies_passing place callee inputs store d left called does =
        deed_passing (λ p. place ≡ p) place (Copies callee inputs) store d left does (λ j is. record {
          place = place;
          runs = refl;
          callee = callee;
          called = called;
          inside = subst (Inside W callee) (sym is) itself;
        })

    -- what is inside a call of the callee stays as its inputs are copied
    pub copies_keep : (place : Source) (callee j : ℕ) (inputs : List Expr) (store : Store) (d : Bool) (left : Store) →
        callee_of W i place ≡ Some callee → DeedYields W (deed i place (Copies callee inputs)) store d left → InCall W callee j →
        slice_get left j ≡ slice_get store j
    copies_keep place callee j inputs store d left called does call =
        let call_here : InCall W i j = record { place = place; callee = callee; runs = called; inside = inside_callee W callee j call } in
        deeds.others W i j place (Copies callee inputs) store d left does
        (λ is. (let less = later_call i j call_here in omega (arith, less, is)))
        (λ is. (let less = later_call callee j call in omega (arith, less, is))) (unhomed i j call_here)

    -- ---- points

    silent : (Here : Source → Type 0) (at : Source) (store : Store) (d : Bool) (left : Store) → Framed W store →
        DeedYields W (deed i at Silent) store d left → Passing W i unit Here [] store left × Framed W left
    silent Here at store d left framed does =
        (deed_passing Here at Silent store d left does (λ j to. absurd to), deeds.framed W i at Silent store d left does tt framed)

    tested : (Here : Source → Type 0) (at : Source) (e : Expr) (store : Store) (d : Bool) (left : Store) → Framed W store →
        DeedYields W (deed i at (AsksFor e)) store d left → Passing W i unit Here [] store left × Framed W left
    tested Here at e store d left framed does =
        (deed_passing Here at (AsksFor e) store d left does (λ j to. absurd to), deeds.framed W i at (AsksFor e) store d left does tt framed)

    plain_node : (Here : Source → Type 0) (n : Node) (store left : Store) → declared_at n ≡ [] →
        Passing W i unit Here [] store left × Framed W left → NodeLeaves W i unit Here n store left
    plain_node Here n store left none both = record {
      passing = subst (λ ds. Passing W i unit Here ds store left) (sym none) both.0;
      framed = both.1;
      declared = λ x local at. absurd (none_among x (subst (λ ds. IsAmongVariables ds x) none at));
    }

    pub node_leaves : (Here : Source → Type 0) (n : Node) (store : Store) (d : Bool) (left : Store) → IsPoint n → Framed W store →
        DeedYields W (deed_at i n) store d left → NodeLeaves W i unit Here n store left
    node_leaves Here (ActAt l s) store d left is framed does = record {
      passing = deed_passing Here (out-Stmt s).place (Acts s) store d left does (λ j to. absurd to);
      framed = deeds.framed W i (out-Stmt s).place (Acts s) store d left does tt framed;
      declared = λ x local at. deeds.declared W i x unit (out-Stmt s).place s store d left here framed does local at;
    }
    node_leaves Here (TestAt l at e) store d left is framed does =
        plain_node Here (TestAt l at e) store left refl (tested Here at e store d left framed does)
    node_leaves Here (PauseAt l at) store d left is framed does =
        plain_node Here (PauseAt l at) store left refl (silent Here at store d left framed does)
    node_leaves Here (EnterAt l at arguments) store d left is framed does = absurd is
    node_leaves Here (ResumeAt l at arguments) store d left is framed does = absurd is
    node_leaves Here (HeadAt l at) store d left is framed does =
        plain_node Here (HeadAt l at) store left refl (silent Here at store d left framed does)
    node_leaves Here (StartAt l at) store d left is framed does =
        plain_node Here (StartAt l at) store left refl (silent Here at store d left framed does)
    node_leaves Here (CheckAt l at e) store d left is framed does =
        plain_node Here (CheckAt l at e) store left refl (tested Here at e store d left framed does)
    node_leaves Here (SurfaceEndAt l at) store d left is framed does =
        plain_node Here (SurfaceEndAt l at) store left refl (silent Here at store d left framed does)
    node_leaves Here (DepthEndAt l at) store d left is framed does =
        plain_node Here (DepthEndAt l at) store left refl (silent Here at store d left framed does)
    node_leaves Here (ForkAt l at) store d left is framed does =
        plain_node Here (ForkAt l at) store left refl (silent Here at store d left framed does)
    node_leaves Here (SurfaceJoinAt l at) store d left is framed does =
        plain_node Here (SurfaceJoinAt l at) store left refl (silent Here at store d left framed does)
    node_leaves Here (DepthJoinAt l at) store d left is framed does =
        plain_node Here (DepthJoinAt l at) store left refl (silent Here at store d left framed does)
